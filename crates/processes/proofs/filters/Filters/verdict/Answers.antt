use Rattle.std.proofs.Common.{◌≡◌, ap, [], ◌∷◌, ◌∙◌, reverse, rules}
use Rattle.std.specs.Prelude.{fold}
use Rattle.call_record.specs.Verdict.{allow, strictest_of}
use Rattle.processes.specs.inner.Loads.{filter_of}
use Rattle.processes.proofs.FilterLemmas.{fold_verdicts, verdicts_seen}
use Rattle.processes.proofs.filters.Filters.verdict.Goals as goal

pub returns : goal.returns
returns c =
    let folded : c.fold.result ≡ fold (λ older f. strictest_of ((filter_of f).judge.verdict c.args.rec.now
    ∷ older ∷ [])) allow (reverse c.args.self.now) =
    search rules in
    folded ∙ (fold_verdicts (λ f. (filter_of f).judge.verdict c.args.rec.now) c.args.self.now
    ∙ ap strictest_of (verdicts_seen c.args.rec.now c.args.self.now))
