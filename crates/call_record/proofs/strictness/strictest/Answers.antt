use Rattle.std.proofs.Common.{◌≡◌, [], ◌∷◌, ◌∙◌, reverse, rules}
use Rattle.std.specs.Prelude.{fold}
use Rattle.call_record.specs.Verdict.{allow, strictest_of}
use Rattle.call_record.proofs.StrictestLemmas.{fold-strictest_of}
use Rattle.call_record.proofs.strictness.strictest.Goals as goal

pub returns : goal.returns
returns c =
    let folded : c.fold.result ≡ fold (λ older newer. strictest_of (newer ∷ older ∷ [])) allow (reverse c.args.newest_first.now) =
    search rules in
    folded ∙ fold-strictest_of c.args.newest_first.now
