use Rattle.std.proofs.Common.{◌≡◌, ◌∙◌, [], List, ap, length, sym}
use Rattle.std.proofs.lemmas.Bool.{eqb-false}
use Rattle.compare.specs.declared.change.Change.{Change}
use Rattle.compare.proofs.filters.outcome.are_none.Goals as goal

pub returns : goal.returns
returns c = λ some none. eqb-false (length c.args.changes.now) 0 (sym c.is_empty.ensures ∙ some) (ap length none)
