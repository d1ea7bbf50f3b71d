use Rattle.std.proofs.Common.{◌≡◌, ℕ, false, List, ap, sym, ◌∙◌}
use Rattle.std.proofs.lemmas.Bool.{not-true}
use Rattle.call_record.specs.Fate.{is_further}
use Rattle.differ.specs.Left.{verdict}
use Rattle.differ.specs.declared.left.Rest.{Rest}
use Rattle.differ.proofs.BoundLaws.{least}
use Rattle.differ.proofs.bounded.is_refused.Goals as goal

pub returns : goal.returns
returns c = λ yes w a.
    let side = c.args.side.now in
    let says : verdict side.last side.rules.items a ≡ side.last =
    ap (λ (rs : List Rest). verdict side.last rs a) (c.has_rules.ensures c.if-has_rules.false) in
    let few : is_further side.last 0 ≡ false = sym c.goes_further.ensures ∙ not-true c.goes_further.result yes in
    ap (λ v. is_further v w) says ∙ least side.last w few
