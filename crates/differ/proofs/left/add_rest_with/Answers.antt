use Rattle.std.proofs.Common.{◌≡◌, List, false, ap, sym, ◌∙◌, subst}
use Rattle.std.specs.Prelude.{if◌then◌else◌}
use Rattle.differ.specs.Left.{are_met, side_says}
use Rattle.differ.specs.declared.left.Part.{Part}
use Rattle.differ.proofs.left.add_rest_with.Goals as goal

pub returns-in-None : goal.returns-in-None
returns-in-None c = λ a b r.
    let given : are_met c.deref.result.now b ≡ false = (rw c.in-None.is at c.in_ok-parts_with.ensures.none) a b r in
    let none : are_met c.args.rest.now.parts.items b ≡ false = subst (λ (ps : List Part). are_met ps b ≡ false) c.deref.ensures.value given in
    sym (ap (λ m. if m then c.args.rest.now.word else side_says c.args.side.now a) none)
