use Rattle.std.proofs.Common.{◌≡◌, ◌∙◌, ℕ, List, ap, subst, sym, true}
use Rattle.std.specs.String.{string_bytes}
use Rattle.profile.specs.declared.rules.Rule.{Rule}
use Rattle.widths.specs.Alike.{IsNarrowed}
use Rattle.widths.specs.Lowered.{with_rules}
use Rattle.widths.specs.Narrow.{IsBundle}
use Rattle.wording.specs.Told.{was_done}
use Rattle.wording.proofs.Ends.{done_of}
use Rattle.widths.proofs.NarrowToldLaws.{none_done}
use Rattle.widths.proofs.told.confirmed.Goals as goal

pub returns-in-Ok : goal.returns-in-Ok
returns-in-Ok c =
    let p = c.args.profile.now in
    let q = c.in-Ok.read.profile in
    let given : IsBundle c.args.native (string_bytes c.args.text) q =
    subst (λ (bytes : List ℕ). IsBundle c.args.native bytes q) c.as_bytes.ensures.value c.in-Ok.ensures.ok in
    λ bundle means done.
    let b = c.is_narrowed_of-is_narrowed.result in
    let holds : b ≡ true = sym (done_of b) ∙ (sym (ap was_done c.of.ensures) ∙ done) in
    record {
      read = p;
      means = means;
      lowers = c.args.lowers.now;
      are_lowered = c.requires.lowered;
      narrowed = q;
      says = rw c.into_bytes.ensures.value given;
      is_narrowed = c.is_narrowed_of-is_narrowed.ensures holds;
      fitting = λ fit.
          subst (λ (rules : List Rule). IsNarrowed (with_rules p rules) q)
          (c.fitting_stay.ensures c.args.lowers.now p.rules fit c.requires.lowered)
          (c.is_narrowed_of-is_narrowed.ensures holds);
    }

pub returns-in-Err : goal.returns-in-Err
returns-in-Err c = λ bundle means. none_done c.args.native bundle c.refused_profile.result c.refused_profile.ensures.done
