use Rattle.std.proofs.Common.{◌≡◌, ◌↔◌, IsTrue, List, [], ◌∷◌, Bool, true, false, refl, sym, subst}
use Rattle.std.specs.List.{Any}
use Rattle.std.specs.Bool.{Decides}
use Rattle.machines.specs.declared.arch.Arch.{Arch}
use Rattle.machines.specs.Numbers.{HasCall}
use Rattle.profile.specs.Policy.{IsNative}
use Rattle.profile.specs.Said.{is_native}
use Rattle.profile.proofs.SaidLaws.{Decides-is_native}
use Rattle.widths.proofs.unread_bits.sides.is_native.Goals as goal

same_answer : (a b : Bool) (P : Type 0) → (IsTrue a ↔ P) → Decides b P → a ≡ b
same_answer true b P told decided = sym (decided.1 (told.0 refl))
same_answer false true P told decided = told.1 (decided.0 refl)
same_answer false false P told decided = refl

pub returns : goal.returns
returns c =
    let p = c.args.profile.now in
    let r = c.args.nr ∷ c.args.token ∷ [] in
    let its : IsTrue c.are_for.result ↔ IsNative p r =
    subst (λ (machines : List Arch). IsTrue c.are_for.result ↔ Any (HasCall c.args.token c.args.nr) machines)
    c.machines.ensures.machines c.are_for.ensures in
    same_answer c.are_for.result (is_native p r) (IsNative p r) its (Decides-is_native p r)
