use Rattle.std.proofs.Common.{◌↔◌, IsTrue, List, [], ◌∷◌, subst}
use Rattle.std.specs.List.{Any}
use Rattle.machines.specs.declared.arch.Arch.{Arch}
use Rattle.machines.specs.Numbers.{HasCall}
use Rattle.profile.specs.Policy.{IsNative}
use Rattle.profile.specs.Said as said
use Rattle.profile.proofs.SaidLaws.{Decides-is_native}
use Rattle.wording.proofs.Deciding.{same_answer}
use Rattle.explain.proofs.audited.lines.is_native.Goals as goal

pub returns : goal.returns
returns c =
    let p = c.args.profile.now in
    let r = c.args.nr ∷ c.args.token ∷ [] in
    let its : IsTrue c.are_for.result ↔ IsNative p r =
    subst (λ (machines : List Arch). IsTrue c.are_for.result ↔ Any (HasCall c.args.token c.args.nr) machines)
    c.machines.ensures.machines c.are_for.ensures in
    same_answer c.are_for.result (said.is_native p r) (IsNative p r) its (Decides-is_native p r)
