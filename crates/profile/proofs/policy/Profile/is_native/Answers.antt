use Rattle.std.proofs.Common.{◌≡◌, List, sym, ap, subst, ◌∙◌}
use Rattle.std.specs.List.{Any}
use Rattle.machines.specs.declared.arch.Arch.{Arch}
use Rattle.machines.specs.Numbers.{HasCall}
use Rattle.profile.specs.Policy.{Policy}
use Rattle.profile.proofs.policy.Profile.is_native.Goals as goal

pub returns : goal.returns
returns c =
    let P : List Arch → Type 0 = Any (HasCall c.args.call.now.arch c.args.call.now.nr) in
    let inside : c.self.inside.machines.items ≡ c.args.self.now.machines = ap (λ (q : Policy). q.machines) c.self.view_is in
    let machines : c.as_slice.result.now ≡ c.args.self.now.machines = c.as_slice.ensures.value ∙ inside in
    (λ t. subst P machines (c.are_for.ensures.0 t), λ n. c.are_for.ensures.1 (subst P (sym machines) n))
