use Rattle.std.proofs.Common.{ℕ, List, subst}
use Rattle.std.specs.List.{Any}
use Rattle.machines.specs.declared.arch.Arch.{Arch}
use Rattle.machines.specs.Numbers.{HasCall}
use Rattle.profile.specs.declared.rules.Rule.{Rule}
use Rattle.profile.specs.Policy.{IsNative}
use Rattle.strace_logs.specs.Line.{words_of_call}
use Rattle.strace_logs.specs.Taken.{OneAllows}
use Rattle.strace_logs.proofs.GatheredLaws.{profile_allows}
use Rattle.strace_logs.proofs.judging.allows_each.Goals as goal

pub returns : goal.returns
returns c = λ it_does.
    let p = c.args.profile.now in
    let seen = c.args.seen.now in
    let native : IsNative p (words_of_call (seen.arch, seen.nr, seen.values)) =
    subst (λ (t : ℕ). Any (HasCall t seen.nr) p.machines) c.token.ensures
    (subst (λ (machines : List Arch). Any (HasCall c.token.result seen.nr) machines) c.machines.ensures.machines
    (c.are_for.ensures.0 c.if-not-are_for.false)) in
    profile_allows p seen c.machines.ensures.is_profile native
    (subst (λ (rules : List Rule). OneAllows rules seen) c.rules.ensures.rules (c.one_allows.ensures it_does))
