use Rattle.std.proofs.Common.{subst}
use Rattle.std.specs.Prelude.{IfSome}
use Rattle.machines.specs.declared.arch.Arch.{Arch}
use Rattle.profile_json.specs.Breaks.{Breaks}
use Rattle.profile_json.specs.Fault.{fault_of}
use Rattle.compare.specs.Told.{IsBundle}
use Rattle.compare.proofs.ToldLaws.{both_compared, second_refused}
use Rattle.compare.proofs.told.compare_with.Goals as goal

pub returns-in-Ok : goal.returns-in-Ok
returns-in-Ok c = λ first same means.
    let second = c.args.second.now.bytes in
    let profile = c.in-Ok.other.now.profile in
    both_compared c.args.atmost c.args.native first second c.args.one.now profile c.compare_profiles.result means
    (subst (λ (n : Arch). IsBundle n second profile) same c.in-Ok.ensures.ok) c.compare_profiles.ensures

pub returns-in-Err : goal.returns-in-Err
returns-in-Err c = λ first same means.
    let second = c.args.second.now.bytes in
    second_refused c.args.atmost c.args.native first second c.args.one.now c.in-Err.error c.refused.result means
    (subst (λ (n : Arch). IfSome (fault_of c.in-Err.error) (Breaks second n)) same c.in-Err.ensures.err) c.refused.ensures
