use Rattle.std.proofs.Common.{◌≡◌, Some, arith}
use Rattle.filter_c.specs.Machine.{machine_with}
use Rattle.filter_c.proofs.bundles.ccell_filter_for_bundle.Goals as goal

pub returns-in-Some-clause-made : goal.returns-in-Some-clause-made
returns-in-Some-clause-made c = λ zero.
    let is : machine_with c.args.native ≡ Some c.in-Some.arch = let a = c.machine_with.ensures in let b = c.in-Some.is in cc in
    (c.in-Some.arch, is, c.filter_for.ensures.made zero)

pub returns-in-Some-clause-refused : goal.returns-in-Some-clause-refused
returns-in-Some-clause-refused c = λ one.
    let is : machine_with c.args.native ≡ Some c.in-Some.arch = let a = c.machine_with.ensures in let b = c.in-Some.is in cc in
    (c.in-Some.arch, is, c.filter_for.ensures.refused one)

pub returns-in-Some-clause-room : goal.returns-in-Some-clause-room
returns-in-Some-clause-room c = λ two.
    let is : machine_with c.args.native ≡ Some c.in-Some.arch = let a = c.machine_with.ensures in let b = c.in-Some.is in cc in
    (c.in-Some.arch, is, c.filter_for.ensures.room two)

pub returns-in-Some-clause-machine : goal.returns-in-Some-clause-machine
returns-in-Some-clause-machine c = (
  λ four. let few = c.filter_for.ensures.statuses in absurd (omega (arith, four, few)),
  λ none. let a = c.machine_with.ensures in let b = c.in-Some.is in cc,
)
