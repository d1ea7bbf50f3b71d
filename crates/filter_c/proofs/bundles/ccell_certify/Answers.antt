use Rattle.std.proofs.Common.{◌≡◌, Some, arith}
use Rattle.filter_c.specs.Machine.{machine_with}
use Rattle.filter_c.proofs.bundles.ccell_certify.Goals as goal

pub returns-in-Some-clause-made : goal.returns-in-Some-clause-made
returns-in-Some-clause-made c = λ zero.
    let is : machine_with c.args.native ≡ Some c.in-Some.arch = let a = c.machine_with.ensures in let b = c.in-Some.is in cc in
    (c.in-Some.arch, is, c.certified.ensures.made zero)

pub returns-in-Some-clause-other : goal.returns-in-Some-clause-other
returns-in-Some-clause-other c = λ one.
    let is : machine_with c.args.native ≡ Some c.in-Some.arch = let a = c.machine_with.ensures in let b = c.in-Some.is in cc in
    (c.in-Some.arch, is, c.certified.ensures.other one)

pub returns-in-Some-clause-room : goal.returns-in-Some-clause-room
returns-in-Some-clause-room c = λ two.
    let is : machine_with c.args.native ≡ Some c.in-Some.arch = let a = c.machine_with.ensures in let b = c.in-Some.is in cc in
    (c.in-Some.arch, is, c.certified.ensures.room two)

pub returns-in-Some-clause-machine : goal.returns-in-Some-clause-machine
returns-in-Some-clause-machine c = (
  λ four. let few = c.certified.ensures.statuses in absurd (omega (arith, four, few)),
  λ none. let a = c.machine_with.ensures in let b = c.in-Some.is in cc,
)
