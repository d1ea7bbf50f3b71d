use Rattle.std.proofs.Common.{◌≡◌, Some, arith}
use Rattle.filter_c.specs.Machine.{machine_with}
use Rattle.filter_c.proofs.bundles.ccell_check.Goals as goal

pub returns-in-Some-clause-yes : goal.returns-in-Some-clause-yes
returns-in-Some-clause-yes c = λ zero.
    let is : machine_with c.args.native ≡ Some c.in-Some.arch = let a = c.machine_with.ensures in let b = c.in-Some.is in cc in
    (c.in-Some.arch, is, c.found.ensures.yes zero)

pub returns-in-Some-clause-no : goal.returns-in-Some-clause-no
returns-in-Some-clause-no c = λ one.
    let is : machine_with c.args.native ≡ Some c.in-Some.arch = let a = c.machine_with.ensures in let b = c.in-Some.is in cc in
    (c.in-Some.arch, is, c.found.ensures.no one)

pub returns-in-Some-clause-room : goal.returns-in-Some-clause-room
returns-in-Some-clause-room c = λ two.
    let is : machine_with c.args.native ≡ Some c.in-Some.arch = let a = c.machine_with.ensures in let b = c.in-Some.is in cc in
    (c.in-Some.arch, is, c.found.ensures.room two)

pub returns-in-Some-clause-machine : goal.returns-in-Some-clause-machine
returns-in-Some-clause-machine c = (
  λ four. let few = c.found.ensures.statuses in absurd (omega (arith, four, few)),
  λ none. let a = c.machine_with.ensures in let b = c.in-Some.is in cc,
)
