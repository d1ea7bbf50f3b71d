use Rattle.std.proofs.Common.{◌≡◌, take, map, Some}
use Rattle.machines.specs.declared.arch.Arch.{Arch}
use Rattle.filter_c.specs.Machine.{machine_with}
use Rattle.filter_c.proofs.added.made.machines_with.Given as goal

abbrev pub invariant-loop-place : goal.invariant-loop-place
invariant-loop-place l = map (λ (a : Arch). Some a) l.archs.items ≡ map machine_with (take l.place l.numbers)
