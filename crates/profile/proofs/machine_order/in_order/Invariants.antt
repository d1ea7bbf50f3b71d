use Rattle.std.proofs.Common.{◌≡◌, ◌≤◌, length, take}
use Rattle.std.specs.Prelude.{filter}
use Rattle.std.specs.List.{list_any}
use Rattle.machines.specs.Arch.{same_arch}
use Rattle.profile.proofs.machine_order.in_order.Given as goal

abbrev pub invariant-loop-arch : goal.invariant-loop-arch
invariant-loop-arch l =
    (l.listed.items ≡ filter (λ a. list_any (same_arch a) l.archs) (take l.arch-index l.arch-items))
    × (length l.listed.items ≤ l.arch-index)
