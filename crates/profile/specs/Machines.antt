-- Listed machines in order.
use Rattle.std.specs.Prelude.{List, filter}
use Rattle.std.specs.List.{list_any}
use Rattle.machines.specs.declared.arch.Arch.{Arch}
use Rattle.machines.specs.declared.arch.Family.{Family}
use Rattle.machines.specs.Arch.{machines_of, same_arch}

-- each listed machine of a family once, x86-64 first
abbrev pub in_order : Family → List Arch → List Arch
in_order family archs = filter (λ a. list_any (same_arch a) archs) (machines_of family)
