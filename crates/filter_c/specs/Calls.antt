-- Names and numbers of calls, of machines by the numbers of seccomp_arch_add(3).
use Rattle.std.specs.Prelude.{ℕ, ◌≡◌, List, Some, None}
use Rattle.machines.specs.declared.arch.Arch.{Arch}
use Rattle.call_tables.specs.Tables.{table_of}
use Rattle.call_tables.specs.Table.{name_in, number_in}
use Rattle.filter_c.specs.Machine.{machine_with}

-- the machine's call of this name has the number
abbrev pub HasNumber : ℕ → List ℕ → ℕ → Type 0
HasNumber machine name number = (arch : Arch) × (machine_with machine ≡ Some arch) × (number_in (table_of arch) name ≡ Some number)

-- the machine has no call of this name
abbrev pub HasNoNumber : ℕ → List ℕ → Type 0
HasNoNumber machine name = (arch : Arch) × (machine_with machine ≡ Some arch) × (number_in (table_of arch) name ≡ None)

-- the machine's call of this number has the name
abbrev pub HasName : ℕ → ℕ → List ℕ → Type 0
HasName machine number name = (arch : Arch) × (machine_with machine ≡ Some arch) × (name_in (table_of arch) number ≡ Some name)

-- the machine has no call of this number
abbrev pub HasNoName : ℕ → ℕ → Type 0
HasNoName machine number = (arch : Arch) × (machine_with machine ≡ Some arch) × (name_in (table_of arch) number ≡ None)
