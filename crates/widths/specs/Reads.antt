-- How many bits of an argument a kernel reads, by the token and the number of a call.
use Rattle.std.specs.Prelude.{ℕ, min, nat_le, Bool, false}
use Rattle.std.specs.Prelude.{List, Option, Some, None, if◌then◌else◌, option_and_then, option_map, unwrap_or, slice_get}
use Rattle.std.specs.List.{find}
use Rattle.machines.specs.declared.arch.Arch.{Arch}
use Rattle.machines.specs.declared.arch.Family.TheVariants.{Whole}
use Rattle.machines.specs.Arch.{machines_of}
use Rattle.call_tables.specs.Tables.{table_of}
use Rattle.machines.specs.Numbers.{has_call}
use Rattle.call_tables.specs.Table.{name_in}
use Rattle.machines.specs.Width.{is_narrow}
use Rattle.widths.specs.declared.arguments.reading.Reading.{Reading}
use Rattle.widths.specs.Reading.{bits_of}
use Rattle.widths.specs.Rows.{readings_among}
use Rattle.widths.specs.Tables.{tables_of}

-- the machine of Linux whose call it is
abbrev pub owner_of : ℕ → ℕ → Option Arch
owner_of token nr = find (has_call token nr) (machines_of Whole)

abbrev pub on_machine : Arch → ℕ → Option (List Reading)
on_machine arch nr = option_and_then (readings_among (tables_of arch)) (name_in (table_of arch) nr)

abbrev pub on_owner : Option Arch → ℕ → Option (List Reading)
on_owner None nr = None
on_owner (Some arch) nr = on_machine arch nr

-- how the call reads its arguments, if that is known
unfoldable pub readings : ℕ → ℕ → Option (List Reading)
readings token nr = on_owner (owner_of token nr) nr

-- what is not known counts as read whole
abbrev pub bits_in : Option (List Reading) → ℕ → ℕ
bits_in None j = 64
bits_in (Some row) j = unwrap_or (option_map bits_of (slice_get row j)) 64

-- how many of the lowest bits of argument j are read: of x86 and ARM no more than the lower half of each
unfoldable pub read_bits : ℕ → ℕ → ℕ → ℕ
read_bits token nr j = if is_narrow token then min (bits_in (readings token nr) j) 32 else bits_in (readings token nr) j

-- all that is compared of argument j is read: of x86 and ARM the lower half is compared
abbrev pub is_all_read : ℕ → ℕ → ℕ → Bool
is_all_read token nr j = if is_narrow token then nat_le 32 (read_bits token nr j) else false

-- to how many bits argument j is cut: to those that are read, or not at all (64) where no more is compared
abbrev pub cut_bits : ℕ → ℕ → ℕ → ℕ
cut_bits token nr j = if is_all_read token nr j then 64 else read_bits token nr j
