-- Words that name a call.
use Rattle.std.specs.Prelude.{ℕ, ◌^◌, ◌&&◌, ◌||◌, nat_lt, Bool, false, is_some, List, Option, Some, None}
use Rattle.texts.specs.Splits.{split_at}
use Rattle.machines.specs.declared.arch.Arch.{Arch}
use Rattle.machines.specs.declared.arch.Family.{Family}
use Rattle.machines.specs.Arch.{family_of, machine_called, same_family}
use Rattle.call_tables.specs.Tables.{table_of}
use Rattle.call_tables.specs.Table.{number_in}
use Rattle.call_words.specs.Numbers.{number_of}

abbrev pub colon : ℕ
colon = 58

-- a number of 32 bits
abbrev pub is_short : Option ℕ → Bool
is_short None = false
is_short (Some n) = nat_lt n (2 ^ 32)

abbrev pub is_of : Family → Option Arch → Bool
is_of family None = false
is_of family (Some arch) = same_family (family_of arch) family

-- a machine of the family, and a number of 32 bits
abbrev pub are_call : Family → Option (List ℕ × List ℕ) → Bool
are_call family None = false
are_call family (Some parts) = is_of family (machine_called parts.0) && is_short (number_of parts.1)

-- the name of a native call, or a machine of the native one's family and a number, with a colon between them
unfoldable pub is_call : Arch → List ℕ → Bool
is_call native word = is_some (number_in (table_of native) word) || are_call (family_of native) (split_at colon word)
