-- The name of a number, by the constants of a kind.
use Rattle.std.specs.Prelude.{ℕ, ◌&&◌, ◌==◌, nat_lt, Bool, if◌then◌else◌, List, [], ◌∷◌, ◌++◌, filter, bit_and, bit_or, codes}
use Rattle.std.specs.Prelude.{Option, Some, None}
use Rattle.std.specs.Int.{is_power_of_two}
use Rattle.std.specs.Option.{option_or}
use Rattle.call_tables.specs.Table.{Table, name_in}
use Rattle.call_words.specs.declared.constant_names.kinds.Kind.{Kind}
use Rattle.call_words.specs.Kinds.{are_bits, constants}

-- one bit, which the number has
abbrev pub is_bit_of : ℕ → ℕ → Bool
is_bit_of n bit = is_power_of_two bit && (bit_and n bit == bit)

-- the constants of one bit that the number has
abbrev pub bits_in : ℕ → Table → Table
bits_in n table = filter (λ e. is_bit_of n e.1) table

-- all bits of these constants
abbrev pub all_bits : Table → ℕ
all_bits [] = 0
all_bits (e ∷ es) = bit_or e.1 (all_bits es)

-- their names, the first behind some text and the others behind a bar
abbrev pub joined : List ℕ → Table → List ℕ
joined before [] = []
joined before (e ∷ es) = before ++ e.0 ++ joined (codes "|") es

-- the names of all bits of a number, or none if a bit has no name
abbrev pub names_of_bits : ℕ → Table → Option (List ℕ)
names_of_bits n bits = if nat_lt 0 n && (all_bits bits == n) then Some (joined [] bits) else None

abbrev pub names_of_kind : Kind → Table → ℕ → Option (List ℕ)
names_of_kind kind table n = if are_bits kind then names_of_bits n (bits_in n table) else None

-- the first constant of this number, or else the names of all its bits
abbrev pub name_of : Kind → ℕ → Option (List ℕ)
name_of kind n = option_or (name_in (constants kind) n) (names_of_kind kind (constants kind) n)
