-- What a refusal holds and prints of a call name.
use Rattle.std.specs.Prelude.{ℕ, zero, suc, List, take, length, Bool, ◌==◌, ◌||◌, nat_lt, nat_le, slice_index, if◌then◌else◌, codes}
use Rattle.std.specs.List.{flat_map}
use Rattle.std.specs.Str.{chars}
use Rattle.std.specs.Char.{encode_utf8}

-- a character of the text begins at i, or the text ends there
abbrev pub is_boundary : List ℕ → ℕ → Bool
is_boundary name i = if nat_lt i (length name) then nat_lt (slice_index name i) 128 || nat_le 192 (slice_index name i) else i == length name

-- the last such place up to n
abbrev pub boundary_up_to : ℕ → List ℕ → ℕ
boundary_up_to zero name = 0
boundary_up_to (suc n) name = if is_boundary name (suc n) then suc n else boundary_up_to n name

-- the longest beginning of a call name with at most 64 bytes and whole characters
unfoldable pub short_name : List ℕ → List ℕ
short_name name = take (boundary_up_to 64 name) name

-- a character as it is printed: `?` for those below 0x20 and for 0x7f
abbrev pub printed_char : ℕ → List ℕ
printed_char c = if nat_lt c 0x20 || c == 0x7f then codes "?" else encode_utf8 c

-- a call name as it is printed
abbrev pub printed : List ℕ → List ℕ
printed name = flat_map printed_char (chars name)
