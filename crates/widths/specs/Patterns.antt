-- Bits that a number has under a mask, and the lists of them that stand for a comparison.
use Rattle.std.specs.Prelude.{◌≡◌, ℕ, zero, suc, ◌+◌, ◌-◌, ◌/◌, ◌%◌, ◌^◌, ◌==◌, Bool, List, [], ◌∷◌, ◌++◌}
use Rattle.std.specs.Prelude.{bit_and, Option, Some, None, if◌then◌else◌}
use Rattle.std.specs.Option.{option_to_list}
use Rattle.widths.specs.declared.narrowing.patterns.Pattern.{Pattern}

abbrev pub HasPattern : ℕ → Pattern → Type 0
HasPattern u p = bit_and u p.mask ≡ p.datum

-- the bits of a value from a place on
abbrev pub high : ℕ → ℕ → ℕ
high value place = value - value % 2 ^ place

-- the bits from a place on, up to those of the width, are those of a number
abbrev pub from_place : ℕ → ℕ → ℕ → Pattern
from_place bits place datum = record { mask = 2 ^ bits - 2 ^ place; datum = datum }

-- the numbers that turn from a value at a place: they have its bits above, and there the other one
abbrev pub turn_at : ℕ → ℕ → Bool → Bool → ℕ → Option Pattern
turn_at bits value up down place =
    if value / 2 ^ place % 2 == 0
    then (if up then Some (from_place bits place (high value place + 2 ^ place)) else None)
    else (if down then Some (from_place bits place (high value place - 2 ^ place)) else None)

abbrev pub turns_below : ℕ → ℕ → Bool → Bool → ℕ → List Pattern
turns_below bits value up down zero = []
turns_below bits value up down (suc place) =
    turns_below bits value up down place ++ option_to_list (turn_at bits value up down place)

-- all numbers above a value, or below it, or both
unfoldable pub turns : ℕ → ℕ → Bool → Bool → List Pattern
turns bits value up down = turns_below bits value up down bits

abbrev pub one : ℕ → ℕ → List Pattern
one mask datum = record { mask = mask; datum = datum } ∷ []
