-- Places that are marked in a table.
use Rattle.std.specs.Prelude.{◌≡◌, ◌↔◌, ◌==◌, ℕ, ◌+◌, ◌*◌, ◌<◌, ◌⊎◌, true, false, Bool}
use Rattle.std.specs.Prelude.{if◌then◌else◌, List, [], ◌∷◌, Contains, length, slice_index_or}

abbrev pub is_among : List ℕ → ℕ → Bool
is_among [] place = false
is_among (p ∷ places) place = if p == place then true else is_among places place

-- of the places below the table's size just these are marked
abbrev pub AreMarked : List ℕ → List Bool → Type 0
AreMarked places table = (k : ℕ) (d : Bool) → k < 8192 → slice_index_or table k d ≡ is_among places k

-- they are, once those are marked as well that are left
abbrev pub AreMarkedBut : List ℕ → List Bool → List ℕ → Type 0
AreMarkedBut places table rest = (k : ℕ) (d : Bool) → k < 8192 → ((slice_index_or table k d ≡ true) ⊎ Contains rest k) ↔ Contains places k

-- the same of places of conditions, that of the rule first
abbrev pub is_said : List (ℕ × ℕ) → ℕ → ℕ → Bool
is_said [] rule own = false
is_said (p ∷ places) rule own =
    if p.0 == rule then (if p.1 == own then true else is_said places rule own) else is_said places rule own

-- no place of a table is marked
abbrev pub IsClear : List Bool → Type 0
IsClear table = (k : ℕ) (d : Bool) → k < length table → slice_index_or table k d ≡ false

-- of the conditions with a place in a table, six for each rule, just these are marked
abbrev pub AreMetMarked : List (ℕ × ℕ) → List Bool → Type 0
AreMetMarked places table =
    (rule own : ℕ) (d : Bool) → own < 6 → 6 * rule + own < length table → slice_index_or table (6 * rule + own) d ≡ is_said places rule own

-- they are, once those are marked as well that are left
abbrev pub AreMetMarkedBut : List (ℕ × ℕ) → List Bool → List (ℕ × ℕ) → Type 0
AreMetMarkedBut places table rest =
    (rule own : ℕ) (d : Bool) → own < 6 → 6 * rule + own < length table
    → ((slice_index_or table (6 * rule + own) d ≡ true) ⊎ Contains rest (rule, own)) ↔ Contains places (rule, own)
