-- What is kept of the values of a call's arguments.
use Rattle.std.specs.Prelude.{ℕ, Bool, false, List, [], ◌∷◌, if◌then◌else◌, slice_index_or}
use Rattle.widths.specs.Reads.{cut_bits}

-- How many of the lowest bits of argument j are kept. It is those that are read, or all if no more is compared. Of an argument that is not
-- asked for it is 0.
abbrev pub bits_at : List Bool → ℕ → ℕ → ℕ → ℕ
bits_at places token nr j = if slice_index_or places j false then cut_bits token nr j else 0

abbrev pub bits_of : List Bool → ℕ → ℕ → List ℕ
bits_of places token nr =
    bits_at places token nr 0 ∷ bits_at places token nr 1 ∷ bits_at places token nr 2
    ∷ bits_at places token nr 3 ∷ bits_at places token nr 4 ∷ bits_at places token nr 5 ∷ []
