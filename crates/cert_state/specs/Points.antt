-- Which numbers a word may be, by the literals that speak of all its bits, and by those of some.
use Rattle.std.specs.Prelude.{◌≡◌, ◌≢◌, ◌==◌, ℕ, ◌<◌, ◌≤◌, ◌^◌, ⊤, if◌then◌else◌, List, [], ◌∷◌, All, bit_and, bit_or}
use Rattle.cert_state.specs.declared.literal.Lit.{Lit}
use Rattle.cert_state.specs.declared.literal.Lit.TheVariants.{In, Bits, NotBits}
use Rattle.cert_state.specs.Literals.{all_bits, index_of, Meets}

-- a literal that speaks of all bits of its word
abbrev pub IsWhole : Lit → Type 0
IsWhole (In w lo hi) = ⊤
IsWhole (Bits w m d) = m ≡ all_bits
IsWhole (NotBits w m d) = m ≡ all_bits

-- The number u is a point of the word w. It has 32 bits, and it meets each In of w, and each Bits and NotBits of w
-- whose mask is all.
abbrev pub IsPoint : List Lit → ℕ → ℕ → Type 0
IsPoint lits w u = (u < 2 ^ 32) × All (λ l. index_of l ≡ w → IsWhole l → Meets l u) lits

abbrev pub HasNoPoint : List Lit → ℕ → Type 0
HasNoPoint lits w = (u : ℕ) → IsPoint lits w u → ⊥

-- the least and the greatest point of w
pub record IsRange (lits : List Lit) (w lo hi : ℕ) : Type 0 where
  pub least : IsPoint lits w lo
  pub greatest : IsPoint lits w hi
  pub between : (u : ℕ) → IsPoint lits w u → (lo ≤ u) × (u ≤ hi)

-- no number from lo to hi has the datum d under the mask m
abbrev pub NoneBetween : ℕ → ℕ → ℕ → ℕ → Type 0
NoneBetween lo hi m d = (u : ℕ) → lo ≤ u → u ≤ hi → bit_and u m ≢ d

-- w has points, and no number from the least to the greatest has the datum d under the mask m
pub record IsMissed (lits : List Lit) (w m d : ℕ) : Type 0 where
  pub lo : ℕ
  pub hi : ℕ
  pub range : IsRange lits w lo hi
  pub missed : NoneBetween lo hi m d

-- the union, over the Bits of w, of what is taken of mask and datum
abbrev pub union_of : (ℕ → ℕ → ℕ) → List Lit → ℕ → ℕ
union_of part [] w = 0
union_of part (Bits v m d ∷ lits) w = if v == w then bit_or (part m d) (union_of part lits w) else union_of part lits w
union_of part (_ ∷ lits) w = union_of part lits w

-- the union of their masks, and of their data
abbrev pub mask_of : List Lit → ℕ → ℕ
mask_of lits w = union_of (λ m d. m) lits w

abbrev pub datum_of : List Lit → ℕ → ℕ
datum_of lits w = union_of (λ m d. d) lits w

-- each bit of m is one of n
abbrev pub IsWithin : ℕ → ℕ → Type 0
IsWithin m n = bit_and m n ≡ m

-- the Bits of w say that under the mask m it is d
pub record AreKnown (lits : List Lit) (w m d : ℕ) : Type 0 where
  pub within : IsWithin m (mask_of lits w)
  pub datum : bit_and (datum_of lits w) m ≡ d
