-- Literals by their numbers.
use Rattle.std.specs.Prelude.{◌≡◌, ℕ, ◌+◌, ◌*◌, List, map, bit_and}
use Rattle.std.proofs.Props.{props}
use Rattle.cert_state.specs.declared.literal.Lit.{Lit}
use Rattle.cert_state.specs.declared.literal.Lit.TheVariants.{In, Bits, NotBits}
use Rattle.cert_state.specs.Points.{IsWithin}

-- the kind of a literal and its word in one number, and its two numbers
abbrev pub tag_of : Lit → ℕ
tag_of (In w a b) = 4 * w
tag_of (Bits w m d) = 4 * w + 1
tag_of (NotBits w m d) = 4 * w + 2

abbrev pub first_of : Lit → ℕ
first_of (In w a b) = a
first_of (Bits w m d) = m
first_of (NotBits w m d) = m

abbrev pub second_of : Lit → ℕ
second_of (In w a b) = b
second_of (Bits w m d) = d
second_of (NotBits w m d) = d

-- the mask and the datum that a literal excludes; one that excludes nothing has a datum that is none's under its mask
abbrev pub mask_out : Lit → ℕ
mask_out (In w a b) = 0
mask_out (Bits w m d) = 0
mask_out (NotBits w m d) = m

abbrev pub datum_out : Lit → ℕ
datum_out (In w a b) = 1
datum_out (Bits w m d) = 1
datum_out (NotBits w m d) = d

-- columns have the numbers of literals
pub record AreRows (lits : List Lit) (tags firsts seconds masks excluded : List ℕ) : Type 0 where
  pub has_tags : tags ≡ map tag_of lits
  pub has_firsts : firsts ≡ map first_of lits
  pub has_seconds : seconds ≡ map second_of lits
  pub has_masks : masks ≡ map mask_out lits
  pub has_excluded : excluded ≡ map datum_out lits

-- a literal has these numbers
abbrev pub HasNumbers : Lit → ℕ → ℕ → ℕ → Type 0
HasNumbers l tag first second = (tag_of l ≡ tag) × (first_of l ≡ first) × (second_of l ≡ second)

-- a literal, whichever its word is, excludes a datum under a mask
abbrev pub ExcludesBy : Lit → ℕ → ℕ → Type 0
ExcludesBy l mask datum = IsWithin (mask_out l) mask × (bit_and datum (mask_out l) ≡ datum_out l)

-- all of this has at most one proof
pub AreRows-prop : (lits : List Lit) (tags firsts seconds masks excluded : List ℕ)
    → IsProp (AreRows lits tags firsts seconds masks excluded)
AreRows-prop lits tags firsts seconds masks excluded = hlevel props
