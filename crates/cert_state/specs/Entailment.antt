-- What follows from what is known, and what can not be so.
use Rattle.std.specs.Prelude.{◌≡◌, ◌≢◌, ℕ, ◌<◌, ◌≤◌, ◌⊎◌, List, Contains, bit_and, bit_xor}
use Rattle.cert_state.specs.declared.literal.Lit.{Lit}
use Rattle.cert_state.specs.declared.literal.Lit.TheVariants.{In, Bits, NotBits}
use Rattle.cert_state.specs.Points.{AreKnown, HasNoPoint, IsMissed, IsRange, IsWithin, datum_of, mask_of}

-- two data differ on a bit of both masks
abbrev pub Differ : ℕ → ℕ → ℕ → ℕ → Type 0
Differ m d n e = bit_and (bit_and m n) (bit_xor d e) ≢ 0

-- the points of w lie from a to b
pub record IsBounded (lits : List Lit) (w a b : ℕ) : Type 0 where
  pub lo : ℕ
  pub hi : ℕ
  pub range : IsRange lits w lo hi
  pub from : a ≤ lo
  pub to : hi ≤ b

-- w has just one point, which under the mask m is d
pub record IsOnePoint (lits : List Lit) (w m d : ℕ) : Type 0 where
  pub point : ℕ
  pub range : IsRange lits w point point
  pub datum : bit_and point m ≡ d

-- a NotBits of w, under a mask within m, excludes d
pub record IsExcluded (lits : List Lit) (w m d : ℕ) : Type 0 where
  pub mask : ℕ
  pub datum : ℕ
  pub stated : Contains lits (NotBits w mask datum)
  pub within : IsWithin mask m
  pub same : bit_and d mask ≡ datum

-- what the literals of a word give of it
abbrev pub Derives : List Lit → Lit → Type 0
Derives lits (In w a b) = IsBounded lits w a b
Derives lits (Bits w m d) = AreKnown lits w m d ⊎ IsOnePoint lits w m d
Derives lits (NotBits w m d) = Differ (mask_of lits w) (datum_of lits w) m d ⊎ (IsExcluded lits w m d ⊎ IsMissed lits w m d)

-- a literal follows: it is stated, or derived
abbrev pub Entails : List Lit → Lit → Type 0
Entails lits l = Contains lits l ⊎ Derives lits l

-- two Bits of w differ on a bit of both masks
pub record IsTornAt (lits : List Lit) (w : ℕ) : Type 0 where
  pub mask : ℕ
  pub datum : ℕ
  pub other_mask : ℕ
  pub other_datum : ℕ
  pub one : Contains lits (Bits w mask datum)
  pub other : Contains lits (Bits w other_mask other_datum)
  pub differ : Differ mask datum other_mask other_datum

-- The literals of the word w can not all be true. It has no point, or two of its Bits differ. Or no number from its
-- least to its greatest point is as its Bits say, or a NotBits excludes what they say.
abbrev pub IsDeadAt : List Lit → ℕ → Type 0
IsDeadAt lits w =
    HasNoPoint lits w
    ⊎ (IsTornAt lits w
    ⊎ (IsMissed lits w (mask_of lits w) (datum_of lits w) ⊎ IsExcluded lits w (mask_of lits w) (datum_of lits w)))

-- this is so of one of the words
abbrev pub IsDead : List Lit → Type 0
IsDead lits = (w : ℕ) × (w < 16) × IsDeadAt lits w
