-- What was gathered of a word.
use Rattle.std.specs.Prelude.{◌≡◌, ◌≢◌, ℕ, ◌<◌, ◌≤◌, ⊤, true, List, Contains, bit_and, length, slice_index_or, take}
use Rattle.std.proofs.Props.{props}
use Rattle.cert_state.specs.declared.literal.Lit.{Lit}
use Rattle.cert_state.specs.declared.literal.Lit.TheVariants.{In, Bits, NotBits}
use Rattle.cert_state.specs.declared.gathered.Asked.{Asked}
use Rattle.cert_state.specs.declared.gathered.Asked.TheVariants.{Whole, Free, Exact}
use Rattle.cert_state.specs.declared.gathered.WordFacts.{WordFacts}
use Rattle.cert_state.specs.Literals.{Meets}
use Rattle.cert_state.specs.Points.{AreKnown, HasNoPoint, IsRange, IsWithin, datum_of, mask_of}

-- a literal, if it is a Bits of w, says no more than a mask and a datum
abbrev pub Follows : ℕ → ℕ → ℕ → Lit → Type 0
Follows w mask datum (Bits v m d) = v ≡ w → IsWithin m mask × (bit_and datum m ≡ d)
Follows w mask datum (In v lo hi) = ⊤
Follows w mask datum (NotBits v m d) = ⊤

-- a literal is no NotBits of w
abbrev pub IsOther : ℕ → Lit → Type 0
IsOther w (NotBits v m d) = v ≢ w
IsOther w (In v lo hi) = ⊤
IsOther w (Bits v m d) = ⊤

-- the datum of a literal, if it is a NotBits of w, has no bit outside the mask
abbrev pub IsExact : ℕ → Lit → Type 0
IsExact w (NotBits v m d) = v ≡ w → bit_and d m ≡ d
IsExact w (In v lo hi) = ⊤
IsExact w (Bits v m d) = ⊤

-- what is asked of each literal, for w
abbrev pub Holds : Asked → ℕ → Lit → Type 0
Holds (Whole mask datum) w = Follows w mask datum
Holds Free w = IsOther w
Holds Exact w = IsExact w

-- what was gathered of w is what the literals say of it
pub record AreFactsOf (lits : List Lit) (w : ℕ) (facts : WordFacts) : Type 0 where
  pub range : facts.low ≤ facts.high → IsRange lits w facts.low facts.high
  pub none : facts.high < facts.low → HasNoPoint lits w
  pub mask : facts.mask ≡ mask_of lits w
  pub datum : facts.datum ≡ datum_of lits w
  pub whole : facts.whole ≡ true → (m d : ℕ) → Contains lits (Bits w m d) → AreKnown lits w m d
  pub free : facts.free ≡ true → (m d : ℕ) → Contains lits (NotBits w m d) → ⊥
  pub exact : facts.exact ≡ true → (m d : ℕ) → Contains lits (NotBits w m d) → bit_and d m ≡ d

-- all of this has at most one proof
Meets-prop : (l : Lit) (u : ℕ) → IsProp (Meets l u)
Meets-prop (In w lo hi) u = hlevel props
Meets-prop (Bits w m d) u = hlevel props
Meets-prop (NotBits w m d) u = hlevel props

IsRange-prop : (lits : List Lit) (w lo hi : ℕ) → IsProp (IsRange lits w lo hi)
IsRange-prop lits w lo hi = hlevel (props, Meets-prop)

pub AreFactsOf-prop : (lits : List Lit) (w : ℕ) (facts : WordFacts) → IsProp (AreFactsOf lits w facts)
AreFactsOf-prop lits w facts = hlevel (props, IsRange-prop)

-- what is kept for each place of a list was gathered of the literals before it
abbrev pub AreKept : List Lit → ℕ → List WordFacts → Type 0
AreKept lits w before = (k : ℕ) (d : WordFacts) → k < length lits → AreFactsOf (take k lits) w (slice_index_or before k d)

pub AreKept-prop : (lits : List Lit) (w : ℕ) (before : List WordFacts) → IsProp (AreKept lits w before)
AreKept-prop lits w before = hlevel (props, AreFactsOf-prop)
