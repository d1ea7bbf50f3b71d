-- The literals of a state by their words.
use Rattle.std.specs.Prelude.{◌≡◌, ◌==◌, ℕ, ◌<◌, ◌≤◌, Bool, true, if◌then◌else◌, List, [], ◌∷◌, length, slice_index_or, slice_range}
use Rattle.std.proofs.Props.{props}
use Rattle.cert_state.specs.declared.literal.Lit.{Lit}
use Rattle.cert_state.specs.declared.sorted.Part.{Part}
use Rattle.cert_state.specs.Literals.{index_of}
use Rattle.cert_state.specs.inner.Gathered.{AreFactsOf, AreFactsOf-prop}

-- the literals of one word
abbrev pub of_word : ℕ → List Lit → List Lit
of_word w [] = []
of_word w (l ∷ lits) = if index_of l == w then l ∷ of_word w lits else of_word w lits

-- the part of a table where the literals of w stand, with what they say
pub record IsPartOf (known table : List Lit) (w : ℕ) (part : Part) : Type 0 where
  pub ordered : part.from ≤ part.to
  pub within : part.to ≤ length table
  pub literals : slice_range table part.from part.to ≡ of_word w known
  pub facts : AreFactsOf (of_word w known) w part.facts

-- and so of each of the sixteen words
abbrev pub IsSorted : List Lit → List Lit → List Part → Type 0
IsSorted known table parts = (w : ℕ) (part : Part) → w < 16 → IsPartOf known table w (slice_index_or parts w part)

-- all of this has at most one proof
IsPartOf-prop : (known table : List Lit) (w : ℕ) (part : Part) → IsProp (IsPartOf known table w part)
IsPartOf-prop known table w part = hlevel (props, AreFactsOf-prop)

pub IsSorted-prop : (known table : List Lit) (parts : List Part) (all : Bool) → IsProp (all ≡ true → IsSorted known table parts)
IsSorted-prop known table parts all = hlevel (props, IsPartOf-prop)
