-- Numbers near another, as they are looked at in turn.
use Rattle.std.specs.Prelude.{◌≡◌, ℕ, ◌+◌, Bool, true, false, List, Contains}
use Rattle.cert_state.specs.declared.literal.Lit.{Lit}
use Rattle.cert_state.specs.declared.literal.Lit.TheVariants.{NotBits}
use Rattle.cert_state.specs.Literals.{all_bits}

-- d is so far above a number, or so far below
abbrev pub IsAt : Bool → ℕ → ℕ → ℕ → Type 0
IsAt true from k d = from + k ≡ d
IsAt false from k d = d + k ≡ from

-- a NotBits excludes the number u
abbrev pub Excludes : List Lit → ℕ → ℕ → Type 0
Excludes lits w u = Contains lits (NotBits w all_bits u)

-- a literal excludes the number that is so far above or below
abbrev pub ExcludedBy : Lit → ℕ → Bool → ℕ → ℕ → Type 0
ExcludedBy l w up from k = (d : ℕ) × IsAt up from k d × (l ≡ NotBits w all_bits d)

-- one of them does
abbrev pub ExcludesAt : List Lit → ℕ → Bool → ℕ → ℕ → Type 0
ExcludesAt lits w up from k = (d : ℕ) × IsAt up from k d × Excludes lits w d
