-- A literal by itself that excludes a datum.
use Rattle.std.specs.Prelude.{◌≡◌, ℕ, bit_and}
use Rattle.cert_state.specs.declared.literal.Lit.{Lit}
use Rattle.cert_state.specs.declared.literal.Lit.TheVariants.{NotBits}
use Rattle.cert_state.specs.Points.{IsWithin}

-- a NotBits of w, under a mask within m, that excludes d
abbrev pub IsSuch : ℕ → ℕ → ℕ → Lit → Type 0
IsSuch w m d (NotBits v n e) = (v ≡ w) × IsWithin n m × (bit_and d n ≡ e)
IsSuch w m d _ = ⊥
