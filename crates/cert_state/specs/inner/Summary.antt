-- What the literals of one word say of it, one after the other.
use Rattle.std.specs.Prelude.{ℕ, ◌==◌, min, max, if◌then◌else◌, List, [], ◌∷◌, bit_and, bit_or, bit_xor}
use Rattle.cert_state.specs.declared.literal.Lit.{Lit}
use Rattle.cert_state.specs.declared.literal.Lit.TheVariants.{In, Bits, NotBits}
use Rattle.cert_state.specs.declared.summary.Summary.{Summary}
use Rattle.cert_state.specs.Literals.{all_bits}

-- nothing is said
abbrev pub unknown : Summary
unknown = record { low = 0; high = all_bits; mask = 0; datum = 0; ones = 0; zeros = 0 }

abbrev pub added_bits : ℕ → ℕ → Summary → Summary
added_bits m d s = record {
  low = if m == all_bits then max s.low d else s.low;
  high = if m == all_bits then min s.high d else s.high;
  mask = bit_or s.mask m;
  datum = bit_or s.datum d;
  ones = bit_or s.ones (bit_and m d);
  zeros = bit_or s.zeros (bit_and m (bit_xor m d));
}

-- one literal more is said
abbrev pub added : ℕ → Lit → Summary → Summary
added w (In v lo hi) s = if v == w then record s { low = max s.low lo; high = min s.high hi } else s
added w (Bits v m d) s = if v == w then added_bits m d s else s
added w (NotBits v m d) s = s

-- these literals too
abbrev pub summary_of : List Lit → ℕ → Summary → Summary
summary_of [] w s = s
summary_of (l ∷ lits) w s = summary_of lits w (added w l s)
