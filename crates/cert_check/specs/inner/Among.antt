-- Literals that are all in another list.
use Rattle.std.specs.Prelude.{List, Contains}
use Rattle.cert_state.specs.declared.literal.Lit.{Lit}

abbrev pub AreAmong : List Lit → List Lit → Type 0
AreAmong some all = (l : Lit) → Contains some l → Contains all l
