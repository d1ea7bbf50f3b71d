-- That two literals cover each record is a fact.
use Rattle.std.proofs.Props.{props}
use Rattle.cert_state.specs.declared.literal.Lit.{Lit}
use Rattle.cert_state.specs.declared.literal.Lit.TheVariants.{In, Bits, NotBits}
use Rattle.cert_state.specs.Literals.{IsLit}
use Rattle.cert_check.specs.Rules.{Covers, CoversSharply}

-- of each record one of the two holds, the lower part first: of one bit, that it is not set and that it is
abbrev pub AreHalves : Lit → Lit → Type 0
AreHalves (Bits w m d) (Bits v n e) = CoversSharply (Bits w m d) (Bits v n e)
AreHalves one other = Covers one other

pub IsLit-prop : (l : Lit) → IsProp (IsLit l)
IsLit-prop (In w lo hi) = hlevel props
IsLit-prop (Bits w m d) = hlevel props
IsLit-prop (NotBits w m d) = hlevel props

pub AreHalves-prop : (l m : Lit) → IsProp (AreHalves l m)
AreHalves-prop (In w a b) (In v c d) = hlevel props
AreHalves-prop (Bits w m d) (NotBits v n e) = hlevel props
AreHalves-prop (Bits w m d) (Bits v n e) = hlevel props
AreHalves-prop _ _ = hlevel props
