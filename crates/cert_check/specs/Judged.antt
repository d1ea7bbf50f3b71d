-- Answers to questions of which too little may be known.
use Rattle.cert_check.specs.declared.judged.Judged.{Judged}
use Rattle.cert_check.specs.declared.judged.Judged.TheVariants.{Yes, No, Open}

-- the answer says which of two facts stands, or that none does
abbrev pub IsJudged : Type 0 → Type 0 → Judged → Type 0
IsJudged stands fails Yes = stands
IsJudged stands fails No = fails
IsJudged stands fails Open = (stands → ⊥) × (fails → ⊥)
