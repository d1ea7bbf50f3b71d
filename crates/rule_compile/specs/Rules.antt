-- What open questions of rules come to on a record. The questions of one rule stand together, and the first of them begins it.
use Rattle.std.specs.Prelude.{◌≡◌, ℕ, Bool, true, false, List, [], ◌∷◌}
use Rattle.std.specs.List.{All, Any}
use Rattle.rule_compile.specs.declared.asked.Open.{Open}
use Rattle.rule_compile.specs.Questions.{IsMet}

-- a rule begins here, or nothing follows
abbrev pub begins_here : List Open → Bool
begins_here [] = true
begins_here (o ∷ os) = o.begins

-- a question in front of rules: one of the first of them, or a rule of its own where another begins behind it
abbrev pub put_first : Bool → Open → List (List Open) → List (List Open)
put_first true o rules = (o ∷ []) ∷ rules
put_first false o [] = (o ∷ []) ∷ []
put_first false o (rule ∷ rules) = (o ∷ rule) ∷ rules

-- the rules that ask these questions
abbrev pub rules_of : List Open → List (List Open)
rules_of [] = []
rules_of (o ∷ os) = put_first (begins_here os) o (rules_of os)

-- the verdict of a rule
abbrev pub answer_of : List Open → ℕ
answer_of [] = 0
answer_of (o ∷ os) = o.answer

-- the record meets each question of the rule
abbrev pub IsRuleMet : List ℕ → List Open → Type 0
IsRuleMet r rule = All (λ o. IsMet o.question r) rule

-- the record meets a rule with this verdict
abbrev pub SomeMet : List Open → List ℕ → ℕ → Type 0
SomeMet os r w = Any (λ rule. IsRuleMet r rule × (answer_of rule ≡ w)) (rules_of os)

-- the rules that the record meets have one verdict
abbrev pub IsClearAt : List Open → List ℕ → Type 0
IsClearAt os r = (v w : ℕ) → SomeMet os r v → SomeMet os r w → v ≡ w
