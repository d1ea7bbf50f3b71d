-- Questions that may be open, as the code answers them.
use Rattle.std.specs.Prelude.{◌≡◌, ◌≢◌, ◌↔◌, ℕ, ◌+◌, ◌*◌, ◌^◌, ◌<◌, ◌⊎◌, ⊤, true, false, Bool, IsTrue}
use Rattle.std.specs.Prelude.{List, [], Option, Some, IfSome, Contains, slice_get, slice_index_or}
use Rattle.machines.specs.declared.arch.Arch.{Arch}
use Rattle.profile.specs.declared.conditions.Op.{Op}
use Rattle.profile.specs.declared.conditions.Op.TheVariants.{Ne, Eq, MaskedEq}
use Rattle.profile.specs.declared.conditions.Cond.{Cond}
use Rattle.profile.specs.declared.rules.Rule.{Rule}
use Rattle.cert_state.specs.declared.literal.Lit.{Lit}
use Rattle.cert_state.specs.declared.literal.Lit.TheVariants.{Bits, NotBits}
use Rattle.cert_state.specs.Literals.{all_bits}
use Rattle.cert_state.specs.Points.{IsRange}
use Rattle.cert_state.specs.Entailment.{Entails}
use Rattle.cert_check.specs.Agree.{IsRangeAbove, IsYes, IsNo, IsYesRule, IsNoRule, IsLeft, AllAreYes, OneIsNo}
use Rattle.cert_check.specs.declared.judged.Number.{Number}
use Rattle.cert_check.specs.declared.judged.Answered.{Answered}
use Rattle.cert_check.specs.declared.judged.Asked.{Asked}
use Rattle.cert_check.specs.declared.judged.Asked.TheVariants.{AllYes, OneNo}
use Rattle.cert_check.specs.declared.judged.Bearing.{Bearing}
use Rattle.cert_check.specs.declared.judged.Bearing.TheVariants.{Settles, Agrees, Differs}

-- the comparisons by order
abbrev pub IsOrder : Op → Type 0
IsOrder Ne = ⊥
IsOrder Eq = ⊥
IsOrder MaskedEq = ⊥
IsOrder _ = ⊤

-- the least and the greatest number that argument j may be, by its halves
pub record AreEnds (narrow : Bool) (known : List Lit) (j low high : ℕ) : Type 0 where
  pub least : ℕ
  pub greatest : ℕ
  pub least_above : ℕ
  pub greatest_above : ℕ
  pub range : IsRange known (4 + 2 * j) least greatest
  pub range_above : IsRangeAbove narrow known j least_above greatest_above
  pub low_is : low ≡ least + 2 ^ 32 * least_above
  pub high_is : high ≡ greatest + 2 ^ 32 * greatest_above

-- a condition of the rule at a place is yes, or is said to be met; it is no, and is not
abbrev pub IsYesOrMet : Bool → List (ℕ × ℕ) → List Lit → ℕ → ℕ → Cond → Type 0
IsYesOrMet narrow met known place own c = Contains met (place, own) ⊎ IsYes narrow known c

abbrev pub IsNoNorMet : Bool → List (ℕ × ℕ) → List Lit → ℕ → ℕ → Cond → Type 0
IsNoNorMet narrow met known place own c = (Contains met (place, own) → ⊥) × IsNo narrow known c

-- what is known of a number is so
abbrev pub IsKnownNumber : List Lit → ℕ → Number → Type 0
IsKnownNumber known nr number =
    (IsTrue number.own ↔ Entails known (Bits 0 all_bits nr)) × (IsTrue number.other ↔ Entails known (NotBits 0 all_bits nr))

-- the number is known to be another than this one, and is not said to be this one
abbrev pub IsOtherNumber : List Lit → ℕ → Type 0
IsOtherNumber known nr = Entails known (NotBits 0 all_bits nr) × (Entails known (Bits 0 all_bits nr) → ⊥)

-- it is known to be none of those below the first and of those above the second
abbrev pub NumberLies : List Lit → ℕ → ℕ → Type 0
NumberLies known least greatest = (nr : ℕ) → nr < 2 ^ 32 → (nr < least) ⊎ (greatest < nr) → IsOtherNumber known nr

-- it is known to be none but this one
abbrev pub IsOnlyNumber : List Lit → ℕ → Type 0
IsOnlyNumber known nr = (n : ℕ) → n ≢ nr → IsOtherNumber known n

-- and so for each of the least numbers that was asked for
abbrev pub AreKnownNumbers : List Lit → List (Option Number) → Type 0
AreKnownNumbers known numbers = (n : ℕ) (d : Option Number) → n < 512 → IfSome (slice_index_or numbers n d) (IsKnownNumber known n)

-- what is asked is answered: whether the conditions of the rule at a place are all yes, or whether one is no
abbrev pub IsAnswer : Asked → Bool → List (ℕ × ℕ) → List Lit → ℕ → List Cond → Bool → Type 0
IsAnswer AllYes narrow met known place conds is_so = IsTrue is_so ↔ AllAreYes narrow met known place conds
IsAnswer OneNo narrow met known place conds is_so = IsTrue is_so ↔ OneIsNo narrow met known place conds

-- the answer that was given is one, where no condition is said to be met: then the place does not matter
abbrev pub IsAnswered : List Lit → Answered → Type 0
IsAnswered known answered =
    IsAnswer answered.asked answered.narrow [] known 0 answered.conds.now answered.is_so

-- a rule at a place says another verdict than v, and is not no
abbrev pub IsOther : List (ℕ × ℕ) → List Lit → ℕ → ℕ → Rule → Type 0
IsOther met known v place rule = (IsNoRule met known place rule → ⊥) × (rule.word ≢ v)

-- how the rule at a place bears on the verdict v
abbrev pub Bears : List (ℕ × ℕ) → List Lit → ℕ → ℕ → Rule → Bearing → Type 0
Bears met known v place rule Settles = IsYesRule met known place rule × (rule.word ≡ v)
Bears met known v place rule Agrees = (IsYesRule met known place rule → rule.word ≢ v) × (IsNoRule met known place rule ⊎ (rule.word ≡ v))
Bears met known v place rule Differs = IsOther met known v place rule

-- a rule that is left, other than the verdict v
pub record AnotherIsLeft (out : List ℕ) (met : List (ℕ × ℕ)) (known : List Lit) (v : ℕ) (arch : Arch) (rules : List Rule) : Type 0 where
  pub place : ℕ
  pub rule : Rule
  pub stands : slice_get rules place ≡ Some rule
  pub left : IsLeft out arch place rule
  pub other : IsOther met known v place rule

-- of the first rules, those that are left for the machine: none is yes with the verdict v; none is another, or one is
pub record RulesSoFar (out : List ℕ) (met : List (ℕ
    × ℕ)) (known : List Lit) (v : ℕ) (arch : Arch) (rules : List Rule) (n : ℕ) (others : Bool) : Type 0 where
  pub none_sure : (k : ℕ) (d : Rule) → k < n → IsLeft out arch k (slice_index_or rules k d)
      → IsYesRule met known k (slice_index_or rules k d)
      → (slice_index_or rules k d).word ≢ v
  pub settled : others ≡ false → (k : ℕ) (d : Rule) → k < n → IsLeft out arch k (slice_index_or rules k d)
      → IsNoRule met known k (slice_index_or rules k d) ⊎ ((slice_index_or rules k d).word ≡ v)
  pub another : others ≡ true → AnotherIsLeft out met known v arch rules

-- a rule at a place is left for the machine, is yes, and has the verdict v
pub record SaysAt (out : List ℕ) (met : List (ℕ × ℕ)) (known : List Lit) (v : ℕ) (arch : Arch) (place : ℕ) (rule : Rule) : Type 0 where
  pub left : IsLeft out arch place rule
  pub is_yes : IsYesRule met known place rule
  pub word : rule.word ≡ v
