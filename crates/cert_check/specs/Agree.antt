-- Where what is known of a record settles the verdict that a profile says of it. Arguments have 64 bits, and what is
-- known is of their halves. The low half of argument j is word 4 + 2 * j, the high half the word after it. Of a narrow
-- argument the low half alone is compared, and the high one counts as 0, whatever is known of it.
use Rattle.std.specs.Prelude.{◌≡◌, ◌≢◌, ℕ, ◌+◌, ◌*◌, ◌/◌, ◌%◌, ◌^◌, ◌⊎◌, Bool, true, false, List, [], All, Any, Contains, Some, slice_get}
use Rattle.machines.specs.declared.arch.Arch.{Arch}
use Rattle.machines.specs.declared.numbers.Numbers.{Numbers}
use Rattle.machines.specs.Arch.{token_of}
use Rattle.machines.specs.Numbers.{own_numbers, foreign_numbers}
use Rattle.profile.specs.declared.conditions.Op.{Op}
use Rattle.profile.specs.declared.conditions.Op.TheVariants.{Ne, Lt, Le, Eq, Ge, Gt, MaskedEq}
use Rattle.profile.specs.declared.conditions.Cond.{Cond}
use Rattle.profile.specs.declared.rules.Rule.{Rule}
use Rattle.profile.specs.Rule.{is_narrow_rule}
use Rattle.profile.specs.Policy.{Policy}
use Rattle.profile.specs.Said.{compares}
use Rattle.cert_state.specs.declared.literal.Lit.{Lit}
use Rattle.cert_state.specs.declared.literal.Lit.TheVariants.{In, Bits, NotBits}
use Rattle.cert_state.specs.Literals.{all_bits}
use Rattle.cert_state.specs.Points.{IsRange}
use Rattle.cert_state.specs.Entailment.{Entails}

-- the high half of argument j has the datum d under the mask m, or another; or lies between these numbers
abbrev pub HasAbove : Bool → List Lit → ℕ → ℕ → ℕ → Type 0
HasAbove true known j m d = d ≡ 0
HasAbove false known j m d = Entails known (Bits (5 + 2 * j) m d)

abbrev pub LacksAbove : Bool → List Lit → ℕ → ℕ → ℕ → Type 0
LacksAbove true known j m d = d ≢ 0
LacksAbove false known j m d = Entails known (NotBits (5 + 2 * j) m d)

abbrev pub IsRangeAbove : Bool → List Lit → ℕ → ℕ → ℕ → Type 0
IsRangeAbove true known j low high = (low ≡ 0) × (high ≡ 0)
IsRangeAbove false known j low high = IsRange known (5 + 2 * j) low high

-- argument j has the datum d under the mask m: both halves have theirs
abbrev pub HasBits : Bool → List Lit → ℕ → ℕ → ℕ → Type 0
HasBits narrow known j m d =
    HasAbove narrow known j (m / 2 ^ 32) (d / 2 ^ 32) × Entails known (Bits (4 + 2 * j) (m % 2 ^ 32) (d % 2 ^ 32))

-- it has another: one half has
abbrev pub LacksBits : Bool → List Lit → ℕ → ℕ → ℕ → Type 0
LacksBits narrow known j m d =
    LacksAbove narrow known j (m / 2 ^ 32) (d / 2 ^ 32) ⊎ Entails known (NotBits (4 + 2 * j) (m % 2 ^ 32) (d % 2 ^ 32))

-- a comparison has this answer at the least and at the greatest number that argument j may be
pub record AtBothEnds (narrow : Bool) (known : List Lit) (j : ℕ) (op : Op) (value : ℕ) (answer : Bool) : Type 0 where
  pub low : ℕ
  pub high : ℕ
  pub low_above : ℕ
  pub high_above : ℕ
  pub range : IsRange known (4 + 2 * j) low high
  pub range_above : IsRangeAbove narrow known j low_above high_above
  pub at_low : compares op value 0 (low + 2 ^ 32 * low_above) ≡ answer
  pub at_high : compares op value 0 (high + 2 ^ 32 * high_above) ≡ answer

abbrev pub all_64_bits : ℕ
all_64_bits = 0xffffffffffffffff

abbrev pub IsYesBy : Op → Bool → List Lit → ℕ → ℕ → ℕ → Type 0
IsYesBy Eq narrow known j value datum = HasBits narrow known j all_64_bits value
IsYesBy Ne narrow known j value datum = LacksBits narrow known j all_64_bits value
IsYesBy MaskedEq narrow known j value datum = HasBits narrow known j value datum
IsYesBy Lt narrow known j value datum = AtBothEnds narrow known j Lt value true
IsYesBy Le narrow known j value datum = AtBothEnds narrow known j Le value true
IsYesBy Ge narrow known j value datum = AtBothEnds narrow known j Ge value true
IsYesBy Gt narrow known j value datum = AtBothEnds narrow known j Gt value true

abbrev pub IsNoBy : Op → Bool → List Lit → ℕ → ℕ → ℕ → Type 0
IsNoBy Eq narrow known j value datum = LacksBits narrow known j all_64_bits value
IsNoBy Ne narrow known j value datum = HasBits narrow known j all_64_bits value
IsNoBy MaskedEq narrow known j value datum = LacksBits narrow known j value datum
IsNoBy Lt narrow known j value datum = AtBothEnds narrow known j Lt value false
IsNoBy Le narrow known j value datum = AtBothEnds narrow known j Le value false
IsNoBy Ge narrow known j value datum = AtBothEnds narrow known j Ge value false
IsNoBy Gt narrow known j value datum = AtBothEnds narrow known j Gt value false

-- a condition is yes, or no; what meets both is yes, and what meets none is open
abbrev pub IsYes : Bool → List Lit → Cond → Type 0
IsYes narrow known c = IsYesBy c.op narrow known c.index c.value c.datum

abbrev pub IsNo : Bool → List Lit → Cond → Type 0
IsNo narrow known c = IsNoBy c.op narrow known c.index c.value c.datum × (IsYes narrow known c → ⊥)

-- a condition that is no
abbrev pub SomeIsNo : Bool → List Lit → List Cond → Type 0
SomeIsNo narrow known conds = (c : Cond) × Contains conds c × IsNo narrow known c

-- what is known refutes a rule: the machine or the number is another than the rule's, or a condition is no
abbrev pub IsRefuted : List Lit → Rule → Type 0
IsRefuted known rule =
    Entails known (NotBits 1 all_bits (token_of rule.arch))
    ⊎ (Entails known (NotBits 0 all_bits rule.nr) ⊎ SomeIsNo (is_narrow_rule rule) known rule.conds.items)

-- Some conditions are said to be met, each by the place of its rule and its own among the rule's: they count as yes.
-- The conditions of the rule at a place are all yes.
abbrev pub AllAreYes : Bool → List (ℕ × ℕ) → List Lit → ℕ → List Cond → Type 0
AllAreYes narrow met known place conds =
    (own : ℕ) (c : Cond) → slice_get conds own ≡ Some c → Contains met (place, own) ⊎ IsYes narrow known c

-- one of them is no
pub record OneIsNo (narrow : Bool) (met : List (ℕ × ℕ)) (known : List Lit) (place : ℕ) (conds : List Cond) : Type 0 where
  pub own : ℕ
  pub cond : Cond
  pub stands : slice_get conds own ≡ Some cond
  pub not_met : Contains met (place, own) → ⊥
  pub is_no : IsNo narrow known cond

-- So the rule at a place. It is yes if the number is known to be its own and each condition is yes. It is no if the
-- number is known to be another or a condition is no.
abbrev pub IsYesRule : List (ℕ × ℕ) → List Lit → ℕ → Rule → Type 0
IsYesRule met known place rule =
    Entails known (Bits 0 all_bits rule.nr) × AllAreYes (is_narrow_rule rule) met known place rule.conds.items

abbrev pub IsNoRule : List (ℕ × ℕ) → List Lit → ℕ → Rule → Type 0
IsNoRule met known place rule =
    (Entails known (NotBits 0 all_bits rule.nr) ⊎ OneIsNo (is_narrow_rule rule) met known place rule.conds.items)
    × (IsYesRule met known place rule → ⊥)

-- a rule at a place is for the machine, and is not said to be out
pub record IsLeft (out : List ℕ) (arch : Arch) (place : ℕ) (rule : Rule) : Type 0 where
  pub not_out : Contains out place → ⊥
  pub is_for : token_of rule.arch ≡ token_of arch

-- a rule stands at a place of the profile, and is left for the machine
pub record IsRuleOf (policy : Policy) (out : List ℕ) (arch : Arch) (place : ℕ) (rule : Rule) : Type 0 where
  pub stands : slice_get policy.rules place ≡ Some rule
  pub left : IsLeft out arch place rule

-- one that is yes has the verdict v
pub record OneSays (policy : Policy) (out : List ℕ) (met : List (ℕ × ℕ)) (known : List Lit) (v : ℕ) (arch : Arch) : Type 0 where
  pub place : ℕ
  pub rule : Rule
  pub is_of : IsRuleOf policy out arch place rule
  pub is_yes : IsYesRule met known place rule
  pub word : rule.word ≡ v

-- none is yes, the default is v, and each one that is not no has the verdict v
pub record NoneSays (policy : Policy) (out : List ℕ) (met : List (ℕ × ℕ)) (known : List Lit) (v : ℕ) (arch : Arch) : Type 0 where
  pub none_yes : (place : ℕ) (rule : Rule) → IsRuleOf policy out arch place rule → IsYesRule met known place rule → ⊥
  pub default : policy.default_word ≡ v
  pub each : (place : ℕ) (rule : Rule) → IsRuleOf policy out arch place rule → IsNoRule met known place rule ⊎ (rule.word ≡ v)

-- the rules that are left for a machine agree with v in one of these two ways
abbrev pub RulesAgree : Policy → List ℕ → List (ℕ × ℕ) → List Lit → ℕ → Arch → Type 0
RulesAgree policy out met known v arch = OneSays policy out met known v arch ⊎ NoneSays policy out met known v arch

-- the number is known to be one of these
abbrev pub IsAmong : List Lit → List Numbers → Type 0
IsAmong known all = Any (λ numbers. Entails known (In 0 numbers.first numbers.last)) all

-- No number with the machine's token is foreign, of these. Or v is 0, or the number is known to be one of the machine's
-- own.
abbrev pub ForeignNumbersAgree : List Lit → ℕ → Arch → List Numbers → Type 0
ForeignNumbersAgree known v arch foreign = (foreign ≡ []) ⊎ ((v ≡ 0) ⊎ IsAmong known (own_numbers arch))

-- a machine agrees with v: v is 0 where a foreign number is possible, and its rules agree unless the number is one
pub record MachineAgrees (policy : Policy) (out : List ℕ) (met : List (ℕ × ℕ)) (known : List Lit) (v : ℕ) (arch : Arch) : Type 0 where
  pub foreign : ForeignNumbersAgree known v arch (foreign_numbers policy.machines arch)
  pub rules : IsAmong known (foreign_numbers policy.machines arch) ⊎ RulesAgree policy out met known v arch

-- a listed machine is known to be another than the record's, or agrees
abbrev pub ListedAgrees : Policy → List ℕ → List (ℕ × ℕ) → List Lit → ℕ → Arch → Type 0
ListedAgrees policy out met known v arch =
    Entails known (NotBits 1 all_bits (token_of arch)) ⊎ MachineAgrees policy out met known v arch

-- The profile agrees with v if these rules are out and these conditions are met. Here v is 0 if a foreign record is
-- possible, and each machine that is possible agrees.
pub record Agrees (policy : Policy) (out : List ℕ) (met : List (ℕ × ℕ)) (known : List Lit) (v : ℕ) : Type 0 where
  pub foreign : ((arch : Arch) × Contains policy.machines arch × Entails known (Bits 1 all_bits (token_of arch))) ⊎ (v ≡ 0)
  pub machines : All (ListedAgrees policy out met known v) policy.machines
