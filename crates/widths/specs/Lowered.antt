-- What stands in conditions for numbers that their arguments cannot have.
use Rattle.std.specs.Prelude.{◌≡◌, true, false, ℕ, ◌%◌, ◌^◌, ◌<◌, Bool, List}
use Rattle.std.specs.List.{All, AllZip}
use Rattle.widths.specs.Reads.{read_bits, is_all_read}
use Rattle.machines.specs.Arch.{token_of}
use Rattle.profile.specs.declared.conditions.Cond.{Cond}
use Rattle.profile.specs.declared.conditions.Op.{Op}
use Rattle.profile.specs.declared.conditions.Op.TheVariants.{Ne, Lt, Le, Eq, Ge, Gt, MaskedEq}
use Rattle.profile.specs.declared.rules.Rule.{Rule}
use Rattle.profile.specs.Policy.{Policy}
use Rattle.widths.specs.Narrowed.{Has}

-- an order: which of two numbers is above the other is not told by their lowest bits
abbrev pub is_order : Op → Bool
is_order Lt = true
is_order Le = true
is_order Ge = true
is_order Gt = true
is_order Eq = false
is_order Ne = false
is_order MaskedEq = false

-- what an argument, or under MASKED_EQ what stands under the mask, is compared with
abbrev pub number_of : Op → ℕ → ℕ → ℕ
number_of MaskedEq value datum = datum
number_of op value datum = value

-- an argument of so many bits can have the number
abbrev pub FitsIn : ℕ → Cond → Type 0
FitsIn bits c = number_of c.op c.value c.datum < 2 ^ bits

-- the argument of the call can have the number: it has no bit above those that are read
abbrev pub Fits : ℕ → ℕ → Cond → Type 0
Fits token nr c = FitsIn (read_bits token nr c.index) c

abbrev pub RuleFits : Rule → Type 0
RuleFits rule = All (Fits (token_of rule.arch) rule.nr) rule.conds.items

abbrev pub ValuesFit : List Rule → Type 0
ValuesFit rules = All RuleFits rules

-- d is the condition c, which is no order, with the lowest bits alone of its numbers
pub record IsCutTo (bits : ℕ) (c d : Cond) : Type 0 where
  pub equality : is_order c.op ≡ false
  pub index : d.index ≡ c.index
  pub op : d.op ≡ c.op
  pub value : d.value ≡ c.value % 2 ^ bits
  pub datum : d.datum ≡ c.datum % 2 ^ bits

-- an order with a number that its argument cannot have
abbrev pub IsUnfitOrder : ℕ → ℕ → Cond → Type 0
IsUnfitOrder token nr c = (is_order c.op ≡ true) × (¬ Fits token nr c)

abbrev pub HasUnfitOrder : Rule → Type 0
HasUnfitOrder rule = Has (IsUnfitOrder (token_of rule.arch) rule.nr) rule.conds.items

-- d stands for the condition c of a call. It is c if the argument can have its number, and else c with the bits that are read. Where all
-- that is compared is read, on a machine of narrow arguments, c may stand for itself.
pub data StandsFor (token nr : ℕ) (d c : Cond) : Type 0 where
  stays : Fits token nr c → d ≡ c → StandsFor token nr d c
  left : is_all_read token nr c.index ≡ true → d ≡ c → StandsFor token nr d c
  cut : ¬ Fits token nr c → IsCutTo (read_bits token nr c.index) c d → StandsFor token nr d c

-- the machine, the call and the verdict of a rule, and for each condition the one that stands for it
pub record HasLowered (rule lower : Rule) : Type 0 where
  pub arch : lower.arch ≡ rule.arch
  pub nr : lower.nr ≡ rule.nr
  pub word : lower.word ≡ rule.word
  pub conds : AllZip (StandsFor (token_of rule.arch) rule.nr) lower.conds.items rule.conds.items

-- the lowered rule: the rule itself where the arguments can have all its numbers
pub data IsLowered (lower rule : Rule) : Type 0 where
  stays : RuleFits rule → lower ≡ rule → IsLowered lower rule
  changes : ¬ RuleFits rule → HasLowered rule lower → IsLowered lower rule

-- the lowered rules of a list, place by place
abbrev pub AreLowered : List Rule → List Rule → Type 0
AreLowered lowers rules = AllZip IsLowered lowers rules

-- a profile with other rules
abbrev pub with_rules : Policy → List Rule → Policy
with_rules p rules = record {
  native = p.native;
  machines = p.machines;
  default_word = p.default_word;
  rules = rules;
}

-- where the arguments can have all numbers, the lowered rules are the rules
abbrev pub FittingStay : Type 0
FittingStay = (lowers rules : List Rule) → ValuesFit rules → AreLowered lowers rules → lowers ≡ rules
