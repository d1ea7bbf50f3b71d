-- The ranges of all call numbers of one machine.
use Rattle.std.specs.Prelude.{ℕ, zero, suc, ◌≡◌, ◌≤◌, ◌<◌, ◌+◌, ◌-◌, ◌⊎◌, List, [], ◌∷◌, ◌++◌, length, slice_index_or}
use Rattle.std.specs.List.{All, Any, Contains}
use Rattle.machines.specs.declared.arch.Arch.{Arch}
use Rattle.machines.specs.Arch.{token_of}
use Rattle.machines.specs.declared.numbers.Numbers.{Numbers}
use Rattle.machines.specs.Numbers.{HasCall, foreign_numbers, from_to}
use Rattle.profile.specs.Policy.{InOrder, Policy}
use Rattle.profile.specs.Said.{said}
use Rattle.profile.specs.declared.rules.Rule.{Rule}
use Rattle.rule_compile.specs.declared.ranges.Leaf.{Leaf}
use Rattle.rule_compile.specs.declared.ranges.Leaf.TheVariants.{Verdict}
use Rattle.rule_compile.specs.declared.ranges.Range.{Range}
use Rattle.rule_compile.specs.Shape.{IsPlain, call}
use Rattle.rule_compile.specs.Decides.{IsWithin, Tiles}

-- ---- rules

-- the rule is for this number of the machine with the token
abbrev pub IsFor : ℕ → ℕ → Rule → Type 0
IsFor token nr rule = (token_of rule.arch ≡ token) × (rule.nr ≡ nr)

abbrev pub NoneFor : ℕ → ℕ → List Rule → Type 0
NoneFor token nr rules = All (λ rule. IsFor token nr rule → ⊥) rules

abbrev pub AreUnconditional : List Rule → Type 0
AreUnconditional rules = All (λ rule. rule.conds.items ≡ []) rules

-- each number is less than this one
abbrev pub AreBelow : ℕ → List Rule → Type 0
AreBelow above rules = All (λ rule. rule.nr < above) rules

-- what decides a number: the verdict of a rule for it, or the default verdict where there is none
pub data LeafFor (rules : List Rule) (token nr default : ℕ) (leaf : Leaf) : Type 0 where
  ruled : (rule : Rule) → Contains rules rule → IsFor token nr rule → leaf ≡ Verdict rule.word → LeafFor rules token nr default leaf
  unruled : NoneFor token nr rules → leaf ≡ Verdict default → LeafFor rules token nr default leaf

-- the next number that has a rule, or the end
pub record IsNext (rules : List Rule) (token from end next : ℕ) : Type 0 where
  pub least : from ≤ next
  pub most : next ≤ end
  pub none : (nr : ℕ) → from ≤ nr → nr < next → NoneFor token nr rules
  pub small : (above : ℕ) → AreBelow above rules → (next < above) ⊎ (next ≡ end)

-- ---- ranges

-- the last range has this leaf, and begins at this number
pub record IsLastAlike (ranges : List Range) (leaf : Leaf) (first : ℕ) : Type 0 where
  pub front : List Range
  pub last : Range
  pub is : ranges ≡ front ++ last ∷ []
  pub alike : last.leaf ≡ leaf
  pub begins : last.first ≡ first

-- ranges that reached `from` reach `end` by this leaf: by one range more, or by the last one
pub data IsExtended (old : List Range) (from end : ℕ) (leaf : Leaf) (new : List Range) : Type 0 where
  nothing : end ≤ from → new ≡ old → IsExtended old from end leaf new
  more : from < end → new ≡ old ++ record { first = from; last = end - 1; leaf = leaf } ∷ [] → IsExtended old from end leaf new
  wider : from < end → (front : List Range) (x : Range) → old ≡ front ++ x ∷ [] → x.leaf ≡ leaf
      → new ≡ front ++ record { first = x.first; last = end - 1; leaf = leaf } ∷ [] → IsExtended old from end leaf new

-- each number of the range has its verdict
abbrev pub HasVerdict : (ℕ → ℕ) → Range → Type 0
HasVerdict said range = (word : ℕ) × (range.leaf ≡ Verdict word) × ((u : ℕ) → IsWithin range u → said u ≡ word)

-- the verdict of a call of the machine with this token
abbrev pub said_of : Policy → ℕ → ℕ → ℕ
said_of policy token nr = said policy (call token nr)

-- the machine is listed
abbrev pub IsListed : Policy → Arch → Type 0
IsListed policy machine = InOrder policy.machines × Contains policy.machines machine

-- the numbers from one to an end are those of listed machines with the machine's token, if it is listed
abbrev pub AreOwn : Policy → Arch → ℕ → ℕ → Type 0
AreOwn policy machine from end =
    (nr : ℕ) → from ≤ nr → nr < end → IsListed policy machine → Any (HasCall (token_of machine) nr) policy.machines

-- how many ranges there are of the numbers so far: as many as numbers, or so many at most behind all that have rules
abbrev pub AreFew : ℕ → ℕ → ℕ → ℕ → Type 0
AreFew most end upto count =
    ((upto ≤ 512) × (count ≤ upto)) ⊎ (((512 ≤ upto) × (upto < end) × (count < most)) ⊎ ((upto ≡ end) × (count ≤ most)))

-- the ranges of a machine's numbers so far, of those that go up to an end
pub record Reached (policy : Policy) (machine : Arch) (most end upto : ℕ) (ranges : List Range) : Type 0 where
  pub tiles : Tiles 0 ranges upto
  pub has_verdicts : IsPlain policy → IsListed policy machine → All (HasVerdict (said_of policy (token_of machine))) ranges
  pub few : IsPlain policy → AreFew most end upto (length ranges)

-- the first number behind so many of these stretches
abbrev pub behind : List Numbers → ℕ → ℕ
behind all zero = 0
behind all (suc k) = (slice_index_or all k (from_to 0 0)).last + 1

-- The ranges of a machine's numbers so far, up to the end of so many stretches of foreign ones. There is one range at most while there are
-- more stretches.
pub record Between (policy : Policy) (machine : Arch) (k upto : ℕ) (ranges : List Range) : Type 0 where
  pub tiles : Tiles 0 ranges upto
  pub has_verdicts : IsPlain policy → IsListed policy machine → All (HasVerdict (said_of policy (token_of machine))) ranges
  pub few : IsPlain policy → (length ranges ≤ 1) ⊎ ((k ≡ length (foreign_numbers policy.machines machine)) × (length ranges ≤ 514))
  pub place : upto ≡ behind (foreign_numbers policy.machines machine) k
