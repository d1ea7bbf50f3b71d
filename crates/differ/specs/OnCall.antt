-- What two profiles say of the records of one call.
use Rattle.std.specs.Prelude.{◌≡◌, ℕ, zero, suc, ◌+◌, ◌<◌, ◌*◌, ◌==◌, ◌&&◌, ◌||◌}
use Rattle.std.specs.Prelude.{◌++◌, ⊤, not, Bool, false, true, if◌then◌else◌, List, length, filter}
use Rattle.std.specs.Int.{bit_at}
use Rattle.std.specs.List.{flat_map, list_all, list_any}
use Rattle.call_record.specs.Words.{IsRecord, word}
use Rattle.call_record.specs.Record.{words}
use Rattle.machines.specs.Arch.{token_of}
use Rattle.machines.specs.Width.{is_narrow}
use Rattle.profile.specs.declared.conditions.Cond.{Cond}
use Rattle.profile.specs.declared.conditions.Op.{Op}
use Rattle.profile.specs.declared.conditions.Op.TheVariants.{Ne, Lt, Le, Eq, Ge, Gt, MaskedEq}
use Rattle.profile.specs.declared.rules.Rule.{Rule}
use Rattle.profile.specs.Policy.{Policy, Says}
use Rattle.profile.specs.Said.{meets}
use Rattle.differ.specs.Direction.{tells}
use Rattle.differ.specs.declared.direction.Direction.{Direction}
use Rattle.differ.specs.declared.found.Found.{Found}
use Rattle.differ.specs.declared.listed.Unlisted.{Unlisted}
use Rattle.differ.specs.declared.listed.Unlisted.TheVariants.{TooMany, OutOfMemory}

-- the record is of the call of this number on the machine with this token
pub record IsOfCall (token nr : ℕ) (r : List ℕ) : Type 0 where
  pub is_record : IsRecord r
  pub machine : word r 1 ≡ token
  pub number : word r 0 ≡ nr

-- a record of the call, of which the profiles say these verdicts, which are unlike in this direction
pub record IsFound (p q : Policy) (token nr : ℕ) (direction : Direction) (found : Found) : Type 0 where
  pub of_call : IsOfCall token nr (words found.call)
  pub ip_is : found.call.ip ≡ 0
  pub says_first : Says p (words found.call) found.first
  pub says_second : Says q (words found.call) found.second
  pub unlike : tells direction found.first found.second ≡ true

-- verdicts that the profiles say of a record are not unlike in this direction
abbrev pub AreLikeOn : Policy → Policy → Direction → List ℕ → Type 0
AreLikeOn p q direction r = (v w : ℕ) → Says p r v → Says q r w → tells direction v w ≡ false

-- nor are they on any record of the call
abbrev pub AreLikeOnCall : Policy → Policy → ℕ → ℕ → Direction → Type 0
AreLikeOnCall p q token nr direction = (r : List ℕ) → IsOfCall token nr r → AreLikeOn p q direction r

-- ---- when that is not settled

-- how many bits are compared of an argument
abbrev pub bits_of : ℕ → ℕ
bits_of token = if is_narrow token then 32 else 64

abbrev pub is_for : ℕ → ℕ → Rule → Bool
is_for token nr rule = (token == token_of rule.arch) && (nr == rule.nr)

-- the rules for the call
abbrev pub rules_for : ℕ → ℕ → List Rule → List Rule
rules_for token nr rules = filter (is_for token nr) rules

-- the conditions of rules on one argument
abbrev pub on_argument : ℕ → Rule → List Cond
on_argument j rule = filter (λ c. c.index == j) rule.conds.items

abbrev pub conditions_on : ℕ → List Rule → List Cond
conditions_on j rules = flat_map (on_argument j) rules

-- the condition is on another argument, or this number meets it
abbrev pub met_at : ℕ → ℕ → Cond → Bool
met_at j u c = not (c.index == j) || meets c u

abbrev pub is_met_at : ℕ → ℕ → Rule → Bool
is_met_at j u rule = list_all (met_at j u) rule.conds.items

-- those of two profiles for the call
abbrev pub conditions_of : Policy → Policy → ℕ → ℕ → ℕ → List Cond
conditions_of p q token nr j = conditions_on j (rules_for token nr p.rules) ++ conditions_on j (rules_for token nr q.rules)

abbrev pub is_masked : Op → Bool
is_masked Ne = false
is_masked Lt = false
is_masked Le = false
is_masked Eq = false
is_masked Ge = false
is_masked Gt = false
is_masked MaskedEq = true

-- the condition is one under a mask that has the bit at a place
abbrev pub has_bit : ℕ → Cond → Bool
has_bit place c = is_masked c.op && (bit_at c.value place == 1)

-- two ways for each of the lowest n bits that a mask of the conditions has
unfoldable pub ways_by_masks : List Cond → ℕ → ℕ
ways_by_masks conds zero = 1
ways_by_masks conds (suc n) = (if list_any (has_bit n) conds then 2 else 1) * ways_by_masks conds n

-- how many of the conditions compare a number with another
abbrev pub comparisons : List Cond → ℕ
comparisons conds = length (filter (λ c. not (is_masked c.op)) conds)

-- how many of the conditions are under a mask
abbrev pub masks : List Cond → ℕ
masks conds = length (filter (λ c. is_masked c.op) conds)

-- In how many ways an argument is answered at most. Each of its 64 bits may be where it departs from a number that it is compared with.
-- What is under masks is asked of each mask.
unfoldable pub ways_on : List Cond → ℕ
ways_on conds = (64 * comparisons conds + 1) * ((masks conds + 1) * ways_by_masks conds 64)

-- the product of those of the first n arguments
abbrev pub ways_of : Policy → Policy → ℕ → ℕ → ℕ → ℕ
ways_of p q token nr zero = 1
ways_of p q token nr (suc n) = ways_on (conditions_of p q token nr n) * ways_of p q token nr n

-- how many combinations are looked at
abbrev pub most_combinations : ℕ
most_combinations = 1048576

-- how many ways, each with all rules, are walked through, however long that takes
abbrev pub most_ways : ℕ
most_ways = 4194304

-- how many rules two profiles have for all calls together
abbrev pub all_rules : Policy → Policy → ℕ
all_rules p q = length p.rules + length q.rules

-- The ways in which the six arguments of the call are answered, times the rules of both profiles, are more than that. Summed over the calls
-- that are not crowded, ways times the rules for the call are at most that.
abbrev pub AreCrowded : Policy → Policy → ℕ → ℕ → Type 0
AreCrowded p q token nr = most_ways < ways_of p q token nr 6 * all_rules p q

abbrev pub IsUnsettled : Policy → Policy → ℕ → ℕ → Unlisted → Type 0
IsUnsettled p q token nr TooMany = AreCrowded p q token nr
IsUnsettled p q token nr OutOfMemory = ⊤
