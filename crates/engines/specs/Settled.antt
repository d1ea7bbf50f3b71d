-- Entries that say unlike things of one record, settled: which of them counts.
use Rattle.std.specs.Prelude.{◌≡◌, ◌==◌, ◌≤◌, ◌⊎◌, ◌&&◌, ℕ, Bool, true, false, not, List, length, Some, slice_get}
use Rattle.std.specs.List.{All, Contains}
use Rattle.call_record.specs.Words.{IsRecord}
use Rattle.call_record.specs.Verdict.{is_stricter}
use Rattle.profile.specs.declared.conditions.Cond.{Cond}
use Rattle.profile.specs.declared.rules.Rule.{Rule}
use Rattle.profile.specs.Condition.{Meets}
use Rattle.profile.specs.Rule.{Matches, argument_of}
use Rattle.profile.specs.Policy.{Policy, Says, IsNative}
use Rattle.engines.specs.declared.settling.choice.Choice.{Choice}
use Rattle.engines.specs.declared.settling.choice.Choice.TheVariants.{First, Looser, Stricter, LikeLibseccomp}

-- the rule has no conditions
abbrev pub is_bare : Rule → Bool
is_bare rule = length rule.conds.items == 0

-- Whether the first of two rules counts wherever the two stand. As libseccomp has it, a rule without conditions does.
abbrev pub outranks : Choice → Rule → Rule → Bool
outranks First a b = false
outranks Looser a b = is_stricter b.word a.word
outranks Stricter a b = is_stricter a.word b.word
outranks LikeLibseccomp a b = is_bare a && not (is_bare b)

-- Of two rules at the places i and j the first counts. The second does not outrank it, and it outranks the second or stands first.
abbrev pub Precedes : Choice → ℕ → Rule → ℕ → Rule → Type 0
Precedes choice i a j b = (outranks choice b a ≡ false) × ((outranks choice a b ≡ true) ⊎ (i ≤ j))

-- the rule at the place i counts for the record r: it matches, and of any other that matches it is the one that counts
pub record Counts (choice : Choice) (rules : List Rule) (r : List ℕ) (i : ℕ) (rule : Rule) : Type 0 where
  pub at : slice_get rules i ≡ Some rule
  pub matches : Matches rule r
  pub precedes : (j : ℕ) (other : Rule) → slice_get rules j ≡ Some other → Matches other r → Precedes choice i rule j other

-- The profile settles the rules: of each record it says what the rule says that counts, and the default where none matches.
pub record Settles (choice : Choice) (rules : List Rule) (p : Policy) : Type 0 where
  pub counted : (r : List ℕ) (i : ℕ) (rule : Rule) → IsRecord r → IsNative p r → Counts choice rules r i rule → Says p r rule.word
  pub unmatched : (r : List ℕ) → IsNative p r → All (λ rule. ¬ Matches rule r) rules → Says p r p.default_word

-- ---- how it is checked

-- each number that meets the second condition meets the first
abbrev pub IsImpliedBy : Cond → Cond → Type 0
IsImpliedBy a b = (u : ℕ) → Meets b u → Meets a u

-- what the record has in a condition's argument meets it
abbrev pub IsMet : List ℕ → Cond → Type 0
IsMet r c = Meets c (argument_of r c.index)

abbrev pub AreMet : List ℕ → List Cond → Type 0
AreMet r conds = All (IsMet r) conds

-- each record that the second matches is matched by the first
abbrev pub Covers : Rule → Rule → Type 0
Covers a b = (r : List ℕ) → Matches b r → Matches a r

-- the rule at the place i is kept, or a kept one counts for all that it matches
abbrev pub GivesWay : Choice → List Rule → List Rule → ℕ → Rule → Type 0
GivesWay choice rules kept i rule = Contains kept rule ⊎ ((j : ℕ) × (other : Rule) × (slice_get rules j ≡ Some other)
    × Contains kept other × Covers other rule × Precedes choice j other i rule)

abbrev pub EachGivesWay : Choice → List Rule → List Rule → Type 0
EachGivesWay choice rules kept = (i : ℕ) (rule : Rule) → slice_get rules i ≡ Some rule → GivesWay choice rules kept i rule
