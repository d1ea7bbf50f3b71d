-- Lists of conditions, each of one part of each condition.
use Rattle.std.specs.Prelude.{◌≡◌, true, ◌↔◌, ℕ, ◌<◌, ◌≤◌, List, [], ◌∷◌, ◌++◌, length, map, slice_index}
use Rattle.std.specs.List.{All, Contains, flat_map}
use Rattle.widths.specs.Reads.{read_bits, is_all_read, cut_bits}
use Rattle.machines.specs.Arch.{token_of}
use Rattle.profile.specs.declared.conditions.Cond.{Cond}
use Rattle.profile.specs.declared.rules.Rule.{Rule}
use Rattle.profile.specs.Condition.{Meets}
use Rattle.widths.specs.Counts.{most_lists}
use Rattle.widths.specs.Narrowed.{Has}
use Rattle.widths.specs.Parts.{cut, IsLow}

-- each condition holds of its argument
abbrev pub Hold : (ℕ → ℕ) → List Cond → Type 0
Hold a cs = All (λ c. Meets c (a c.index)) cs

-- each condition holds of the lowest bits of its argument
abbrev pub HoldCut : List ℕ → (ℕ → ℕ) → List Cond → Type 0
HoldCut plan a cs = All (λ c. Meets c (cut (slice_index plan c.index) (a c.index))) cs

-- the list with each of the parts behind it
abbrev pub with_each : List Cond → List Cond → List (List Cond)
with_each parts cs = map (λ d. cs ++ d ∷ []) parts

abbrev pub extended : List Cond → List (List Cond) → List (List Cond)
extended parts css = flat_map (with_each parts) css

-- d is a part of a condition on its argument. It looks at the lowest bits alone, or is the condition if the plan leaves it.
pub record IsPartOf (bits : ℕ) (d c : Cond) : Type 0 where
  pub index : c.index ≡ d.index
  pub low : bits ≤ 32 → IsLow bits d
  pub kept : 32 < bits → d ≡ c

abbrev pub IsPart : List ℕ → List Cond → Cond → Type 0
IsPart plan cs d = Has (IsPartOf (slice_index plan d.index) d) cs

-- lists of parts: the arguments meet one of them where their lowest bits meet the conditions
pub record AreCombined (plan : List ℕ) (cs : List Cond) (css : List (List Cond)) : Type 0 where
  pub meets : (a : ℕ → ℕ) → Has (Hold a) css ↔ HoldCut plan a cs
  pub indexes : All (λ ds. map (λ d. d.index) ds ≡ map (λ c. c.index) cs) css
  pub parts : All (All (IsPart plan cs)) css
  pub few : length css ≤ most_lists plan cs

-- a rule's machine, call and verdict
pub record IsLike (rule part : Rule) : Type 0 where
  pub arch : part.arch ≡ rule.arch
  pub nr : part.nr ≡ rule.nr
  pub word : part.word ≡ rule.word

-- rules that together stand for one, whose conditions are cut
pub record AreCut (plan : List ℕ) (rule : Rule) (parts : List Rule) : Type 0 where
  pub like : All (IsLike rule) parts
  pub combined : AreCombined plan rule.conds.items (map (λ q. q.conds.items) parts)

-- What is cut of the argument of a condition is what is read of it. Or it is left, since all that is compared is read on a machine of
-- narrow arguments. Or it is left, since the condition looks at bits alone that are read.
pub data SuitsAt (token nr bits : ℕ) (c : Cond) : Type 0 where
  read : bits ≡ read_bits token nr c.index → SuitsAt token nr bits c
  narrow : is_all_read token nr c.index ≡ true → 32 < bits → SuitsAt token nr bits c
  masked : 32 < bits → IsLow (read_bits token nr c.index) c → SuitsAt token nr bits c

abbrev pub Suits : List ℕ → Rule → Type 0
Suits plan rule = All (λ c. SuitsAt (token_of rule.arch) rule.nr (slice_index plan c.index) c) rule.conds.items

-- to how many bits each argument of a call is cut
abbrev pub IsCutPlan : ℕ → ℕ → List ℕ → Type 0
IsCutPlan token nr plan = (j : ℕ) → j < 6 → slice_index plan j ≡ cut_bits token nr j
