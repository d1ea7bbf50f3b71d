-- Which rules are still open once some arguments are known.
use Rattle.std.specs.Prelude.{◌≡◌, ℕ, ◌<◌, ◌==◌, ◌&&◌, ◌||◌, ◌++◌, not, nat_lt, Bool, true, List, filter, slice_index}
use Rattle.std.specs.List.{list_all}
use Rattle.profile.specs.declared.conditions.Cond.{Cond}
use Rattle.profile.specs.declared.rules.Rule.{Rule}
use Rattle.profile.specs.Policy.{Policy}
use Rattle.profile.specs.Rule.{argument_of}
use Rattle.profile.specs.Said.{meets}
use Rattle.differ.specs.OnCall.{conditions_on, is_for}
use Rattle.differ.specs.declared.opened.Open.{Open}

-- the condition is on a later argument, or the record meets it
abbrev pub met_before : ℕ → List ℕ → Cond → Bool
met_before j r c = not (nat_lt c.index j) || meets c (argument_of r c.index)

-- the rule is for the call, and by the first arguments the record may match it
abbrev pub is_open : ℕ → ℕ → ℕ → List ℕ → Rule → Bool
is_open token nr j r rule = is_for token nr rule && list_all (met_before j r) rule.conds.items

-- these are the rules of two profiles that are open
pub record AreOpen (p q : Policy) (token nr j : ℕ) (held : Open) (r : List ℕ) : Type 0 where
  pub first : held.first.items ≡ filter (is_open token nr j r) p.rules
  pub second : held.second.items ≡ filter (is_open token nr j r) q.rules

-- the first arguments of the record are these
abbrev pub HasFirst : List ℕ → ℕ → List ℕ → Type 0
HasFirst args j r = (i : ℕ) → i < j → argument_of r i ≡ slice_index args i

-- the conditions of open rules on one argument
abbrev pub open_on : ℕ → Open → List Cond
open_on j held = conditions_on j held.first.items ++ conditions_on j held.second.items
