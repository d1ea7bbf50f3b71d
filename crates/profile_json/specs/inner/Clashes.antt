-- Two entries that overlap, as the search for them sees it.
use Rattle.std.specs.Prelude.{◌≡◌, ◌≢◌, ℕ, ◌<◌, List, map, Some, slice_get}
use Rattle.std.specs.List.{Any, Contains}
use Rattle.machines.specs.declared.arch.Arch.{Arch}
use Rattle.call_tables.specs.Tables.{table_of}
use Rattle.call_tables.specs.Table.{number_in}
use Rattle.profile.specs.declared.rules.Rule.{Rule}
use Rattle.profile.specs.Rule.{Overlap, Clash}
use Rattle.profile.specs.Policy.{InOrder}
use Rattle.profile_json.specs.Fault.{Fault, overlap}
use Rattle.profile_json.specs.Parts.{EntryParts, rule_parts}
use Rattle.profile_json.specs.Rules.{rule_of, rules_of}
use Rattle.profile_json.specs.CallName.{short_name}
use Rattle.profile_json.specs.Breaks.{ClashUnder}

-- one record matches rules of both entries for this name and machine
pub record OverlapOn (x y : EntryParts) (name : List ℕ) (arch : Arch) : Type 0 where
  pub nr : ℕ
  pub nr_is : number_in (table_of arch) name ≡ Some nr
  pub first : Rule
  pub first_is : rule_parts first ≡ rule_of x arch nr
  pub second : Rule
  pub second_is : rule_parts second ≡ rule_of y arch nr
  pub both : Overlap first second

-- no name of both has such rules with unlike verdicts
abbrev pub NoClash : List Arch → EntryParts → EntryParts → Type 0
NoClash machines x y = x.word ≢ y.word → (name : List ℕ) → Contains x.names name → Contains y.names name
    → Any (OverlapOn x y name) machines → ⊥

-- the rule at this place overlaps an earlier one, with another verdict
pub record HasClash (machines : List Arch) (es : List EntryParts) (place : ℕ) : Type 0 where
  pub order : InOrder machines
  pub said : List Rule
  pub said_is : map rule_parts said ≡ rules_of machines es
  pub earlier : ℕ
  pub before : earlier < place
  pub first : Rule
  pub first_at : slice_get said earlier ≡ Some first
  pub second : Rule
  pub second_at : slice_get said place ≡ Some second
  pub clash : Clash first second

-- the fault is the overlap of two entries
pub record IsOverlap (machines : List Arch) (es : List EntryParts) (f : Fault) : Type 0 where
  pub first : ℕ
  pub second : ℕ
  pub in_order : first < second
  pub x : EntryParts
  pub x_at : slice_get es first ≡ Some x
  pub y : EntryParts
  pub y_at : slice_get es second ≡ Some y
  pub name : List ℕ
  pub clash : ClashUnder machines x y name
  pub fault_is : f ≡ overlap (short_name name) first second
