-- What two profiles say of call records.
use Rattle.std.specs.Prelude.{ℕ, ◌≡◌, ◌≢◌, ◌↔◌, List, Option, Some, None}
use Rattle.std.specs.Fmt.{decimal}
use Rattle.std.specs.List.{All}
use Rattle.call_record.specs.Words.{IsRecord, words_from}
use Rattle.machines.specs.declared.arch.Arch.{Arch}
use Rattle.machines.specs.declared.arch.Family.{Family}
use Rattle.call_tables.specs.Tables.{table_of}
use Rattle.call_tables.specs.Table.{name_in}
use Rattle.wording.specs.Phrases.{machine_with}
use Rattle.profile.specs.Policy.{Policy, Says}
use Rattle.compare.specs.declared.difference.Difference.{Difference}
use Rattle.compare.specs.declared.change.Change.{Change}

-- they say the same verdicts of each record
abbrev pub SayTheSame : Policy → Policy → Type 0
SayTheSame p q = (r : List ℕ) → IsRecord r → (v : ℕ) → Says p r v ↔ Says q r v

-- a call by its name, or else by its number
abbrev pub named : Option (List ℕ) → ℕ → List ℕ
named (Some name) nr = name
named None nr = decimal nr

abbrev pub name_of : Option Arch → ℕ → List ℕ
name_of (Some arch) nr = named (name_in (table_of arch) nr) nr
name_of None nr = decimal nr

-- the record of a call
abbrev pub record_of : Difference → List ℕ
record_of d = words_from d.nr d.token d.ip d.args

-- they say unlike verdicts of the record, whose machine is told by token and number
pub record IsDifference (family : Family) (p q : Policy) (d : Difference) : Type 0 where
  pub is_record : IsRecord (record_of d)
  pub machine : d.arch ≡ machine_with family d.token d.nr
  pub says_first : Says p (record_of d) d.first
  pub says_second : Says q (record_of d) d.second
  pub unlike : d.first ≢ d.second

-- a call of the same name with the same arguments, of which the same verdicts are said
pub record IsLike (d other : Difference) : Type 0 where
  pub same_name : name_of other.arch other.nr ≡ name_of d.arch d.nr
  pub same_args : other.args ≡ d.args
  pub same_first : other.first ≡ d.first
  pub same_second : other.second ≡ d.second

-- calls of some machines, of which the profiles say the same unlike verdicts
pub record IsChange (family : Family) (p q : Policy) (c : Change) : Type 0 where
  pub first : IsDifference family p q c.first
  pub others : All (λ d. IsDifference family p q d × IsLike c.first d) c.others.items
