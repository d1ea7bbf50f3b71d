-- The places of containers in the order of creation, and what is kept under their numbers.
use Rattle.std.specs.Prelude.{ℕ, ◌+◌, ◌≤◌, ◌==◌, Bool, true, false, List, [], ◌∷◌, Option, None, Some, is_some, if◌then◌else◌}
use Rattle.std.proofs.Props.{props}
use Rattle.processes.specs.Views.{same_text}
use Rattle.lifecycle.specs.declared.entry.Entry.{Entry}
use Rattle.lifecycle.specs.declared.entry.Phase.{Phase}
use Rattle.lifecycle.specs.declared.register.Numbered.{Numbered}
use Rattle.lifecycle.specs.declared.register.Place.{Place}
use Rattle.lifecycle.specs.Entries.{Entries}

-- what is kept, come to a phase
abbrev pub at_phase : Phase → Numbered → Numbered
at_phase phase n = record n { entry = record (n.entry) { phase = phase } }

-- what is kept of each container, by its id
abbrev pub Known : Type 0
Known = List ℕ → Option Numbered

-- the entry of what is kept, where that is under this number
abbrev pub entry_under : ℕ → Option Numbered → Option Entry
entry_under number None = None
entry_under number (Some n) = if n.number == number then Some n.entry else None

-- the entry of the container of a place, which is there while an entry has the place's number
abbrev pub entry_at : Known → Place → Option Entry
entry_at known p = entry_under p.number (known p.name)

abbrev pub is_there : Known → Place → Bool
is_there known p = is_some (entry_at known p)

abbrev pub in_front : List ℕ → Option Entry → Entries → Entries
in_front id None es = es
in_front id (Some e) es = (id, e) ∷ es

-- the containers that are there, in the order of their places
abbrev pub listed_by : Known → List Place → Entries
listed_by known [] = []
listed_by known (p ∷ ps) = in_front p.name (entry_at known p) (listed_by known ps)

-- there is a place of an id with a number
abbrev pub is_placed : List ℕ → ℕ → List Place → Bool
is_placed id number [] = false
is_placed id number (p ∷ ps) =
    if same_text id p.name then (if p.number == number then true else is_placed id number ps) else is_placed id number ps

-- the numbers rise, from one on and below the next
abbrev pub IsRising : ℕ → ℕ → List Place → Type 0
IsRising least next [] = least ≤ next
IsRising least next (p ∷ ps) = (least ≤ p.number) × IsRising (p.number + 1) next ps

-- which is a fact
pub IsRising-prop : (least next : ℕ) (ps : List Place) → IsProp (IsRising least next ps)
IsRising-prop least next [] = hlevel props
IsRising-prop least next (p ∷ ps) = hlevel (props, IsRising-prop (p.number + 1) next ps)
