-- The calls that are told from one another, by their numbers on a machine.
use Rattle.std.specs.Prelude.{ℕ, ◌==◌, List, [], ◌∷◌, Option, None, Some, if◌then◌else◌}
use Rattle.call_tables.specs.Table.{Table, number_in}
use Rattle.processes.specs.declared.calls.Call.{Call}
use Rattle.processes.specs.declared.calls.Call.TheVariants.{Plain}

-- the call beside the first such number, and Plain where there is none
abbrev pub call_at : List (ℕ × Call) → ℕ → Call
call_at [] nr = Plain
call_at (e ∷ es) nr = if e.0 == nr then e.1 else call_at es nr

abbrev pub with_number : Option ℕ → Call → List (ℕ × Call) → List (ℕ × Call)
with_number None c es = es
with_number (Some nr) c es = (nr, c) ∷ es

-- names with their calls, as numbers with their calls: without the names that the table lacks
abbrev pub numbers_in : Table → List (List ℕ × Call) → List (ℕ × Call)
numbers_in t [] = []
numbers_in t (e ∷ es) = with_number (number_in t e.0) e.1 (numbers_in t es)
