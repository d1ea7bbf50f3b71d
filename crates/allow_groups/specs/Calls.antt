-- The calls that machines have under names, and whether a record is of one of them.
use Rattle.std.specs.Prelude.{ℕ, ◌==◌, ◌&&◌, Bool, List, [], ◌∷◌, Option, Some, None}
use Rattle.std.specs.List.{flat_map, list_any}
use Rattle.call_record.specs.Words.{word}
use Rattle.machines.specs.declared.arch.Arch.{Arch}
use Rattle.machines.specs.Arch.{token_of}
use Rattle.call_tables.specs.Tables.{table_of}
use Rattle.call_tables.specs.Table.{number_in}
use Rattle.allow_groups.specs.declared.calls.MachineCall.{MachineCall}

-- a call of a machine by its number, if it has one
abbrev pub call_with : Arch → Option ℕ → List MachineCall
call_with arch None = []
call_with arch (Some nr) = record { arch = arch; nr = nr } ∷ []

abbrev pub call_on : List ℕ → Arch → List MachineCall
call_on name arch = call_with arch (number_in (table_of arch) name)

-- those of machines, and of names
abbrev pub calls_by : List Arch → List ℕ → List MachineCall
calls_by machines name = flat_map (call_on name) machines

abbrev pub calls_on : List Arch → List (List ℕ) → List MachineCall
calls_on machines names = flat_map (calls_by machines) names

-- the record is of the call
abbrev pub is_call : List ℕ → MachineCall → Bool
is_call r call = (word r 1 == token_of call.arch) && (word r 0 == call.nr)

abbrev pub is_of : List MachineCall → List ℕ → Bool
is_of calls r = list_any (is_call r) calls
