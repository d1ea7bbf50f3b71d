-- The record, or the call, of a command of a script.
use Rattle.std.specs.Prelude.{ℕ, ◌≡◌, Option, None, Some, IsSomeAnd}
use Rattle.machines.specs.declared.arch.Arch.{Arch}
use Rattle.call_record.specs.declared.layout.Record.{Record}
use Rattle.script.specs.Commands.{Command, Create, Start, Delete, State, Kill, Call}
use Rattle.explain.specs.Asked.{IsRecordOf}

-- a call without a program has a record, and nothing else has one
abbrev pub IsRecordIn : Command → Option Record → Type 0
IsRecordIn (Call id task arch nr args None) found = IsSomeAnd found (IsRecordOf arch nr args)
IsRecordIn (Call id task arch nr args (Some program)) found = found ≡ None
IsRecordIn (Create id bundle) found = found ≡ None
IsRecordIn (Start id) found = found ≡ None
IsRecordIn (Delete id) found = found ≡ None
IsRecordIn (State id) found = found ≡ None
IsRecordIn (Kill id signal) found = found ≡ None

-- the machine and the number of a call without a program
abbrev pub call_of : Command → Option (Arch × ℕ)
call_of (Call id task arch nr args None) = Some (arch, nr)
call_of (Call id task arch nr args (Some program)) = None
call_of (Create id bundle) = None
call_of (Start id) = None
call_of (Delete id) = None
call_of (State id) = None
call_of (Kill id signal) = None
