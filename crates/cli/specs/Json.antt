-- An answer as JSON lines: what a command writes is kept in memory, and told as objects.
use Rattle.std.specs.Prelude.{ℕ, ◌≡◌, ◌⊎◌, ◌&&◌, Bool, true, false, nat_eq, List, Option, Some, Result, Ok, Err}
use Rattle.std.specs.Global.{Vec}
use Rattle.std.specs.List.{starts_with}
use Rattle.cert_form.specs.Spelling.{magic}
use Rattle.texts.specs.Failures.{Failures}
use Rattle.texts.specs.Sink.{Writes}
use Rattle.texts.specs.declared.streams.fault.WriteFault.{WriteFault}
use Rattle.texts.specs.declared.streams.sink.ToWrite.{ToWrite}
use Rattle.command_line.specs.declared.prose.Command.{Command}
use Rattle.command_line.specs.declared.prose.Command.TheVariants.{Certify, Json}
use Rattle.json_lines.specs.Kinds.{kinds_of}
use Rattle.json_lines.specs.Objects.{told_certificate, told_lines}
use Rattle.cli.specs.Stop.{stop_at_fault}
use Rattle.cli.specs.declared.stops.Stop.{Stop}
use Rattle.cli.specs.declared.stops.Stop.TheVariants.{CannotRead, Doubtful, OutOfMemory, Read, Refused, Usage, Write}

-- a sink that keeps all bytes in memory, and what it tells of itself
abbrev pub Kept : Type 0
Kept = ToWrite (Vec ℕ)

abbrev pub kept : Kept → Option (List ℕ)
kept sink = Some sink.writer.items

abbrev pub kept_failures : Kept → Failures
kept_failures sink = record { count = sink.failures; last = sink.last_failed }

abbrev pub is_json : Command → Bool
is_json Json = true
is_json other = false

-- the answer is the bytes of a certificate, and no line that says for which calls there is none
abbrev pub is_certificate : Command → Bool → List ℕ → Bool
is_certificate Certify done answer = done && starts_with nat_eq answer magic
is_certificate other done answer = false

-- the objects of an answer of the command of that name, which ended with this status
abbrev pub objects_by : Bool → List ℕ → List ℕ → ℕ → List ℕ
objects_by true name answer status = told_certificate answer status
objects_by false name answer status = told_lines (kinds_of name) answer status

-- how the program ends once the objects are written, or where a write fails
abbrev pub ends_by : Result Bool Stop → Result (Unit {0}) WriteFault → Result Bool Stop
ends_by outcome (Ok done) = outcome
ends_by outcome (Err fault) = Err (stop_at_fault fault)

-- the objects are written, and the program ends as the command did; or there is no memory for them, and nothing is written
abbrev pub TellsObjects : {O : Type 0} → (O → Option (List ℕ)) → (O → Failures) → O → O → List ℕ → Result Bool Stop → Result Bool Stop
    → Type 0
TellsObjects held failures old new objects outcome result =
    ((result ≡ Err OutOfMemory) × (new ≡ old))
    ⊎ ((written : Result (Unit {0}) WriteFault) × Writes held failures old new objects written × (result ≡ ends_by outcome written))

-- the program stops where the command did; an answer that cannot be kept wants memory
abbrev pub kept_stop : Stop → Stop
kept_stop (Write out) = OutOfMemory
kept_stop Usage = Usage
kept_stop (CannotRead name) = CannotRead name
kept_stop (Read line) = Read line
kept_stop OutOfMemory = OutOfMemory
kept_stop Refused = Refused
kept_stop Doubtful = Doubtful

-- The objects of an answer that the command gave, also of one that what was given is refused, or is doubtful. Else the program
-- stops, and none is written.
abbrev pub WritesObjects : {O : Type 0} → (O → Option (List ℕ)) → (O → Failures) → O → O → Command → List ℕ → List ℕ → Result Bool Stop
    → Result Bool Stop → Type 0
WritesObjects held failures old new command name answer (Ok true) result =
    TellsObjects held failures old new (objects_by (is_certificate command true answer) name answer 0) (Ok true) result
WritesObjects held failures old new command name answer (Ok false) result =
    TellsObjects held failures old new (objects_by false name answer 1) (Ok false) result
WritesObjects held failures old new command name answer (Err Refused) result =
    TellsObjects held failures old new (objects_by false name answer 4) (Err Refused) result
WritesObjects held failures old new command name answer (Err Doubtful) result =
    TellsObjects held failures old new (objects_by false name answer 5) (Err Doubtful) result
WritesObjects held failures old new command name answer (Err stop) result = (result ≡ Err (kept_stop stop)) × (new ≡ old)
