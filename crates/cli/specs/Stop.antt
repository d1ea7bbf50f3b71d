-- Why a run stopped, its exit status, and the line that says so.
use Rattle.std.specs.Prelude.{ℕ, ◌≡◌, ◌⊎◌, Bool, true, false, List, [], ◌∷◌, ◌++◌, Result, Ok, Err, Option, codes}
use Rattle.std.specs.Fmt.{decimal}
use Rattle.command_line.specs.Lines.{IsOurs}
use Rattle.texts.specs.Lines.{line_feed}
use Rattle.texts.specs.Failures.{Failures}
use Rattle.texts.specs.Sink.{Writes}
use Rattle.texts.specs.declared.streams.fault.WriteFault.{WriteFault}
use Rattle.texts.specs.declared.streams.fault.WriteFault.TheVariants as fault
use Rattle.session.specs.declared.fault.ScriptFault.{ScriptFault}
use Rattle.session.specs.declared.fault.ScriptFault.TheVariants as script
use Rattle.command_line.specs.declared.reading.Misuse.{Misuse}
use Rattle.command_line.specs.declared.reading.Misuse.TheVariants as misuse
use Rattle.cli.specs.declared.stops.Stop.{Stop}
use Rattle.cli.specs.declared.stops.Stop.TheVariants.{Usage, CannotRead, Read, Write, OutOfMemory, Refused, Doubtful}

abbrev pub status_of : Stop → ℕ
status_of Usage = 2
status_of (CannotRead name) = 3
status_of (Read line) = 3
status_of (Write out) = 3
status_of OutOfMemory = 3
status_of Refused = 4
status_of Doubtful = 5

-- the answer says why, and no line is written
abbrev pub is_told : Stop → Bool
is_told Usage = false
is_told (CannotRead name) = false
is_told (Read line) = false
is_told (Write out) = false
is_told OutOfMemory = false
is_told Refused = true
is_told Doubtful = true

abbrev pub ends_told : Result Bool Stop → Bool
ends_told (Ok done) = false
ends_told (Err stop) = is_told stop

-- the text that says it; the last two are not written
abbrev pub text_of : Stop → List ℕ
text_of Usage = codes "ccell: usage"
text_of (CannotRead name) = codes "ccell: cannot read " ++ name.now
text_of (Read line) = codes "ccell: read failed at line " ++ decimal line
text_of (Write out) = codes "ccell: write failed after " ++ decimal out ++ codes " bytes"
text_of OutOfMemory = codes "ccell: out of memory"
text_of Refused = codes "ccell: refused"
text_of Doubtful = codes "ccell: doubtful"

-- the line that says it
abbrev pub line_of : Stop → List ℕ
line_of stop = text_of stop ++ line_feed ∷ []

-- the line of a file that cannot be read
abbrev pub name_line : List ℕ → List ℕ
name_line name = codes "ccell: cannot read " ++ name ++ line_feed ∷ []

-- the line was written, or a beginning of it where a write failed
abbrev pub Reports : {S : Type 0} → (S → Option (List ℕ)) → (S → Failures) → S → S → List ℕ → Type 0
Reports held failures old new line = (written : Result (Unit {0}) WriteFault) × Writes held failures old new line written

-- Nothing was written. Or, if the first argument is the name of a command of our own, a text was, as far as the sink took it.
abbrev pub MayAdvise : {S : Type 0} → (S → Option (List ℕ)) → (S → Failures) → S → S → List (List ℕ) → Type 0
MayAdvise held failures old new arguments =
    (new ≡ old) ⊎ (IsOurs arguments × ((text : List ℕ) × Reports held failures old new text))

-- The line that says why the program stops was written, and behind it nothing, unless it stops at arguments.
pub record ReportsOn {S : Type 0} (held : S → Option (List ℕ)) (failures : S → Failures) (old new : S) (arguments : List (List ℕ))
    (stop : Stop) : Type 0 where
  pub between : S
  pub line : Reports held failures old between (line_of stop)
  pub more : (new ≡ between) ⊎ ((stop ≡ Usage) × MayAdvise held failures between new arguments)

abbrev pub stop_at_fault : WriteFault → Stop
stop_at_fault (fault.Write out) = Write out
stop_at_fault fault.OutOfMemory = OutOfMemory

abbrev pub stop_at_script : ScriptFault → Stop
stop_at_script (script.Read line) = Read line
stop_at_script (script.Write out) = Write out
stop_at_script (script.Memory line) = OutOfMemory

abbrev pub stop_at_misuse : Misuse → Stop
stop_at_misuse misuse.Usage = Usage
stop_at_misuse misuse.OutOfMemory = OutOfMemory
