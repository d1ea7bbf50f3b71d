-- Commands that are not begun, and the ends of the program that follow.
use Rattle.std.proofs.Common.{◌≡◌, ◌∙◌, ◌⊎◌, ℕ, true, false, inl, inr, List, refl, subst, sym}
use Rattle.std.specs.Prelude.{Bool, Option, Result, Ok, Err}
use Rattle.texts.specs.Failures.{Failures}
use Rattle.command_line.specs.Lines.{Given, Reads, given, texts}
use Rattle.command_line.specs.declared.prose.Command.{Command}
use Rattle.command_line.specs.declared.reading.CommandLine.{CommandLine}
use Rattle.cli.specs.Parts.{Parts, parts_of}
use Rattle.command_line.specs.declared.reading.Misuse.{Misuse}
use Rattle.command_line.specs.declared.reading.Misuse.TheVariants as kind
use Rattle.cli.specs.declared.stops.Stop.{Stop}
use Rattle.cli.specs.declared.stops.Stop.TheVariants.{Usage, CannotRead, Read, Write, OutOfMemory, Refused, Doubtful}
use Rattle.cli.specs.Dispatch.{AskedRefusal, Does, ExplainsBy, ExplainsWhy, IsMisuse, Tells, TellsMisuse}
use Rattle.cli.specs.Files.{Folder}
use Rattle.cli.specs.Remarked.{RemarksBy, RemarksOf}
use Rattle.cli.specs.Stop.{ReportsOn, is_told, status_of, stop_at_misuse}

module _ {I O : Type 0} (left : I → Option (List ℕ)) (taking : I → Failures) (held : O → Option (List ℕ)) (taken : O → Failures)
    (folder : Option Folder) (input : I) (out : O) where
  -- a command for which there is no memory is not begun
  pub unread_arguments : (command : Given) (misuse : Misuse) (result : Result Bool Stop) → Reads command (Err misuse)
      → result ≡ Err (stop_at_misuse misuse) → Does left taking held taken folder input input out out command result
  unread_arguments command kind.OutOfMemory result memory e = inl (record { stops = e; unread = refl; unwritten = refl })
  unread_arguments command kind.Usage result memory e = absurd memory

-- what is so of the line that was read is so of the command that the arguments are
pub same_parts : (line : CommandLine) (p : Parts) (command : Given) (Is : Command → Parts → Type 0) → p ≡ parts_of (texts line.parts.now)
    → given line ≡ command → Is line.command p → Is command.0 (parts_of command.1)
same_parts line p command Is e same h =
    subst (λ k. Is k.0 (parts_of k.1)) same (subst (λ q. Is line.command q) e h)

-- where the program stops nothing is explained
pub explained_why : {O E : Type 0} (held : O → Option (List ℕ)) (taken : O → Failures) (shown : E → Option (List ℕ)) (dropped : E → Failures)
    (folder : Option Folder) (out out' : O) (err err' : E) (command : Command) (p : Parts) (result : Result Bool Stop)
    → ExplainsBy held taken shown dropped folder out out' err err' command p result
    → ExplainsWhy held taken shown dropped folder out out' err err' command p result
explained_why held taken shown dropped folder out out' err err' command p (Ok done) h = h
explained_why held taken shown dropped folder out out' err err' command p (Err stop) h = tt

pub is_misuse : (misuse : Misuse) (result : Result Bool Stop) → result ≡ Err (stop_at_misuse misuse) → IsMisuse result
is_misuse kind.Usage result e = subst IsMisuse (sym e) tt
is_misuse kind.OutOfMemory result e = subst IsMisuse (sym e) tt

-- ---- where the program stops

abbrev ended : Stop → Result Bool Stop
ended stop = Err stop

-- the answer does not say why
abbrev IsOther : Stop → Type 0
IsOther stop = is_told stop ≡ false

module _ {E : Type 0} (held : E → Option (List ℕ)) (failures : E → Failures) (old between new : E) (arguments : List (List ℕ)) where
  -- nothing is told before the line that says why
  unchanged : (stop : Stop) → IsOther stop → (is_told stop ≡ true) ⊎ (between ≡ old) → between ≡ old
  unchanged stop other (inl e) = let no : false ≡ true = sym other ∙ e in absurd (cc)
  unchanged stop other (inr e) = e

  reported : (stop : Stop) → IsOther stop → (is_told stop ≡ true) ⊎ (between ≡ old)
      → (IsOther stop → ReportsOn held failures between new arguments stop) → ReportsOn held failures old new arguments stop
  reported stop other stopped lines =
      subst (λ e. ReportsOn held failures e new arguments stop) (unchanged stop other stopped) (lines other)

  -- what is told, and then the lines on files that are no bundles
  abbrev pub Ends : Given → Stop → Type 0
  Ends command stop =
      (told : E) × Tells held failures old told arguments command (ended stop) × RemarksBy held failures command (ended stop) told new

  pub ends_stop : (command : Given) (stop : Stop) → (is_told stop ≡ true) ⊎ (between ≡ old)
      → (is_told stop ≡ true → AskedRefusal command ⊎ (between ≡ old))
      → (stop ≡ Refused → RemarksOf held failures command between new) → (stop ≡ Doubtful → new ≡ between)
      → (IsOther stop → ReportsOn held failures between new arguments stop) → Ends command stop
  ends_stop command Refused stopped refused remarks quiet lines = (between, refused refl, remarks refl)
  ends_stop command Doubtful stopped refused remarks quiet lines = (between, refused refl, quiet refl)
  ends_stop command Usage stopped refused remarks quiet lines = (new, reported Usage refl stopped lines, refl)
  ends_stop command OutOfMemory stopped refused remarks quiet lines = (new, reported OutOfMemory refl stopped lines, refl)
  ends_stop command (CannotRead name) stopped refused remarks quiet lines = (new, reported (CannotRead name) refl stopped lines, refl)
  ends_stop command (Read line) stopped refused remarks quiet lines = (new, reported (Read line) refl stopped lines, refl)
  ends_stop command (Write out) stopped refused remarks quiet lines = (new, reported (Write out) refl stopped lines, refl)

  pub tells_misuse : (stop : Stop) (status : ℕ) → IsMisuse (Err stop) → status ≡ status_of stop
      → (is_told stop ≡ true) ⊎ (between ≡ old) → (IsOther stop → ReportsOn held failures between new arguments stop)
      → TellsMisuse held failures old new arguments status
  tells_misuse Usage status is e stopped lines = inl (e, reported Usage refl stopped lines)
  tells_misuse OutOfMemory status is e stopped lines = inr (e, reported OutOfMemory refl stopped lines)
  tells_misuse (CannotRead name) status is e stopped lines = absurd is
  tells_misuse (Read line) status is e stopped lines = absurd is
  tells_misuse (Write out) status is e stopped lines = absurd is
  tells_misuse Refused status is e stopped lines = absurd is
  tells_misuse Doubtful status is e stopped lines = absurd is
