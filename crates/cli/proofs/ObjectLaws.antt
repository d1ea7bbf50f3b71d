-- What the end of `json` tells of the end of the command behind it, and what was read.
use Rattle.std.proofs.Common.{◌≡◌, ◌⊎◌, ℕ, ap, inl, inr, List, refl, subst, sym, ◌∙◌}
use Rattle.std.specs.Prelude.{Bool, true, false, Option, Some, None, Result, Ok, Err}
use denote.Ref.{Bor}
use Rattle.texts.specs.Failures.{Failures}
use Rattle.texts.specs.declared.streams.fault.WriteFault.{WriteFault}
use Rattle.texts.specs.declared.streams.fault.WriteFault.TheVariants as fault
use Rattle.command_line.specs.Lines.{Given, IsCommandLine, NoCommandLine, Reads, command_of, given, texts}
use Rattle.command_line.specs.declared.prose.Command.{Command}
use Rattle.command_line.specs.declared.reading.CommandLine.{CommandLine}
use Rattle.cli.specs.Json.{TellsObjects, WritesObjects, ends_by}
use Rattle.cli.specs.Stop.{ends_told, is_told, stop_at_fault}
use Rattle.cli.specs.declared.stops.Stop.{Stop}
use Rattle.cli.specs.declared.stops.Stop.TheVariants.{CannotRead, Doubtful, OutOfMemory, Read, Refused, Usage, Write}

abbrev Outcome : Type 0
Outcome = Result Bool Stop

-- the program ends as the command did, or stops for want of memory or at the sink
abbrev EndsAs : Outcome → Outcome → Type 0
EndsAs outcome result = (result ≡ outcome) ⊎ ((stop : Stop) × (result ≡ Err stop) × (is_told stop ≡ false))

by_fault : (w : WriteFault) → is_told (stop_at_fault w) ≡ false
by_fault (fault.Write out) = refl
by_fault fault.OutOfMemory = refl

module _ {O : Type 0} (held : O → Option (List ℕ)) (failures : O → Failures) (old new : O) where
  told_ends : (objects : List ℕ) (outcome result : Outcome) → TellsObjects held failures old new objects outcome result → EndsAs outcome result
  told_ends objects outcome result (inl h) = inr (OutOfMemory, h.0, refl)
  told_ends objects outcome result (inr h) = by_case h.0 h.2 where
    by_case : (w : Result (Unit {0}) WriteFault) → result ≡ ends_by outcome w → EndsAs outcome result
    by_case (Ok done) e = inl e
    by_case (Err w) e = inr (stop_at_fault w, e, by_fault w)

  ends : (command : Command) (name answer : List ℕ) (outcome result : Outcome)
      → WritesObjects held failures old new command name answer outcome result → EndsAs outcome result
  ends command name answer (Ok true) result h = told_ends _ (Ok true) result h
  ends command name answer (Ok false) result h = told_ends _ (Ok false) result h
  ends command name answer (Err Refused) result h = told_ends _ (Err Refused) result h
  ends command name answer (Err Doubtful) result h = told_ends _ (Err Doubtful) result h
  ends command name answer (Err (Write out)) result h = inr (OutOfMemory, h.0, refl)
  ends command name answer (Err Usage) result h = inl h.0
  ends command name answer (Err (CannotRead file)) result h = inl h.0
  ends command name answer (Err (Read line)) result h = inl h.0
  ends command name answer (Err OutOfMemory) result h = inl h.0

  pub ended_ok : (command : Command) (name answer : List ℕ) (outcome result : Outcome) (done : Bool)
      → WritesObjects held failures old new command name answer outcome result → result ≡ Ok done → outcome ≡ Ok done
  ended_ok command name answer outcome result done h e = by_end (ends command name answer outcome result h) where
    by_end : EndsAs outcome result → outcome ≡ Ok done
    by_end (inl same) = sym same ∙ e
    by_end (inr (stop, stops, other)) = absurd (cc)

  pub ended_told : (command : Command) (name answer : List ℕ) (outcome result : Outcome)
      → WritesObjects held failures old new command name answer outcome result → ends_told result ≡ true → ends_told outcome ≡ true
  ended_told command name answer outcome result h e = by_end (ends command name answer outcome result h) where
    by_end : EndsAs outcome result → ends_told outcome ≡ true
    by_end (inl same) = sym (ap ends_told same) ∙ e
    by_end (inr (stop, stops, other)) = let no : false ≡ true = sym other ∙ (sym (ap ends_told stops) ∙ e) in absurd (cc)

-- arguments that were read are a command
pub read_is : (arguments : List (Bor (List ℕ))) (line : CommandLine)
    → ((g : Given) → IsCommandLine arguments g → Reads g (Ok line)) → (NoCommandLine arguments → false ≡ true)
    → IsCommandLine arguments (given line)
read_is arguments line command none = by_case (command_of (texts arguments)) refl where
  by_case : (o : Option Given) → command_of (texts arguments) ≡ o → IsCommandLine arguments (given line)
  by_case None e = let no : false ≡ true = none (inl e) in absurd (cc)
  by_case (Some g) e =
      let is : IsCommandLine arguments g = record { command = e; plain = λ dashed. let no : false ≡ true = none (inr dashed) in absurd (cc) } in
      subst (IsCommandLine arguments) (sym (command g is)) is
