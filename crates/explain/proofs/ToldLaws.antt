-- What is told where no record is asked for.
use Rattle.std.proofs.Common.{ℕ, List, inl}
use Rattle.std.specs.Prelude.{IfOk, Result, Ok, Err}
use denote.Ref.{Bor}
use Rattle.machines.specs.declared.arch.Arch.{Arch}
use Rattle.call_record.specs.declared.layout.Record.{Record}
use Rattle.call_words.specs.Wrong.{TellsWrong}
use Rattle.explain.specs.Asked.{IsAsked, IsCall}
use Rattle.explain.specs.Refused.{Refuses, TellsWhyNot}
use Rattle.explain.specs.Told.{IsExplained, IsRecorded}
use Rattle.wording.specs.declared.told.Told.{Told}

pub no_call : {E : Type 0} (native : Arch) (given : List (Bor (List ℕ))) (r : Result Told E) → ((x : Record) → IsAsked native given x → ⊥)
    → IfOk r (Refuses native (TellsWrong native given)) → IfOk r (IsRecorded native given)
no_call native given (Ok told) none refuses = inl (record { none = none; refuses = refuses })
no_call native given (Err e) none refuses = tt

pub nothing_asked : {E : Type 0} (native : Arch) (bundle : List ℕ) (given : List (Bor (List ℕ))) (r : Result Told E)
    → ((x : Record) → IsCall native given x → ⊥) → IfOk r (Refuses native (TellsWhyNot native given))
    → IfOk r (IsExplained native bundle given)
nothing_asked native bundle given (Ok told) none refuses = inl (record { none = none; refuses = refuses })
nothing_asked native bundle given (Err e) none refuses = tt
