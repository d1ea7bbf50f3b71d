-- Which call failed, by what is told.
use Rattle.std.proofs.Common.{◌≡◌, ℕ, refl, subst, ◌∙◌}
use Rattle.std.specs.Prelude.{Result, Ok, Err}
use Rattle.texts.specs.Failures.{Failures, NoneFailed}
use Rattle.texts.proofs.SinkLemmas.{has_failed}
use Rattle.session.specs.declared.fault.ScriptFault.{ScriptFault}
use Rattle.session.specs.declared.fault.ScriptFault.TheVariants.{Read, Write, Memory}
use Rattle.session.specs.Scripts.{TellsFailedRead, TellsFailedWrite}

-- no failed read is told, and none failed
pub no_failed_read : {T : Type 0} (old new : Failures) (r : Result T ScriptFault) → ((line : ℕ) → r ≡ Err (Read line) → ⊥)
    → NoneFailed old new → TellsFailedRead old new r
no_failed_read old new (Ok x) no_read kept = kept
no_failed_read old new (Err (Read line)) no_read kept = absurd (no_read line refl)
no_failed_read old new (Err (Write out)) no_read kept = kept
no_failed_read old new (Err (Memory line)) no_read kept = kept

-- none failed before
pub since : {T : Type 0} (first old new : Failures) (r s : Result T ScriptFault) → r ≡ s → NoneFailed first old
    → TellsFailedWrite old new r → TellsFailedWrite first new s
since {T} first old new r s is kept told = from s (subst (λ (t : Result T ScriptFault). TellsFailedWrite old new t) is told) where
  from : (t : Result T ScriptFault) → TellsFailedWrite old new t → TellsFailedWrite first new t
  from (Ok x) h = h ∙ kept
  from (Err (Write out)) h = has_failed first old new kept h
  from (Err (Read line)) h = h ∙ kept
  from (Err (Memory line)) h = h ∙ kept
