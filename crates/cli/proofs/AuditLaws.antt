-- What is told of a kernel's log on standard input.
use Rattle.std.proofs.Common.{ℕ, inl, inr, List, [], ◌∷◌}
use Rattle.std.specs.Prelude.{Bool, Option, Result, Ok, Err}
use Rattle.machines.specs.declared.arch.Arch.{Arch}
use Rattle.explain.specs.Audit.{IsAudited}
use Rattle.texts.specs.Failures.{Failures}
use Rattle.wording.specs.declared.told.Told.{Told}
use Rattle.cli.specs.declared.stops.Stop.{Stop}
use Rattle.cli.specs.Dispatch.{AnswersAudit}
use Rattle.cli.specs.Files.{Folder, HasBundle}
use Rattle.cli.specs.Parts.{Parts}
use Rattle.cli.specs.Told.{OfBundle, of_one}
use Rattle.cli.specs.inner.Telling.{IsAuditOf, TellsAudit, TellsOn}
use Rattle.cli.proofs.BundleLaws.{told_bundle}
use Rattle.cli.proofs.DispatchLaws.{answers_told}

module _ {I : Type 0} (left : I → Option (List ℕ)) (given : I → Failures) (folder : Option Folder) (old new : I) where
  pub audit_of_file : (native : Arch) (name bundle : List ℕ) → HasBundle native folder name bundle → (told : Result Told Stop)
      → TellsAudit (left old) (left new) (given old) (given new) native bundle told
      → IsAuditOf left given folder old new native name told
  audit_of_file native name bundle has (Ok told) h = (
    h.0,
    h.1,
    told_bundle native folder name bundle (λ text. IsAudited native text h.0) has (Ok told) h.2,
  )
  audit_of_file native name bundle has (Err stop) h = inr h

  pub answers_audited : {O : Type 0} (held : O → Option (List ℕ)) (taken : O → Failures) (out out' : O) (p : Parts)
      (result : Result Bool Stop) (told : Result Told Stop) → IsAuditOf left given folder old new p.native p.two told
      → TellsOn held taken out out' told result → AnswersAudit left given held taken folder old new out out' p result
  answers_audited held taken out out' p result (Ok told) is h = inr (inr (
    is.0,
    is.1,
    answers_told held taken folder (p.two ∷ []) (of_one (OfBundle p.native (λ text. IsAudited p.native text is.0))) out out' result
        (Ok told) is.2 h,
  ))
  answers_audited held taken out out' p result (Err stop) (inl unread) h =
      inl (unread.1, record { stop = stop; at = unread.0; told = h.0; unwritten = h.1 })
  answers_audited held taken out out' p result (Err stop) (inr at) h =
      inr (inl (record { stop = stop; at = at; told = h.0; unwritten = h.1 }))
