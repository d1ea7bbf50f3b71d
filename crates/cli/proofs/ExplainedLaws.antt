-- A record that is explained is the one that was told.
use Rattle.std.proofs.Common.{◌≡◌, ◌⊎◌, ℕ, List, Bool, true, false, inl, inr, refl, subst, sym, ◌∙◌}
use Rattle.std.specs.Prelude.{Err, IfErr, IfOk, Ok, Option, Result}
use Rattle.call_record.specs.Record.{words}
use Rattle.machines.specs.declared.arch.Arch.{Arch}
use Rattle.maker.specs.declared.evidence.evidence.Counterexample.{Counterexample}
use Rattle.maker.specs.declared.evidence.evidence.Evidence.{Evidence}
use Rattle.maker.specs.declared.evidence.evidence.Evidence.TheVariants.{Certificate, Refuting}
use Rattle.maker.specs.Told.{Tells}
use Rattle.maker.specs.declared.make_error.MakeError.{MakeError}
use Rattle.texts.specs.Failures.{Failures}
use Rattle.texts.specs.Sink.{WritesMade}
use Rattle.texts.specs.declared.streams.fault.WriteFault.{WriteFault}
use Rattle.cli.specs.Explained.{HasNoRecord, MayTellWhy, TellsRecord}
use Rattle.cli.specs.Files.{Folder, HasBundle}

abbrev IsYes : Bool → Type 0
IsYes true = Unit {0}
IsYes false = ⊥

module _ {O E : Type 0} (held : O → Option (List ℕ)) (failures : O → Failures) (out out' : O) (shown : E → Option (List ℕ))
    (dropped : E → Failures) (err err' : E) (native : Arch) (bundle : List ℕ) where
  module _ (result : Result Bool WriteFault) where
    -- where a record was told the answer is no
    not_done : (found : Counterexample) → Tells held failures out out' (words found.call) found.given found.said result → result ≡ Ok true → ⊥
    not_done found (inl line) is =
        subst IsYes (subst (λ (r : Result Bool WriteFault). IfOk r (λ done. done ≡ false)) is line.told) tt
    not_done found (inr lacks) is = subst (λ (r : Result Bool WriteFault). IfErr r (λ e. ⊥)) (sym is ∙ lacks.0) tt

    pub quiet_of : (judged : Result Evidence MakeError)
        → ((found : Counterexample) → judged ≡ Ok (Refuting found)
        → Tells held failures out out' (words found.call) found.given found.said result)
        → (HasNoRecord judged → err' ≡ err) → result ≡ Ok true → err' ≡ err
    quiet_of (Ok (Certificate cert)) told quiet is = quiet tt
    quiet_of (Ok (Refuting found)) told quiet is = absurd (not_done found (told found refl) is)
    quiet_of (Err make_error) told quiet is = quiet tt

    line_of : (found : Counterexample) → MayTellWhy shown dropped err err' native bundle found.call → result ≡ Ok false
        → Tells held failures out out' (words found.call) found.given found.said result
        → (err' ≡ err) ⊎ TellsRecord held failures out out' shown dropped err err' native bundle
    line_of found why is (inl h) =
        inr (record {
          call = found.call;
          given = found.given;
          said = found.said;
          line = h.line;
          is = h.is;
          written = subst (λ (r : Result Bool WriteFault). WritesMade held failures out out' h.line r) is h.written;
          why = why;
        })
    line_of found why is (inr lacks) = absurd (subst (λ (r : Result Bool WriteFault). IfErr r (λ e. ⊥)) (sym is ∙ lacks.0) tt)

    pub told_of : (judged : Result Evidence MakeError)
        → ((found : Counterexample) → judged ≡ Ok (Refuting found)
        → Tells held failures out out' (words found.call) found.given found.said result)
        → ((found : Counterexample) → judged ≡ Ok (Refuting found) → MayTellWhy shown dropped err err' native bundle found.call)
        → (HasNoRecord judged → err' ≡ err) → result ≡ Ok false
        → (err' ≡ err) ⊎ TellsRecord held failures out out' shown dropped err err' native bundle
    told_of (Ok (Certificate cert)) told why quiet is = inl (quiet tt)
    told_of (Ok (Refuting found)) told why quiet is = line_of found (why found refl) is (told found refl)
    told_of (Err make_error) told why quiet is = inl (quiet tt)

  -- of a certificate nothing is explained, and else the record that was told
  pub why_of : (done : Bool) (result : Result Bool WriteFault) → result ≡ Ok done → (result ≡ Ok true → err' ≡ err)
      → (result ≡ Ok false → (err' ≡ err) ⊎ TellsRecord held failures out out' shown dropped err err' native bundle)
      → (err' ≡ err) ⊎ TellsRecord held failures out out' shown dropped err err' native bundle
  why_of true result e quiet told = inl (quiet e)
  why_of false result e quiet told = told e
