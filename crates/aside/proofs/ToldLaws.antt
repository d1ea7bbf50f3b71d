-- What is written of a filter where calls may be left aside.
use Rattle.std.proofs.Common.{◌≡◌, ◌≢◌, ◌⊎◌, ◌∙◌, ℕ, List, [], ◌∷◌, inl, inr, refl, subst, sym}
use Rattle.std.specs.Prelude.{◌==◌, Bool, true, false, Option, Result, length}
use Rattle.call_record.specs.Record.{words}
use Rattle.machines.specs.declared.arch.Arch.{Arch}
use Rattle.machines.specs.declared.arch.Family.{Family}
use Rattle.machines.specs.Arch.{family_of}
use Rattle.maker.specs.declared.evidence.evidence.Counterexample.{Counterexample}
use Rattle.maker.specs.declared.evidence.evidence.Evidence.{Evidence}
use Rattle.maker.specs.declared.make_error.MakeError.{MakeError}
use Rattle.maker.specs.Exported.{LacksMemory}
use Rattle.maker.specs.Told.{IsWritten, Tells}
use Rattle.texts.specs.Failures.{Failures}
use Rattle.texts.specs.Sink.{WritesMade}
use Rattle.texts.specs.declared.streams.fault.WriteFault.{WriteFault}
use Rattle.compare.specs.declared.behind_runc.stub.calls.Calls.{Calls}
use Rattle.compare.specs.Behind.{IsBehind, IsJudgedBehind, WritesBehind}
use Rattle.compare.specs.Counterexamples.{WritesLines}
use Rattle.aside.specs.declared.leave.Leave.{Leave}
use Rattle.aside.specs.Judged.{RefutesBut, IsJudged, IsJudgedBut, MeansRightBut, stub_calls}
use Rattle.aside.specs.Told.{AreFoundBut, CertifiesBut, WritesBut, but_text}

abbrev IsNo : Bool → Type 0
IsNo true = ⊥
IsNo false = Unit {0}

-- none are told where there are some
some_are : (all : List Counterexample) (empty : Bool) → empty ≡ (length all == 0) → empty ≡ false → all ≡ [] → ⊥
some_are [] empty is filled e = subst IsNo (sym filled ∙ is) tt
some_are (found ∷ more) empty is filled e = cc

module _ {S : Type 0} (held : S → Option (List ℕ)) (failures : S → Failures) (old new : S) (native : Arch) (result : Result Bool WriteFault) where
  module _ (bundle filter : List ℕ) (answered aside : List Calls) where
    pub yes_told : (family : Family) → family ≡ family_of native → MeansRightBut native bundle filter answered aside
        → IsWritten held failures old new (but_text family aside) result ⊎ LacksMemory old new result
        → WritesBut held failures old new native bundle filter answered aside result
    yes_told family is right (inl written) = inl (record {
      right = right;
      written = subst (λ (f : Family). WritesMade held failures old new (but_text f aside) result) is written.written;
      told = written.told;
    })
    yes_told family is right (inr lacks) = inr (inr (inr lacks))

    pub record_told : (found : Counterexample) → RefutesBut native bundle filter answered aside found
        → Tells held failures old new (words found.call) found.given found.said result
        → WritesBut held failures old new native bundle filter answered aside result
    record_told found refutes (inl told) = inr (inl (record {
      found = found;
      line = told.line;
      is = told.is;
      refutes = refutes;
      written = told.written;
      told = told.told;
    }))
    record_told found refutes (inr lacks) = inr (inr (inr lacks))

  module _ (bundle filter rest : List ℕ) (answered : List Calls) (leave : Leave) (behind : IsBehind filter rest answered) where
    -- what is judged is written
    pub judged_told : (aside : List Calls) (whole : Bool) (judged : Result Evidence MakeError)
        → IsJudged native bundle filter rest answered leave aside whole judged
        → (aside ≡ [] → (b f r : List ℕ) (a : List Calls) → IsBehind f r a → IsJudgedBehind native b f r a whole judged
        → WritesBehind held failures old new native b f r a whole result)
        → (aside ≢ [] → (b f : List ℕ) (a : List Calls) → IsJudgedBut native b f a aside judged
        → WritesBut held failures old new native b f a aside result)
        → CertifiesBut held failures old new native bundle filter leave result
    judged_told [] whole judged is all but = inl (record {
      rest = rest;
      answered = answered;
      behind = behind;
      aside = [];
      left = is.left;
      whole = whole;
      written = inl (refl, all refl bundle filter rest answered behind (is.all refl));
    })
    judged_told (c ∷ more) whole judged is all but =
        let some : c ∷ more ≢ [] = λ e. cc in
        inl (record {
          rest = rest;
          answered = answered;
          behind = behind;
          aside = c ∷ more;
          left = is.left;
          whole = whole;
          written = inr (inl (some, but some bundle filter (stub_calls whole answered) (is.but some)));
        })

    -- so are all records that were found
    pub all_told : (aside : List Calls) (whole : Bool) (judged : Result Evidence MakeError)
        → IsJudged native bundle filter rest answered leave aside whole judged
        → (all : List Counterexample) (empty : Bool) → empty ≡ (length all == 0) → empty ≡ false
        → (all ≡ []) ⊎ ((found : Counterexample) × AreFoundBut native bundle filter (stub_calls whole answered) aside found all)
        → WritesLines held failures old new all result ⊎ LacksMemory old new result
        → CertifiesBut held failures old new native bundle filter leave result
    all_told aside whole judged is all empty size filled (inl none) written = absurd (some_are all empty size filled none)
    all_told aside whole judged is all empty size filled (inr (found, are)) (inl lines) = inl (record {
      rest = rest;
      answered = answered;
      behind = behind;
      aside = aside;
      left = is.left;
      whole = whole;
      written = inr (inr (record { found = found; all = all; are = are; written = lines }));
    })
    all_told aside whole judged is all empty size filled (inr found) (inr lacks) = inr lacks
