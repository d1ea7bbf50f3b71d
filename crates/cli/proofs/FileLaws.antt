-- What is written of the bytes that are read of files is so of the files' own.
use Rattle.std.proofs.Common.{◌≡◌, ◌⊎◌, ℕ, ◌-◌, inl, inr, List, [], ap, length, refl, subst, sym, ◌∙◌, arith, codes}
use Rattle.std.specs.Prelude.{◌≢◌, Bool, true, false, Option, None, Result, Ok, Err, slice_index_or}
use Rattle.bpf_insn.specs.Bytes.{view_fault}
use Rattle.bpf_insn.specs.declared.fault.ViewError.TheVariants.{NotMultipleOf8}
use Rattle.machines.specs.declared.arch.Arch.{Arch}
use Rattle.machines.specs.Arch.{family_of}
use Rattle.cert_check.specs.declared.fault.CheckError.{CheckError}
use Rattle.cert_check.specs.declared.fault.CheckError.TheVariants.{View}
use Rattle.cert_check.specs.declared.fault.CheckError.TheVariants as error
use Rattle.texts.specs.Failures.{Failures}
use Rattle.texts.specs.declared.streams.fault.WriteFault.{WriteFault}
use Rattle.texts.specs.declared.streams.fault.WriteFault.TheVariants as fault
use Rattle.std.proofs.lemmas.Bool.{both_ways}
use Rattle.compare.specs.Behind.{AreFoundBehind, CertifiesAllBehind, CertifiesBehind, IsBehind, WritesAllBehind, WritesBehind}
use Rattle.compare.specs.StubTold.{stub_text}
use Rattle.maker.specs.Answer.{IsAnswer, WritesAnswer}
use Rattle.maker.specs.Certified.{Certifies, IsRefuted, IsOfFilter, IsOpen, IsUndecided}
use Rattle.maker.specs.Finding.{IsFinding, TellsFinding, WritesFinding}
use Rattle.maker.specs.declared.check.Finding.{Finding}
use Rattle.maker.specs.declared.check.Finding.TheVariants.{Yes, No, NoProfile, TooLarge}
use Rattle.maker.specs.declared.make_error.MakeError.{MakeError}
use Rattle.maker.specs.declared.make_error.MakeError.TheVariants.{Profile, Compile, Certify, Check, OutOfMemory}
use Rattle.maker.specs.declared.verdict.Answer.{Answer}
use Rattle.maker.specs.declared.verdict.Answer.TheVariants.{Verdict, NoRecord, NoProgram, Refusal}
use Rattle.show.specs.Shown.{IsShown}
use Rattle.wording.specs.declared.told.End.{End}
use Rattle.wording.specs.declared.told.Told.{Told}
use Rattle.cli.specs.Told.{TellsFilter}
use Rattle.compare.specs.declared.behind_runc.stub.calls.Calls.{Calls}
use Rattle.maker.specs.declared.evidence.evidence.Counterexample.{Counterexample}
use Rattle.compare.specs.Counterexamples.{AllRefute, Refutes, TellsAll}
use Rattle.cli.specs.Explained.{TellsAllBehind, TellsBehind, TellsStub, WritesFound, WritesSome}
use Rattle.cli.specs.Files.{IsEnough}
use Rattle.cli.specs.Recovered.{TellsBy, TellsIf, has_word, leave_in, leaves_out}
use Rattle.aside.specs.RecoveredBut.{IsToldBut}
use Rattle.recover.specs.Recovered.{IsRecovered}
use Rattle.recover_others.specs.RecoveredOthers.{IsRecoveredOthers}
use Rattle.cli.proofs.EnoughLaws.{all_read, all_read_of, first_of_file, same_fault, whole_filter}

-- the answer of a filter to a record
module _ (filter f rec r : List ℕ) (of_filter : IsEnough 32768 filter f) (of_record : IsEnough 64 rec r) where
  same_record : length r ≡ 64 → r ≡ rec
  same_record e = all_read 64 rec r of_record (omega arith)

  same_both : length r ≡ 64 → view_fault f ≡ None → (a : Answer) → IsAnswer f r a → IsAnswer filter rec a
  same_both e whole a h =
      subst (λ x. IsAnswer x rec a) (whole_filter filter f of_filter whole) (subst (λ x. IsAnswer f x a) (same_record e) h)

  answer_of_files : (a : Answer) → IsAnswer f r a → IsAnswer filter rec a
  answer_of_files NoRecord h = λ e. h (ap length (all_read_of 64 rec r of_record (omega arith)) ∙ e)
  answer_of_files (NoProgram e) h = (ap length (sym (same_record h.0)) ∙ h.0, same_fault filter f of_filter ∙ h.1)
  answer_of_files (Refusal e) h = same_both h.0 h.1 (Refusal e) h
  answer_of_files (Verdict v) h = same_both h.0 h.1 (Verdict v) h

  pub verdict_of_files : {S : Type 0} (held : S → Option (List ℕ)) (failures : S → Failures) (old new : S) (result : Result Bool WriteFault)
      → WritesAnswer held failures old new f r result → WritesAnswer held failures old new filter rec result
  verdict_of_files held failures old new result h =
      record { answer = h.answer; stands = answer_of_files h.answer h.stands; written = h.written; told = h.told }

-- what is found of a filter
module _ (native : Arch) (bundle filter f : List ℕ) (enough : IsEnough 32768 filter f) where
  yes_of_file : (cert : List ℕ) → IsFinding native bundle f cert Yes → IsFinding native bundle filter cert Yes
  yes_of_file cert h =
      subst (λ x. IsFinding native bundle x cert Yes) (whole_filter filter f enough (h.2.kept (View NotMultipleOf8))) h

  finding_of_file : (cert : List ℕ) (finding : Finding) → IsFinding native bundle f cert finding
      → IsFinding native bundle filter cert finding
  finding_of_file cert Yes h = yes_of_file cert h
  finding_of_file cert (No e) h = (h.0, h.1, (h.2.0, first_of_file filter f enough h.0 cert e h.2.0 h.2.1))
  finding_of_file cert (NoProfile e) h = h
  finding_of_file cert TooLarge h = h

  module _ {S : Type 0} (held : S → Option (List ℕ)) (failures : S → Failures) (old new : S) where
    told_of_file : (cert : List ℕ) (result : Result Bool WriteFault) → TellsFinding held failures old new native bundle f cert result
        → TellsFinding held failures old new native bundle filter cert result
    told_of_file cert result h =
        record { finding = h.finding; stands = finding_of_file cert h.finding h.stands; limit = h.limit; written = h.written; told = h.told }

    pub check_of_file : (cert : List ℕ) (result : Result Bool WriteFault) → WritesFinding held failures old new native bundle f cert result
        → WritesFinding held failures old new native bundle filter cert result
    check_of_file cert (Ok done) h = told_of_file cert (Ok done) h
    check_of_file cert (Err (fault.Write out)) h = told_of_file cert (Err (fault.Write out)) h
    check_of_file cert (Err fault.OutOfMemory) h = h

    not_memory : (e : CheckError) → IsOfFilter e → e ≢ error.OutOfMemory
    not_memory e of same = subst IsOfFilter same of

    open_of_file : (u : MakeError) → IsOpen native bundle f u → IsOpen native bundle filter u
    open_of_file (Profile e) h = h
    open_of_file (Compile e) h = absurd h
    open_of_file (Certify e) h =
        subst (λ x. IsUndecided native bundle x e) (whole_filter filter f enough h.judged.program) h
    open_of_file (Check e) h = (h.0, (h.1.0, h.1.1, h.1.2, first_of_file filter f enough h.1.0 h.1.1 e (not_memory e h.0) h.1.3))
    open_of_file OutOfMemory h = absurd h

    pub certified_of_file : (result : Result Bool WriteFault) → Certifies held failures old new native bundle f result
        → Certifies held failures old new native bundle filter result
    certified_of_file result (inl h) = inl (record { cert = h.cert; is = yes_of_file h.cert h.is; written = h.written; told = h.told })
    certified_of_file result (inr (inl h)) = inr (inl (record {
      rec = h.rec;
      given = h.given;
      said = h.said;
      is = subst (λ x. IsRefuted native bundle x h.rec h.given h.said) (whole_filter filter f enough h.is.judged.program) h.is;
      written = h.written;
      told = h.told;
    }))
    certified_of_file result (inr (inr (inl h))) = inr (inr (inl (record {
      make_error = h.make_error;
      is = open_of_file h.make_error h.is;
      written = h.written;
      told = h.told;
    })))
    certified_of_file result (inr (inr (inr h))) = inr (inr (inr h))

    -- each record that refutes the bytes that were read refutes the file
    all_of_file : (all : List Counterexample) → AllRefute native bundle f all → AllRefute native bundle filter all
    all_of_file all h = λ k d lt.
        subst (λ x. Refutes native bundle x (slice_index_or all k d)) (whole_filter filter f enough (h k d lt).1.program) (h k d lt)

    pub tells_all_of_file : (result : Result Bool WriteFault) → TellsAll held failures old new native bundle f result
        → TellsAll held failures old new native bundle filter result
    tells_all_of_file result (inl h) = inl (record {
      found = h.found;
      all = h.all;
      are = record { further = h.are.further; first = h.are.first; refute = all_of_file h.all h.are.refute };
      written = h.written;
    })
    tells_all_of_file result (inr lacks) = inr lacks

    -- what is written where no stub was found in the bytes that were read
    pub whole_behind : (answered : List Calls) (whole : Bool) (result : Result Bool WriteFault)
        → WritesBehind held failures old new native bundle f f answered whole result
        → Certifies held failures old new native bundle filter result
    whole_behind answered true result h = certified_of_file result h
    whole_behind answered false result (inl h) = certified_of_file result (inr (inl h))
    whole_behind answered false result (inr (inl h)) = certified_of_file result (inl h.0)
    whole_behind answered false result (inr (inr (inl h))) = certified_of_file result (inr (inr (inl h.0)))
    whole_behind answered false result (inr (inr (inr h))) = certified_of_file result (inr (inr (inr h)))

    module _ (result : Result Bool WriteFault) where
      behind_by : (rest : List ℕ) (answered : List Calls) (whole : Bool) → IsBehind f rest answered
          → WritesBehind held failures old new native bundle f rest answered whole result
          → CertifiesBehind held failures old new native bundle filter result
      behind_by rest answered whole (inl has) h =
          subst (λ x. CertifiesBehind held failures old new native bundle x result) (whole_filter filter f enough has.filter_is.program)
          (inl (rest, answered, whole, inl has, h))
      behind_by rest answered whole (inr same) h =
          let written = subst (λ x. WritesBehind held failures old new native bundle f x answered whole result) same.0 h in
          inl (filter, [], true, inr (refl, refl), whole_behind answered whole result written)

      pub behind_of_file : CertifiesBehind held failures old new native bundle f result
          → CertifiesBehind held failures old new native bundle filter result
      behind_of_file (inl h) = behind_by h.0 h.1 h.2 h.3 h.4
      behind_of_file (inr lacks) = inr lacks

      -- so is what was found where no stub was
      found_of_file : (found : Counterexample) (all : List Counterexample) (answered : List Calls) (whole : Bool)
          → AreFoundBehind native bundle f answered whole found all → AreFoundBehind native bundle filter [] true found all
      found_of_file found all answered whole h = record {
        are = record { further = h.are.further; first = h.are.first; refute = all_of_file all h.are.refute };
        passed = λ no. absurd (both_ways true no refl);
      }

      all_behind_by : (rest : List ℕ) (answered : List Calls) (whole : Bool) → IsBehind f rest answered
          → WritesBehind held failures old new native bundle f rest answered whole result
          ⊎ WritesAllBehind held failures old new native bundle f answered whole result
          → CertifiesAllBehind held failures old new native bundle filter result
      all_behind_by rest answered whole (inl has) h =
          subst (λ x. CertifiesAllBehind held failures old new native bundle x result) (whole_filter filter f enough has.filter_is.program)
          (inl (rest, answered, whole, inl has, h))
      all_behind_by rest answered whole (inr same) (inl h) =
          let written = subst (λ x. WritesBehind held failures old new native bundle f x answered whole result) same.0 h in
          inl (filter, [], true, inr (refl, refl), inl (whole_behind answered whole result written))
      all_behind_by rest answered whole (inr same) (inr h) =
          let all : WritesAllBehind held failures old new native bundle filter [] true result = record {
            found = h.found;
            all = h.all;
            are = found_of_file h.found h.all answered whole h.are;
            written = h.written;
          } in
          inl (filter, [], true, inr (refl, refl), inr all)

      pub all_behind_of_file : CertifiesAllBehind held failures old new native bundle f result
          → CertifiesAllBehind held failures old new native bundle filter result
      all_behind_of_file (inl h) = all_behind_by h.0 h.1 h.2 h.3 h.4
      all_behind_of_file (inr lacks) = inr lacks

      found_written : (rest : List ℕ) (answered : List Calls) (whole : Bool) (all : List Counterexample) → rest ≡ f
          → WritesFound held failures old new native bundle f rest answered whole all result
          → WritesFound held failures old new native bundle filter filter [] true all result
      found_written rest answered whole all same (inl h) =
          let written = subst (λ x. WritesBehind held failures old new native bundle f x answered whole result) same h.1 in
          inl (h.0, whole_behind answered whole result written)
      found_written rest answered whole all same (inr h) = inr (h.0, found_of_file h.0 all answered whole h.1, h.2)

      module _ {E : Type 0} (shown : E → Option (List ℕ)) (dropped : E → Failures) (err err' : E) where
        -- where no stub was found nothing depends on the bytes
        no_stub : (between : E) (rest : List ℕ) (answered : List Calls) (whole : Bool) → answered ≡ []
            → TellsStub shown dropped err between native f rest answered whole
            → TellsStub shown dropped err between native filter filter [] true
        no_stub between rest answered whole none h =
            let Told : List Calls → Type 0 =
            λ calls. WritesSome shown dropped err between (stub_text (family_of native) (length f - length rest) calls whole) in
            subst Told none h

        tells_by : (h : TellsBehind held failures old new shown dropped err err' native bundle f result) → IsBehind f h.rest h.answered
            → TellsBehind held failures old new shown dropped err err' native bundle filter result
        tells_by h (inl has) =
            subst (λ x. TellsBehind held failures old new shown dropped err err' native bundle x result)
            (whole_filter filter f enough has.filter_is.program) h
        tells_by h (inr same) = record {
          rest = filter;
          answered = [];
          whole = true;
          behind = inr (refl, refl);
          written = whole_behind h.answered h.whole result
              (subst (λ x. WritesBehind held failures old new native bundle f x h.answered h.whole result) same.0 h.written);
          between = h.between;
          calls = no_stub h.between h.rest h.answered h.whole same.1 h.calls;
          why = h.why;
        }

        pub tells_of_file : TellsBehind held failures old new shown dropped err err' native bundle f result
            → TellsBehind held failures old new shown dropped err err' native bundle filter result
        tells_of_file h = tells_by h h.behind

        tells_all_by : (h : TellsAllBehind held failures old new shown dropped err err' native bundle f result) → IsBehind f h.rest h.answered
            → TellsAllBehind held failures old new shown dropped err err' native bundle filter result
        tells_all_by h (inl has) =
            subst (λ x. TellsAllBehind held failures old new shown dropped err err' native bundle x result)
            (whole_filter filter f enough has.filter_is.program) h
        tells_all_by h (inr same) = record {
          rest = filter;
          answered = [];
          whole = true;
          behind = inr (refl, refl);
          all = h.all;
          written = found_written h.rest h.answered h.whole h.all same.0 h.written;
          between = h.between;
          calls = no_stub h.between h.rest h.answered h.whole same.1 h.calls;
          each = h.each;
        }

        pub tells_all_behind_of_file : TellsAllBehind held failures old new shown dropped err err' native bundle f result
            → TellsAllBehind held failures old new shown dropped err err' native bundle filter result
        tells_all_behind_of_file h = tells_all_by h h.behind

-- the bundle that is made of a filter, as words ask that leave calls out or none
left_of_file : (filter f : List ℕ) (enough : IsEnough 32768 filter f) (native : Arch) (words : List (List ℕ)) (told : Told) (out : Bool)
    → TellsBy out native words f told → TellsBy out native words filter told
left_of_file filter f enough native words told true h = (
  λ done. let is = h.0 done in
      subst (λ b. (lines : List ℕ) × IsToldBut native b (has_word (codes "runc") words) (leave_in words) told.bytes.items lines)
      (whole_filter filter f enough is.1.recovered.accepted.program) is,
  h.1,
)
left_of_file filter f enough native words told false h = (
  λ done. let is = h.0 done in subst (λ b. IsRecovered native told.bytes.items b) (whole_filter filter f enough is.program) is,
  h.1,
)

-- or as they ask that the filter allows other calls
pub recovered_of_file : (filter f : List ℕ) (enough : IsEnough 32768 filter f) (native : Arch) (words : List (List ℕ)) (told : Told) (others : Bool)
    → TellsIf others native words f told → TellsIf others native words filter told
recovered_of_file filter f enough native words told true h = (
  λ done. let is = h.0 done in subst (λ b. IsRecoveredOthers native told.bytes.items b) (whole_filter filter f enough is.is.program) is,
  h.1,
)
recovered_of_file filter f enough native words told false h = left_of_file filter f enough native words told (leaves_out words) h

-- what is shown of a filter
module _ (filter f : List ℕ) (enough : IsEnough 32768 filter f) where
  pub shown_of_file : (mark : List ℕ) (ends : End) (told : Told) → IsShown mark ends f told → IsShown mark ends filter told
  shown_of_file mark ends told (inl h) = inl (record { fault = h.fault; stands = same_fault filter f enough ∙ h.stands; tells = h.tells })
  shown_of_file mark ends told (inr (inl h)) =
      subst (λ x. IsShown mark ends x told) (whole_filter filter f enough h.program) (inr (inl h))
  shown_of_file mark ends told (inr (inr h)) =
      subst (λ x. IsShown mark ends x told) (whole_filter filter f enough h.program) (inr (inr h))

  pub filter_of_file : (told : Told) → TellsFilter f told → TellsFilter filter told
  filter_of_file told (inl h) = inl (shown_of_file _ _ told h)
  filter_of_file told (inr h) = inr (shown_of_file _ _ told h)
