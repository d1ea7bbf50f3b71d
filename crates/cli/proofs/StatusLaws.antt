-- What a status of 0 says, of what the program did.
use Rattle.std.proofs.Common.{◌≡◌, ◌⊎◌, ℕ, Bool, true, false, codes, inl, inr, List, [], ◌∷◌, ◌++◌, refl, subst, ◌∙◌}
use Rattle.std.specs.Prelude.{Option, Some, Result, Ok, Err}
use Rattle.machines.specs.declared.arch.Arch.{Arch}
use Rattle.texts.specs.Failures.{Failures}
use Rattle.texts.specs.declared.streams.fault.WriteFault.{WriteFault}
use Rattle.compare.specs.Behind.{CertifiesAllBehind, CertifiesBehind, WritesBehind}
use Rattle.compare.specs.declared.behind_runc.stub.calls.Calls.{Calls}
use Rattle.maker.specs.Certified.{Certifies}
use Rattle.maker.specs.Finding.{IsFinding, WritesFinding, is_yes}
use Rattle.maker.specs.declared.check.Finding.{Finding}
use Rattle.maker.specs.declared.check.Finding.TheVariants.{Yes, No, NoProfile, TooLarge}
use Rattle.cli.specs.declared.stops.Stop.{Stop}
use Rattle.cli.specs.declared.stops.Stop.TheVariants.{Usage, CannotRead, Read, Write, OutOfMemory, Refused, Doubtful}
use Rattle.command_line.specs.declared.prose.Command.TheVariants.{Certify, Check, Run}
use Rattle.aside.specs.declared.leave.Leave.{Leave}
use Rattle.aside.specs.Judged.{stub_calls}
use Rattle.aside.specs.Told.{CertifiesBut, CertifiesBy, WritesAllBut, WritesBut}
use Rattle.cli.specs.Dispatch.{AnswersCertify, AnswersCheck, AnswersRun, CertifiesAs, Does, asks_but, leave_of}
use Rattle.cli.specs.Parts.{Parts, native_of, parts_of}
use Rattle.cli.specs.Files.{Folder, HasBundle, HasFilter}
use Rattle.cli.specs.Running.{HasAnswered, told_line}
use Rattle.cli.specs.Headline.{IsAnswerTo}
use Rattle.cli.specs.Statuses.{AreRight, AreRightAtLeast, AreRightBehind, HasRun}
use Rattle.cli.specs.Stop.{status_of}
use Rattle.cli.proofs.HeadlineLaws.{headline}
use Rattle.cli.proofs.RunLaws.{script_is_answered}

-- an answer that is no error is none
no_error : {stop : Stop} → Ok true ≡ Err stop → ⊥
no_error e = absurd (cc)

-- a program that stops does not end with 0
pub stopped : (stop : Stop) → status_of stop ≡ 0 → ⊥
stopped Usage e = absurd (cc)
stopped OutOfMemory e = absurd (cc)
stopped (CannotRead name) e = absurd (cc)
stopped (Read line) e = absurd (cc)
stopped (Write out) e = absurd (cc)
stopped Refused e = absurd (cc)
stopped Doubtful e = absurd (cc)

-- the finding of a yes that was told
yes_of : (native : Arch) (b f c : List ℕ) (finding : Finding) → IsFinding native b f c finding → true ≡ is_yes finding
    → IsFinding native b f c Yes
yes_of native b f c Yes is e = is
yes_of native b f c (No fault) is e = absurd (cc)
yes_of native b f c (NoProfile fault) is e = absurd (cc)
yes_of native b f c TooLarge is e = absurd (cc)

module _ {O : Type 0} (held : O → Option (List ℕ)) (failures : O → Failures) (old new : O) (native : Arch) where
  found : (b f c : List ℕ) (answer : Result Bool WriteFault) → WritesFinding held failures old new native b f c answer
      → Ok true ≡ told_line answer → IsFinding native b f c Yes
  found b f c (Ok done) written e =
      let same : true ≡ done = cc in
      yes_of native b f c written.finding written.stands (same ∙ written.told)
  found b f c (Err fault) written e = absurd (no_error e)

  check_told : (folder : Option Folder) (bundle filter cert : List ℕ)
      → AnswersCheck held failures folder old new native bundle filter cert (Ok true) → AreRight folder native bundle filter
  check_told folder bundle filter cert (inl stops) = absurd (no_error stops.told)
  check_told folder bundle filter cert (inr (b, f, c, of_bundle, of_filter, of_cert, by)) =
      let right = headline.yes native b f c (found b f c by.answer by.written by.told) in record {
        b = b;
        f = f;
        bundle_has = of_bundle;
        filter_has = of_filter;
        policy = right.0;
        right = right.1;
      }

  -- a certificate was written
  certified : (b f : List ℕ) (answer : Result Bool WriteFault) → Certifies held failures old new native b f answer
      → Ok true ≡ told_line answer → (cert : List ℕ) × IsFinding native b f cert Yes
  certified b f (Ok done) (inl wrote) e = (wrote.cert, wrote.is)
  certified b f (Ok done) (inr (inl found)) e = let no : done ≡ false = found.told in absurd (cc)
  certified b f (Ok done) (inr (inr (inl undecided))) e = let no : done ≡ false = undecided.told in absurd (cc)
  certified b f (Ok done) (inr (inr (inr lacks))) e = let no = lacks.0 in absurd (cc)
  certified b f (Err fault) written e = absurd (no_error e)

  right_of : (folder : Option Folder) (bundle filter b f cert : List ℕ) → HasBundle native folder bundle b → HasFilter native folder filter f
      → IsFinding native b f cert Yes → AreRight folder native bundle filter
  right_of folder bundle filter b f cert of_bundle of_filter is =
      let right = headline.yes native b f cert is in record {
        b = b;
        f = f;
        bundle_has = of_bundle;
        filter_has = of_filter;
        policy = right.0;
        right = right.1;
      }

  certify_told : (folder : Option Folder) (bundle filter b f : List ℕ) → HasBundle native folder bundle b → HasFilter native folder filter f
      → (answer : Result Bool WriteFault) → Certifies held failures old new native b f answer → Ok true ≡ told_line answer
      → AreRight folder native bundle filter
  certify_told folder bundle filter b f of_bundle of_filter answer written e =
      let found = certified b f answer written e in
      right_of folder bundle filter b f found.0 of_bundle of_filter found.1

  -- a certificate was written of what stands behind a stub
  behind : (folder : Option Folder) (bundle filter b f rest : List ℕ) (answered : List Calls) (whole : Bool) (answer : Result Bool WriteFault)
      → HasBundle native folder bundle b → HasFilter native folder filter f
      → WritesBehind held failures old new native b f rest answered whole answer → Ok true ≡ told_line answer
      → AreRight folder native bundle filter ⊎ AreRightBehind folder native bundle filter
  behind folder bundle filter b f rest answered true answer of_bundle of_filter written e =
      let found = certified b f answer written e in
      inl (right_of folder bundle filter b f found.0 of_bundle of_filter found.1)
  behind folder bundle filter b f rest answered false (Ok done) of_bundle of_filter (inl found) e =
      let no : done ≡ false = found.told in absurd (cc)
  behind folder bundle filter b f rest answered false (Ok done) of_bundle of_filter (inr (inl wrote)) e = inr (record {
    b = b;
    f = f;
    bundle_has = of_bundle;
    filter_has = of_filter;
    answered = answered;
    right = wrote.1;
  })
  behind folder bundle filter b f rest answered false (Ok done) of_bundle of_filter (inr (inr (inl undecided))) e =
      let no : done ≡ false = undecided.0.told in absurd (cc)
  behind folder bundle filter b f rest answered false (Ok done) of_bundle of_filter (inr (inr (inr lacks))) e =
      let no = lacks.0 in absurd (cc)
  behind folder bundle filter b f rest answered false (Err fault) of_bundle of_filter written e = absurd (no_error e)

  behind_told : (folder : Option Folder) (bundle filter b f : List ℕ) → HasBundle native folder bundle b → HasFilter native folder filter f
      → (answer : Result Bool WriteFault) → CertifiesBehind held failures old new native b f answer → Ok true ≡ told_line answer
      → AreRight folder native bundle filter ⊎ AreRightBehind folder native bundle filter
  behind_told folder bundle filter b f of_bundle of_filter answer (inl (rest, answered, whole, is, written)) e =
      behind folder bundle filter b f rest answered whole answer of_bundle of_filter written e
  behind_told folder bundle filter b f of_bundle of_filter (Ok done) (inr lacks) e = let no = lacks.0 in absurd (cc)
  behind_told folder bundle filter b f of_bundle of_filter (Err fault) (inr lacks) e = absurd (no_error e)

  all_behind_told : (folder : Option Folder) (bundle filter b f : List ℕ) → HasBundle native folder bundle b → HasFilter native folder filter f
      → (answer : Result Bool WriteFault) → CertifiesAllBehind held failures old new native b f answer → Ok true ≡ told_line answer
      → AreRight folder native bundle filter ⊎ AreRightBehind folder native bundle filter
  all_behind_told folder bundle filter b f of_bundle of_filter answer (inl (rest, answered, whole, is, inl written)) e =
      behind folder bundle filter b f rest answered whole answer of_bundle of_filter written e
  all_behind_told folder bundle filter b f of_bundle of_filter (Ok done) (inl (rest, answered, whole, is, inr all)) e =
      let no : done ≡ false = all.written.told in absurd (cc)
  all_behind_told folder bundle filter b f of_bundle of_filter (Err fault) (inl (rest, answered, whole, is, inr all)) e = absurd (no_error e)
  all_behind_told folder bundle filter b f of_bundle of_filter (Ok done) (inr lacks) e = let no = lacks.0 in absurd (cc)
  all_behind_told folder bundle filter b f of_bundle of_filter (Err fault) (inr lacks) e = absurd (no_error e)

  -- that others are right was written, or what is written where nothing is left aside
  module _ (folder : Option Folder) (bundle filter b f : List ℕ) (of_bundle : HasBundle native folder bundle b)
      (of_filter : HasFilter native folder filter f) (leave : Leave) where
    in_three : AreRight folder native bundle filter ⊎ AreRightBehind folder native bundle filter
        → AreRightAtLeast folder native bundle filter leave
    in_three (inl right) = inl right
    in_three (inr right) = inr (inl right)

    right_but : (h : CertifiesBy held failures old new native b f leave (Ok true)) → (answer : Result Bool WriteFault) → answer ≡ Ok true
        → WritesBut held failures old new native b f (stub_calls h.whole h.answered) h.aside answer
        → AreRightAtLeast folder native bundle filter leave
    right_but h answer e (inl right) = inr (inr (record {
      b = b;
      f = f;
      bundle_has = of_bundle;
      filter_has = of_filter;
      answered = stub_calls h.whole h.answered;
      aside = h.aside;
      left = h.left;
      right = right.right;
    }))
    right_but h (Ok done) e (inr (inl found)) = let no : done ≡ false = found.told in absurd (cc)
    right_but h (Ok done) e (inr (inr (inl undecided))) = let no : done ≡ false = undecided.told in absurd (cc)
    right_but h (Ok done) e (inr (inr (inr lacks))) = let no = lacks.0 in absurd (cc)
    right_but h (Err fault) e written = absurd (cc)

    all_but : (h : CertifiesBy held failures old new native b f leave (Ok true)) → (answer : Result Bool WriteFault) → answer ≡ Ok true
        → WritesAllBut held failures old new native b f (stub_calls h.whole h.answered) h.aside answer → ⊥
    all_but h (Ok done) e all = let no : done ≡ false = all.written.told in absurd (cc)
    all_but h (Err fault) e all = absurd (cc)

    but : (answer : Result Bool WriteFault) → CertifiesBut held failures old new native b f leave answer → Ok true ≡ told_line answer
        → AreRightAtLeast folder native bundle filter leave
    but (Ok true) (inl h) e = elim h.written [
      | inl none ↦
          in_three (behind folder bundle filter b f h.rest h.answered h.whole (Ok true) of_bundle of_filter none.1 refl)
      | inr (inl some) ↦ right_but h (Ok true) refl some.1
      | inr (inr all) ↦ absurd (all_but h (Ok true) refl all)
    ]
    but (Ok false) h e = absurd (cc)
    but (Ok true) (inr lacks) e = let no = lacks.0 in absurd (cc)
    but (Err fault) h e = absurd (no_error e)

-- if `certify` says yes, its files were read, and what it wrote is so of their bytes
certified_as : {O : Type 0} (held : O → Option (List ℕ)) (failures : O → Failures) (folder : Option Folder) (old new : O) (p : Parts) (Holds : Type 0)
    → ((b f : List ℕ) → HasBundle p.native folder p.two b → HasFilter p.native folder p.three f → (answer : Result Bool WriteFault)
    → CertifiesAs held failures old new (asks_but p) p p.native b f answer → Ok true ≡ told_line answer → Holds)
    → AnswersCertify held failures folder old new p (Ok true) → Holds
certified_as held failures folder old new p Holds of_files (inl stops) = absurd (no_error stops.told)
certified_as held failures folder old new p Holds of_files (inr (b, f, of_bundle, of_filter, by)) =
    of_files b f of_bundle of_filter by.answer by.written by.told

-- the answer to a script, where it is known what was read and written
known : (native : Arch) (texts : List (List ℕ)) (left left' held held' : Option (List ℕ)) → HasAnswered native texts left left' held held'
    → (script before after : List ℕ) → left ≡ Some script → held ≡ Some before → held' ≡ Some after
    → (answer : List ℕ) × (after ≡ before ++ answer) × IsAnswerTo native texts script answer
known native texts left left' held held' h script before after el eh eh' =
    headline.run native texts script before after left'
    (subst (λ (l : Option (List ℕ)). HasAnswered native texts l left' (Some before) (Some after)) el
    (subst (λ (o : Option (List ℕ)). HasAnswered native texts left left' o (Some after)) eh
    (subst (λ (o : Option (List ℕ)). HasAnswered native texts left left' held o) eh' h)))

module _ {I O : Type 0} (left : I → Option (List ℕ)) (given : I → Failures) (held : O → Option (List ℕ)) (taken : O → Failures)
    (folder : Option Folder) (input input' : I) (out out' : O) where
  run_told : (native : Arch) (bundles : List (List ℕ))
      → AnswersRun left given held taken folder input input' out out' native bundles (Ok true)
      → HasRun folder native bundles (left input) (held out) (held out')
  run_told native bundles (inl stops) = absurd (no_error stops.1.told)
  run_told native bundles (inr (texts, have, runs)) = record {
    texts = texts;
    have = have;
    answered = known native texts (left input) (left input') (held out) (held out')
        (script_is_answered left given held taken input input' out out' native texts (Ok true) runs refl);
  }

  -- the program did so as these commands
  pub check_is_right : (machine bundle filter cert : List ℕ)
      → Does left given held taken folder input input' out out' (Check, machine ∷ bundle ∷ filter ∷ cert ∷ []) (Ok true)
      → AreRight folder (native_of machine) bundle filter
  check_is_right machine bundle filter cert (inl none) = absurd (no_error none.stops)
  check_is_right machine bundle filter cert (inr does) = check_told held taken out out' (native_of machine) folder bundle filter cert does.1

  pub certify_is_right : (machine bundle filter : List ℕ)
      → Does left given held taken folder input input' out out' (Certify, machine ∷ bundle ∷ filter ∷ []) (Ok true)
      → AreRight folder (native_of machine) bundle filter
  certify_is_right machine bundle filter (inl none) = absurd (no_error none.stops)
  certify_is_right machine bundle filter (inr does) =
      certified_as held taken folder out out' (parts_of (machine ∷ bundle ∷ filter ∷ [])) (AreRight folder (native_of machine) bundle filter)
      (certify_told held taken out out' (native_of machine) folder bundle filter) does.1

  pub behind_is_right : (machine bundle filter : List ℕ)
      → Does left given held taken folder input input' out out' (Certify, machine ∷ bundle ∷ filter ∷ codes "runc" ∷ []) (Ok true)
      → AreRight folder (native_of machine) bundle filter ⊎ AreRightBehind folder (native_of machine) bundle filter
  behind_is_right machine bundle filter (inl none) = absurd (no_error none.stops)
  behind_is_right machine bundle filter (inr does) =
      certified_as held taken folder out out' (parts_of (machine ∷ bundle ∷ filter ∷ codes "runc" ∷ []))
      (AreRight folder (native_of machine) bundle filter ⊎ AreRightBehind folder (native_of machine) bundle filter)
      (behind_told held taken out out' (native_of machine) folder bundle filter) does.1

  pub all_behind_is_right : (machine bundle filter : List ℕ)
      → Does left given held taken folder input input' out out' (Certify, machine ∷ bundle ∷ filter ∷ codes "runc" ∷ codes "all" ∷ []) (Ok true)
      → AreRight folder (native_of machine) bundle filter ⊎ AreRightBehind folder (native_of machine) bundle filter
  all_behind_is_right machine bundle filter (inl none) = absurd (no_error none.stops)
  all_behind_is_right machine bundle filter (inr does) =
      certified_as held taken folder out out' (parts_of (machine ∷ bundle ∷ filter ∷ codes "runc" ∷ codes "all" ∷ []))
      (AreRight folder (native_of machine) bundle filter ⊎ AreRightBehind folder (native_of machine) bundle filter)
      (all_behind_told held taken out out' (native_of machine) folder bundle filter) does.1

  pub but_is_right : (machine bundle filter : List ℕ) (words : List (List ℕ)) → asks_but (parts_of (machine ∷ bundle ∷ filter ∷ words)) ≡ true
      → Does left given held taken folder input input' out out' (Certify, machine ∷ bundle ∷ filter ∷ words) (Ok true)
      → AreRightAtLeast folder (native_of machine) bundle filter (leave_of (parts_of (machine ∷ bundle ∷ filter ∷ words)))
  but_is_right machine bundle filter words asks (inl none) = absurd (no_error none.stops)
  but_is_right machine bundle filter words asks (inr does) =
      let p : Parts = parts_of (machine ∷ bundle ∷ filter ∷ words) in
      certified_as held taken folder out out' p (AreRightAtLeast folder (native_of machine) bundle filter (leave_of p))
      (λ b f of_bundle of_filter answer written e.
      but held taken out out' (native_of machine) folder bundle filter b f of_bundle of_filter (leave_of p) answer
      (subst (λ (x : Bool). CertifiesAs held taken out out' x p p.native b f answer) asks written) e)
      does.1

  pub run_is_answered : (machine : List ℕ) (bundles : List (List ℕ))
      → Does left given held taken folder input input' out out' (Run, machine ∷ bundles) (Ok true)
      → HasRun folder (native_of machine) bundles (left input) (held out) (held out')
  run_is_answered machine bundles (inl none) = absurd (no_error none.stops)
  run_is_answered machine bundles (inr does) = run_told (native_of machine) bundles does
