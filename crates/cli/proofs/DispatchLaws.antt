-- What the commands do, by what they read and write.
use Rattle.std.proofs.Common.{◌≡◌, ◌⊎◌, ℕ, ◌+◌, ◌<◌, inl, inr, List, [], ◌∷◌, ◌++◌, ap, drop, get_or, length, map, refl, subst, sym, take, ◌∙◌}
use Rattle.std.proofs.lemmas.List.{get_or_default, map-append, take_more}
use denote.Ref.{Bor}
use Rattle.std.specs.Prelude.{Bool, true, false, IfOk, Option, None, Some, Result, Ok, Err}
use Rattle.machines.specs.declared.arch.Arch.{Arch}
use Rattle.machines.specs.Arch.{is_big_endian}
use Rattle.byte_order.specs.Turned.{read_as}
use Rattle.texts.specs.Failures.{Failures}
use Rattle.texts.specs.declared.streams.fault.WriteFault.{WriteFault}
use Rattle.maker.specs.declared.export.form.Form.{Form}
use Rattle.explain.specs.Any.{IsExplained as IsExplainedAny}
use Rattle.explain.specs.Told.{IsExplained}
use Rattle.wording.specs.declared.told.End.{End}
use Rattle.wording.specs.declared.told.End.TheVariants as end
use Rattle.wording.specs.declared.told.Told.{Told}
use Rattle.maker.specs.Answer.{WritesAnswer}
use Rattle.maker.specs.Finding.{WritesFinding}
use Rattle.cli.specs.declared.stops.Stop.{Stop}
use Rattle.cli.specs.declared.stops.Stop.TheVariants.{OutOfMemory, Usage}
use Rattle.cli.specs.Dispatch.{AnswersAdapt, AnswersCheck, AnswersCombined, AnswersExport, AnswersManual, AnswersReplay, AnswersStack}
use Rattle.cli.specs.Dispatch.{AnswersTold, AnswersVerdict, ExportsFor, StopsAtGroups, StopsAtWords}
use Rattle.cli.specs.Grouped.{WithGroups, groups_in, others_in}
use Rattle.cli.specs.Adapted.{AskNothing, IsMadeAs}
use Rattle.cli.specs.Combined.{TellsCombined, TellsStack}
use Rattle.cli.specs.Written.{WritesMade}
use Rattle.cli.specs.Told.{IsManual, IsReplayed, OfArguments, OfEach, of_none, of_one, of_two}
use Rattle.cli.specs.declared.adapting.OutputAndReport.{OutputAndReport}
use Rattle.cli.specs.Dispatch.{WritesTold, outcome_by, outcome_of}
use Rattle.texts.specs.Sink.{Wrote}
use Rattle.cli.specs.Dispatch.{any_call, explained_as, FirstUnread, HaveBytes, StopsAt}
use Rattle.cli.specs.inner.Telling.{IsAdaptedOf, IsBundleOf, IsCombinedOf, IsInForm, IsManualOf, IsReplayOf, IsStackOf, IsToldOf, IsWithGroups, TellsOn, TellsText, told_in}
use Rattle.together.specs.declared.way.Way.{Way}
use Rattle.cli.specs.Files.{Folder, HasBundle, HasBytes, HasEnough, HasEnoughFilter, HasFilter}
use Rattle.cli.specs.Running.{told_line}
use Rattle.cli.proofs.FormLaws.{stopped_grown, stopped_in, told_in_form, told_memory, told_with_groups}
use Rattle.cli.proofs.TurnLaws.{cut_at}
use Rattle.cli.proofs.FileLaws.{check_of_file, verdict_of_files}

abbrev pub now_of : Bor (List ℕ) → List ℕ
now_of name = name.now

-- what is told is written, and the program ends as it says
pub written_as : {O : Type 0} (held : O → Option (List ℕ)) (failures : O → Failures) (old new : O) (told : Told) (by : End)
    → Wrote held failures old new told.bytes.items → outcome_of told ≡ outcome_by by
    → WritesTold held failures old new told (outcome_by by)
written_as held failures old new told end.Done written e = (written, e)
written_as held failures old new told end.Doubtful written e = (written, e)
written_as held failures old new told end.No written e = (written, e)
written_as held failures old new told end.Refused written e = (written, e)

-- a file that is read, and one that is not behind it
pub behind : (folder : Option Folder) (name bytes : List ℕ) (names : List (List ℕ)) (stop : Stop) → HasBytes folder name bytes
    → FirstUnread folder names stop → FirstUnread folder (name ∷ names) stop
behind folder name bytes names stop h g = inr ((bytes, h), g)

module _ {O : Type 0} (held : O → Option (List ℕ)) (failures : O → Failures) (folder : Option Folder) (old : O) where
  module _ (filter rec : List ℕ) where
    pub verdict_first : (stop : Stop) (result : Result Bool Stop) → StopsAt folder filter stop → result ≡ Err stop
        → AnswersVerdict held failures folder old old filter rec result
    verdict_first stop result h e = inl (record { stop = stop; at = inl h; told = e; unwritten = refl })

    module _ (f : List ℕ) (of_filter : HasEnough 32768 folder filter f) (later : Option Folder) (same : later ≡ folder) where
      pub verdict_second : (stop : Stop) (result : Result Bool Stop) → StopsAt later rec stop → result ≡ Err stop
          → AnswersVerdict held failures folder old old filter rec result
      verdict_second stop result h e = inl (record {
        stop = stop;
        at = behind folder filter of_filter.file (rec ∷ []) stop of_filter.is (inl (subst (λ d. StopsAt d rec stop) same h));
        told = e;
        unwritten = refl;
      })

      pub verdict_done : (new : O) (r : List ℕ) (answer : Result Bool WriteFault) (result : Result Bool Stop) → HasEnough 64 later rec r
          → WritesAnswer held failures old new f r answer → result ≡ told_line answer
          → AnswersVerdict held failures folder old new filter rec result
      verdict_done new r answer result of_record h e =
          inr (
            of_filter.file,
            of_record.file,
            of_filter.is,
            subst (λ d. HasBytes d rec of_record.file) same of_record.is,
            record {
              answer = answer;
              written = verdict_of_files of_filter.file f of_record.file r of_filter.enough of_record.enough held failures old new answer h;
              told = e;
            },
          )

  module _ (native : Arch) (bundle : List ℕ) where
    pub export_first : (form : Form) (stop : Stop) (result : Result Bool Stop) → StopsAt folder bundle stop → result ≡ Err stop
        → AnswersExport held failures folder old old native bundle form result
    export_first form stop result h e = inl (record { stop = stop; at = inl h; told = e; unwritten = refl })

    pub export_done : (form : Form) (new : O) (b : List ℕ) (result : Result Bool Stop) → HasBundle native folder bundle b
        → ExportsFor held failures old new (is_big_endian native) native b form result
        → AnswersExport held failures folder old new native bundle form result
    export_done form new b result of_bundle h = inr (b, of_bundle, h)

    module _ (filter : List ℕ) where
      pub check_first : (cert : List ℕ) (stop : Stop) (result : Result Bool Stop) → StopsAt folder bundle stop → result ≡ Err stop
          → AnswersCheck held failures folder old old native bundle filter cert result
      check_first cert stop result h e = inl (record { stop = stop; at = inl h; told = e; unwritten = refl })

      module _ (b : List ℕ) (of_bundle : HasBundle native folder bundle b) (later : Option Folder) (same : later ≡ folder) where
        pub second : (names : List (List ℕ)) (stop : Stop) → StopsAt later filter stop
            → FirstUnread folder (bundle ∷ filter ∷ names) stop
        second names stop h =
            behind folder bundle of_bundle.file (filter ∷ names) stop of_bundle.is (inl (subst (λ d. StopsAt d filter stop) same h))

        pub check_second : (cert : List ℕ) (stop : Stop) (result : Result Bool Stop) → StopsAt later filter stop → result ≡ Err stop
            → AnswersCheck held failures folder old old native bundle filter cert result
        check_second cert stop result h e = inl (record { stop = stop; at = second (cert ∷ []) stop h; told = e; unwritten = refl })

        module _ (f : List ℕ) (of_filter : HasEnoughFilter native later filter f) where
          has_filter : HasFilter native folder filter of_filter.filter
          has_filter = subst (λ d. HasFilter native d filter of_filter.filter) same of_filter.has

          module _ (cert : List ℕ) (last : Option Folder) (still : last ≡ later) where
            pub check_third : (stop : Stop) (result : Result Bool Stop) → StopsAt last cert stop → result ≡ Err stop
                → AnswersCheck held failures folder old old native bundle filter cert result
            check_third stop result h e = inl (record {
              stop = stop;
              at = behind folder bundle of_bundle.file (filter ∷ cert ∷ []) stop of_bundle.is (behind folder filter has_filter.file (cert ∷ []) stop has_filter.is
                  (inl (subst (λ d. StopsAt d cert stop) same (subst (λ d. StopsAt d cert stop) still h))));
              told = e;
              unwritten = refl;
            })

            pub check_done : (new : O) (c : List ℕ) (answer : Result Bool WriteFault) (result : Result Bool Stop)
                → HasEnough 4194304 last cert c → WritesFinding held failures old new native b f c answer → result ≡ told_line answer
                → AnswersCheck held failures folder old new native bundle filter cert result
            check_done new c answer result of_cert h e =
                let has_cert = subst (λ d. HasEnough 4194304 d cert c) same (subst (λ d. HasEnough 4194304 d cert c) still of_cert) in
                inr (
                  b,
                  of_filter.filter,
                  c,
                  of_bundle,
                  has_filter,
                  has_cert,
                  record {
                    answer = answer;
                    written = check_of_file native b of_filter.filter f of_filter.enough held failures old new c answer h;
                    told = e;
                  },
                )

-- what is told of files is written
module _ {O : Type 0} (held : O → Option (List ℕ)) (failures : O → Failures) (folder : Option Folder) (names : List (List ℕ))
    (Is : List (List ℕ) → Told → Type 0) (old new : O) (result : Result Bool Stop) where
  pub answers_told : (told : Result Told Stop) → IsToldOf folder names Is told → TellsOn held failures old new told result
      → AnswersTold held failures folder old new names Is result
  answers_told (Ok told) is h = inr (is.0, told, is.1, is.2, h)
  answers_told (Err stop) at h = inl (record { stop = stop; at = at; told = h.0; unwritten = h.1 })

-- so is what stops at words, if they ask for nothing
module _ {O : Type 0} (held : O → Option (List ℕ)) (failures : O → Failures) (folder : Option Folder) (old new : O) where
  stopped_at : (result : Result Bool Stop) (told : Result Told Stop) → told ≡ Err Usage → TellsOn held failures old new told result
      → StopsAtWords held failures folder old new result
  stopped_at result told e h = subst (λ t. TellsOn held failures old new t result) e h

  pub answers_manual : (name : Option (List ℕ)) (result : Result Bool Stop) (told : Result Told Stop) → IsManualOf folder name told
      → TellsOn held failures old new told result → AnswersManual held failures folder old new name result
  answers_manual name result told (inl is) h = inl (is.0, stopped_at result told is.1 h)
  answers_manual name result told (inr is) h = inr (answers_told held failures folder [] (of_none (IsManual name)) old new result told is h)

  pub answers_adapted : (native : Arch) (config : List ℕ) (words : List (List ℕ)) (result : Result Bool Stop) (both : Result OutputAndReport Stop)
      → IsAdaptedOf folder native config words (told_in both) → TellsOn held failures old new (told_in both) result
      → AnswersAdapt held failures folder old new native config words result
  answers_adapted native config words result both is h = (is.others, is.as_bundle, is.named, by (told_in both) is.grown is.made is.is_made is.grows is.written h) where
    groups : List (List ℕ)
    groups = groups_in is.others

    Is : List ℕ → Told → Type 0
    Is text = OfArguments (IsMadeAs native text) (others_in is.others)

    Writes : List ℕ → Told → Type 0
    Writes text = WritesMade native is.as_bundle (WithGroups native groups (Is text))

    by : (told grown made : Result Told Stop) → IsBundleOf folder native config (others_in is.others) made
        → IsWithGroups native groups made grown → IsInForm native is.as_bundle grown told → TellsOn held failures old new told result
        → StopsAtGroups held failures folder old new is.others result
        ⊎ ((AskNothing (others_in is.others) × StopsAtWords held failures folder old new result)
        ⊎ AnswersTold held failures folder old new (config ∷ []) (of_one Writes) result)
    by told grown made bundle (inl unknown) written h =
        inl (unknown.0, stopped_at result told (stopped_in native is.as_bundle grown told Usage unknown.1 written) h)
    by told grown made bundle (inr (inl memory)) written h =
        inr (inr (answers_told held failures folder (config ∷ []) (of_one Writes) old new result told
        (told_memory folder (config ∷ []) (of_one Writes) told (stopped_in native is.as_bundle grown told OutOfMemory memory written)) h))
    by told grown made (inl none) (inr (inr grows)) written h =
        inr (inl (
          none.0,
          stopped_at result told
              (stopped_in native is.as_bundle grown told Usage (stopped_grown native groups made grown Usage none.1 grows.1) written) h,
        ))
    by told grown made (inr read) (inr (inr grows)) written h =
        inr (inr (answers_told held failures folder (config ∷ []) (of_one Writes) old new result told
        (told_in_form native is.as_bundle folder (config ∷ []) (λ text. WithGroups native groups (Is text)) grown told
        (told_with_groups native groups folder (config ∷ []) Is made grown read grows.1) written) h))

  pub answers_combined : (native : Arch) (way : Way) (words : List (List ℕ)) (result : Result Bool Stop) (both : Result OutputAndReport Stop)
      → IsCombinedOf folder native way words (told_in both) → TellsOn held failures old new (told_in both) result
      → AnswersCombined held failures folder old new native way words result
  answers_combined native way words result both is h = (
    is.bundles,
    is.as_bundle,
    is.named,
    answers_told held failures folder is.bundles (λ texts. WritesMade native is.as_bundle (OfEach native (TellsCombined native way) texts)) old new
        result (told_in both) is.is h,
  )

  pub answers_stack : (native : Arch) (words : List (List ℕ)) (result : Result Bool Stop) (both : Result OutputAndReport Stop)
      → IsStackOf folder native words (told_in both) → TellsOn held failures old new (told_in both) result
      → AnswersStack held failures folder old new native words result
  answers_stack native words result both is h = (
    is.filters,
    is.as_bundle,
    is.named,
    answers_told held failures folder is.filters (λ files. WritesMade native is.as_bundle (TellsStack native (map (read_as native) files))) old new result (told_in both)
        is.is h,
  )

  pub answers_replayed : (native : Arch) (bundle : List ℕ) (words : List (List ℕ)) (result : Result Bool Stop) (told : Result Told Stop)
      → IsReplayOf folder native bundle words told → TellsOn held failures old new told result
      → AnswersReplay held failures folder old new native bundle words result
  answers_replayed native bundle words result told is h = (
    is.logs,
    is.unused,
    is.named,
    answers_told held failures folder (bundle ∷ is.logs) (IsReplayed native is.unused is.logs) old new result told is.is h,
  )

-- the text of one file is told of
pub told_text : (folder : Option Folder) (name text : List ℕ) (Is : List ℕ → Told → Type 0) → HasBytes folder name text
    → (told : Result Told Stop) → TellsText (Is text) told → IsToldOf folder (name ∷ []) (of_one Is) told
told_text folder name text Is has (Ok told) h = (text ∷ [], (has, tt), h)
told_text folder name text Is has (Err stop) h = subst (λ s. FirstUnread folder (name ∷ []) s) (sym h) (inl tt)

-- so are the texts of two, of which the second one is read last
pub told_both : (folder later : Option Folder) → later ≡ folder → (old new text : List ℕ) (Is : List ℕ → List ℕ → Told → Type 0)
    → HasBytes folder old text → (told : Result Told Stop) → IsToldOf later (new ∷ []) (of_one (Is text)) told
    → IsToldOf folder (old ∷ new ∷ []) (of_two Is) told
told_both folder later same old new text Is has (Ok told) (texts, read, is) = by texts read is where
  by : (texts : List (List ℕ)) → HaveBytes later (new ∷ []) texts → of_one (Is text) texts told
      → IsToldOf folder (old ∷ new ∷ []) (of_two Is) (Ok told)
  by [] read is = absurd is
  by (t ∷ []) read is = (text ∷ t ∷ [], (has, (subst (λ d. HasBytes d new t) same read.0, tt)), is)
  by (t ∷ u ∷ more) read is = absurd is
told_both folder later same old new text Is has (Err stop) h =
    behind folder old text (new ∷ []) stop has (subst (λ d. FirstUnread d (new ∷ []) stop) same h)

-- what `explain` tells, by whether it is asked about a call whatever its arguments are
module _ {E : Type 0} (native : Arch) (bundle : List ℕ) (call : List (Bor (List ℕ))) (told : Result Told E) where
  pub explained_call : any_call (map now_of call) ≡ None → IfOk told (IsExplained native bundle call)
      → IfOk told (explained_as native (map now_of call) (any_call (map now_of call)) bundle)
  explained_call none h = subst (λ o. IfOk told (explained_as native (map now_of call) o bundle)) (sym none) (of told h) where
    of : (r : Result Told E) → IfOk r (IsExplained native bundle call) → IfOk r (explained_as native (map now_of call) None bundle)
    of (Ok t) is = record { lying = call; same = refl; is = is }
    of (Err e) is = tt

  pub explained_any : (what : List ℕ) → any_call (map now_of call) ≡ Some what → IfOk told (IsExplainedAny native bundle what)
      → IfOk told (explained_as native (map now_of call) (any_call (map now_of call)) bundle)
  explained_any what some h = subst (λ o. IfOk told (explained_as native (map now_of call) o bundle)) (sym some) h

-- ---- files in turn

pub one_more_read : (folder : Option Folder) (names texts : List (List ℕ)) (name text : List ℕ) → HaveBytes folder names texts
    → HasBytes folder name text → HaveBytes folder (names ++ name ∷ []) (texts ++ text ∷ [])
one_more_read folder [] [] name text h g = (g, tt)
one_more_read folder [] (t ∷ ts) name text h g = absurd h
one_more_read folder (n ∷ ns) [] name text h g = absurd h
one_more_read folder (n ∷ ns) (t ∷ ts) name text h g = (h.0, one_more_read folder ns ts name text h.1 g)

pub unread_behind : (folder : Option Folder) (names texts : List (List ℕ)) (name : List ℕ) (more : List (List ℕ)) (stop : Stop)
    → HaveBytes folder names texts → StopsAt folder name stop → FirstUnread folder (names ++ name ∷ more) stop
unread_behind folder [] [] name more stop h g = inl g
unread_behind folder [] (t ∷ ts) name more stop h g = absurd h
unread_behind folder (n ∷ ns) [] name more stop h g = absurd h
unread_behind folder (n ∷ ns) (t ∷ ts) name more stop h g =
    behind folder n t (ns ++ name ∷ more) stop h.0 (unread_behind folder ns ts name more stop h.1 g)

-- of a list of names, up to the one at a place
module _ (folder later : Option Folder) (same : later ≡ folder) (ns : List (Bor (List ℕ))) (texts : List (List ℕ)) (i : ℕ)
    (d : Bor (List ℕ)) (lt : i < length ns) (so_far : HaveBytes folder (map now_of (take i ns)) texts) where
  pub read_on : (text : List ℕ) (more : List (List ℕ)) → more ≡ texts ++ text ∷ [] → HasBytes later (get_or ns i d).now text
      → HaveBytes folder (map now_of (take (i + 1) ns)) more
  read_on text more pushed h =
      let n = get_or ns i d in
      let names : map now_of (take (i + 1) ns) ≡ map now_of (take i ns) ++ n.now ∷ [] =
      ap (map now_of) (take_more ns i d lt) ∙ map-append now_of (take i ns) (n ∷ []) in
      rw (names, pushed) (one_more_read folder (map now_of (take i ns)) texts n.now text so_far (subst (λ f. HasBytes f n.now text) same h))

  pub unread_at : (stop : Stop) → StopsAt later (get_or ns i d).now stop → FirstUnread folder (map now_of ns) stop
  unread_at stop h =
      let n = get_or ns i d in
      let names : map now_of ns ≡ map now_of (take i ns) ++ n.now ∷ map now_of (drop (i + 1) ns) =
      ap (map now_of) (cut_at ns i n lt (get_or_default ns i d n lt)) ∙ map-append now_of (take i ns) (n ∷ drop (i + 1) ns) in
      subst (λ l. FirstUnread folder l stop) (sym names) (unread_behind folder (map now_of (take i ns)) texts n.now
      (map now_of (drop (i + 1) ns)) stop so_far (subst (λ f. StopsAt f n.now stop) same h))
