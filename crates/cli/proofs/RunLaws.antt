-- What a run of bundles reads and writes, by what its parts do.
use Rattle.std.proofs.Common.{◌≡◌, ℕ, ◌⊎◌, inl, inr, Bool, true, false, List, ◌∷◌, ◌++◌, refl, ap, subst, sym, ◌∙◌}
use Rattle.std.specs.Prelude.{Option, Result, Ok, Err, IfOk, ◌≢◌}
use Rattle.std.specs.List.{All, Contains}
use Rattle.std.proofs.lemmas.List.Elements.{All-contains, Contains-append_right}
use Rattle.machines.specs.declared.arch.Arch.{Arch}
use Rattle.texts.specs.Failures.{Failures}
use Rattle.texts.specs.declared.streams.fault.WriteFault.{WriteFault}
use Rattle.profile_json.proofs.Lists.{contains_head}
use Rattle.session.specs.declared.bundles.Bundles.{Bundles}
use Rattle.session.specs.declared.fault.ScriptFault.{ScriptFault}
use Rattle.session.specs.declared.fault.ScriptFault.TheVariants.{Read, Write, Memory}
use Rattle.session.specs.Scripts.{IsAnswered, StopsForMemory, StopsReading, StopsWriting, TellsFailedRead, TellsFailedWrite}
use Rattle.maker.specs.declared.make_error.MakeError.{MakeError}
use Rattle.maker.specs.declared.make_error.MakeError.TheVariants.{OutOfMemory}
use Rattle.cli.specs.declared.stops.Stop.{Stop}
use Rattle.maker.proofs.PlainLaws.{not_refused}
use Rattle.maker.specs.Exported.{Refuses}
use Rattle.maker.specs.Plain.{IsPlainBundle}
use Rattle.cli.specs.Running.{AnswersScript, AreBundlesOf, FirstMakeError, HasAnswered, Runs, RunsBundles, RunsScript, told_line, told_script}

module _ {I O : Type 0} (left : I → Option (List ℕ)) (given : I → Failures) (held : O → Option (List ℕ)) (taken : O → Failures)
    (source source' : I) (sink sink' : O) (native : Arch) (texts : List (List ℕ)) where
  by_result : {T : Type 0} (bundles : Bundles) (r : Result T ScriptFault)
      → IfOk r (λ _. IsAnswered bundles (left source) (left source') (held sink) (held sink'))
      → ((line : ℕ) → r ≡ Err (Read line) → StopsReading bundles (left source) (left source') (held sink) (held sink') line)
      → ((out : ℕ) → r ≡ Err (Write out) → StopsWriting bundles (left source) (left source') (held sink) (held sink') out)
      → ((line : ℕ) → r ≡ Err (Memory line) → StopsForMemory bundles (left source) (left source') (held sink) (held sink') line
      ⊎ ((line ≡ 0) × (source' ≡ source) × (sink' ≡ sink)))
      → Runs left held source source' sink sink' bundles r
  by_result bundles (Ok x) ok read write memory = ok
  by_result bundles (Err (Read line)) ok read write memory = read line refl
  by_result bundles (Err (Write out)) ok read write memory = write out refl
  by_result bundles (Err (Memory line)) ok read write memory = memory line refl

  -- a script was run
  pub ran : (bundles : Bundles) → AreBundlesOf native texts bundles → (r : Result (Unit {0}) ScriptFault)
      → IfOk r (λ _. IsAnswered bundles (left source) (left source') (held sink) (held sink'))
      → ((line : ℕ) → r ≡ Err (Read line) → StopsReading bundles (left source) (left source') (held sink) (held sink') line)
      → ((out : ℕ) → r ≡ Err (Write out) → StopsWriting bundles (left source) (left source') (held sink) (held sink') out)
      → ((line : ℕ) → r ≡ Err (Memory line) → StopsForMemory bundles (left source) (left source') (held sink) (held sink') line
      ⊎ ((line ≡ 0) × (source' ≡ source) × (sink' ≡ sink)))
      → TellsFailedRead (given source) (given source') r → TellsFailedWrite (taken sink) (taken sink') r
      → (result : Result Bool Stop) → result ≡ told_script r
      → AnswersScript left given held taken source source' sink sink' native texts result
  ran bundles are r ok read write memory failed_read failed_write result told = record {
    bundles = bundles;
    are = are;
    outcome = r;
    runs = by_result bundles r ok read write memory;
    failed_read = failed_read;
    failed_write = failed_write;
    told = told;
  }

module _ {I O : Type 0} (left : I → Option (List ℕ)) (given : I → Failures) (held : O → Option (List ℕ)) (taken : O → Failures)
    (source : I) (sink sink' : O) (native : Arch) (texts : List (List ℕ)) where
  -- a text is refused
  pub refused_script : (u : MakeError) (r : Result Bool WriteFault) (result : Result Bool Stop)
      → (u ≢ OutOfMemory → FirstMakeError native texts u)
      → Refuses held taken sink sink' u r → result ≡ told_line r
      → RunsBundles left given held taken source source sink sink' native texts result
  refused_script u r result why (inl h) told = inr (inl (record {
    make_error = u;
    is = why h.0;
    unread = refl;
    outcome = r;
    written = h.1;
    answer = h.2;
    told = told;
  }))
  refused_script u r result why (inr h) told =
      inr (inr (record { unread = refl; unwritten = h.1; told = told ∙ ap told_line h.0 }))

-- ---- an answer of true

module _ {I O : Type 0} (left : I → Option (List ℕ)) (given : I → Failures) (held : O → Option (List ℕ)) (taken : O → Failures)
    (source source' : I) (sink sink' : O) (native : Arch) (texts : List (List ℕ)) where
  all_answered : (bundles : Bundles) (r : Result (Unit {0}) ScriptFault) → Runs left held source source' sink sink' bundles r
      → told_script r ≡ Ok true → IsAnswered bundles (left source) (left source') (held sink) (held sink')
  all_answered bundles (Ok x) runs e = runs
  all_answered bundles (Err fault) runs e = absurd (cc)

  none_refused : (r : Result Bool WriteFault) → IfOk r (λ done. done ≡ false) → told_line r ≡ Ok true → ⊥
  none_refused (Ok done) answer e = let same : done ≡ true = cc in let bad : true ≡ false = sym same ∙ answer in absurd (cc)
  none_refused (Err fault) answer e = absurd (cc)

  none_lacking : (result : Result Bool Stop) (stop : Stop) → result ≡ Err stop → result ≡ Ok true → ⊥
  none_lacking result stop told e = let bad : Err stop ≡ Ok true = sym told ∙ e in absurd (cc)

  pub script_is_answered : (result : Result Bool Stop)
      → RunsBundles left given held taken source source' sink sink' native texts result → result ≡ Ok true
      → HasAnswered native texts (left source) (left source') (held sink) (held sink')
  script_is_answered result (inl h) e =
      record { bundles = h.bundles; are = h.are; answered = all_answered h.bundles h.outcome h.runs (sym h.told ∙ e) }
  script_is_answered result (inr (inl h)) e = absurd (none_refused h.outcome h.answer (sym h.told ∙ e))
  script_is_answered result (inr (inr h)) e = absurd (none_lacking result _ h.told e)

-- ---- plain bundles

-- there is no first of such texts without a checked filter
none_is_refused : (native : Arch) (texts : List (List ℕ)) (u : MakeError) → All (IsPlainBundle native) texts
    → FirstMakeError native texts u → ⊥
none_is_refused native texts u all first =
    let parts : All (IsPlainBundle native) (first.before ++ first.text ∷ first.after) =
    subst (All (IsPlainBundle native)) first.split all in
    let there : Contains (first.before ++ first.text ∷ first.after) first.text =
    Contains-append_right first.before (first.text ∷ first.after) first.text (contains_head first.text first.after) in
    not_refused native first.text u (All-contains (IsPlainBundle native) (first.before ++ first.text ∷ first.after) first.text parts there)
    first.is

pub script_is_run : {I O : Type 0} (left : I → Option (List ℕ)) (given : I → Failures) (held : O → Option (List ℕ)) (taken : O → Failures)
    (source source' : I) (sink sink' : O) (native : Arch) (texts : List (List ℕ)) (result : Result Bool Stop)
    → RunsBundles left given held taken source source' sink sink' native texts result → All (IsPlainBundle native) texts
    → RunsScript left given held taken source source' sink sink' native texts result
script_is_run left given held taken source source' sink sink' native texts result (inl h) all = inl h
script_is_run left given held taken source source' sink sink' native texts result (inr (inl h)) all =
    absurd (none_is_refused native texts h.make_error all h.is)
script_is_run left given held taken source source' sink sink' native texts result (inr (inr h)) all = inr h
