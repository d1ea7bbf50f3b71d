-- What is told of a bundle, by what is told of its parts.
use Rattle.std.proofs.Common.{ℕ, ◌≡◌, ◌++◌, false, List, inl, inr}
use Rattle.std.proofs.lemmas.Bool.{both_ways}
use Rattle.std.specs.Prelude.{◌≢◌, IfOk, IfSome, Result, Ok, Err, codes}
use Rattle.machines.specs.declared.arch.Arch.{Arch}
use Rattle.wording.specs.Told.{RefusesBy}
use Rattle.wording.specs.declared.told.Told.{Told}
use Rattle.profile_json.specs.Breaks.{Breaks}
use Rattle.profile_json.specs.Fault.{fault_of, text_of}
use Rattle.profile_json.specs.declared.fault.ProfileError.{ProfileError}
use Rattle.profile_json.specs.declared.fault.ProfileError.TheVariants.{OutOfMemory}
use Rattle.compare.specs.Hints.{IsHint, refused}
use Rattle.compare.specs.declared.lint.hints.Hinted.{Hinted}
use Rattle.compare.specs.Linted.{IsJudged, IsLinted}

module _ {E : Type 0} (native : Arch) (bundle : List ℕ) where
  -- the bundle is refused
  pub is_refused : (e : ProfileError) (r : Result Told E) → IfSome (fault_of e) (Breaks bundle native)
      → IfOk r (λ told. e ≢ OutOfMemory) → IfOk r (RefusesBy (codes "refused profile " ++ text_of e)) → IfOk r (IsLinted native bundle)
  is_refused e (Ok told) stands fault line = inl (record { error = e; is_fault = fault; stands = stands; tells = line })
  is_refused e (Err x) stands fault line = line

  -- it means a profile, of which it is told
  pub is_judged : (r : Result Told E) → IfOk r (IsJudged native bundle) → IfOk r (IsLinted native bundle)
  is_judged (Ok told) h = inr h
  is_judged (Err x) h = h

  -- it is refused, and gets no hint
  pub refused_hint : (e : ProfileError) (r : Result Hinted E) → IfSome (fault_of e) (Breaks bundle native)
      → IfOk r (λ hint. e ≢ OutOfMemory) → IfOk r (λ hint. hint.past ≡ false) → IfOk r (λ hint. hint.stopped ≡ false) → IfOk r (IsHint native bundle)
  refused_hint e (Ok hint) stands fault past stopped = record {
    past = λ told. absurd (both_ways hint.past past told);
    not_past = λ told. refused e fault stands;
    stopped = λ told. absurd (both_ways hint.stopped stopped told);
    not_stopped = λ told. refused e fault stands;
  }
  refused_hint e (Err x) stands fault past stopped = fault
