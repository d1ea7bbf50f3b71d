-- What `read` tells of a bundle, and the line behind it; and why there is no text of a profile.
use Rattle.std.proofs.Common.{◌≡◌, ◌≢◌, ◌++◌, ℕ, false, List, refl, inl, inr}
use Rattle.std.specs.Prelude.{IfOk, IfSome, Result, Ok, Err, codes}
use Rattle.machines.specs.declared.arch.Arch.{Arch}
use Rattle.compare.specs.Hints.{IsHint}
use Rattle.compare.specs.declared.lint.hints.Hinted.{Hinted}
use Rattle.profile_json.specs.Breaks.{Breaks}
use Rattle.profile_json.specs.Fault.{fault_of, text_of}
use Rattle.profile_json.specs.declared.fault.ProfileError.{ProfileError}
use Rattle.profile_json.specs.declared.fault.ProfileError.TheVariants.{OutOfMemory}
use Rattle.show.specs.Read.{IsReadOut}
use Rattle.wording.specs.Told.{RefusesBy, was_done}
use Rattle.wording.specs.declared.told.Told.{Told}
use Rattle.cli.specs.Read.{HasHint, HasNames, TellsRead, TellsRules}

module _ (native : Arch) (bundle : List ℕ) (told meaning : Told) (is : IsReadOut native bundle meaning)
    (named : HasNames native bundle meaning told) where
  -- a bundle that is refused
  pub tells_refused : was_done told.end ≡ false → TellsRead native bundle told
  tells_refused undone = record { meaning = meaning; is_read = is; inner = told; named = named; hinted = inl (refl, undone) }

  pub tells_hint : {E : Type 0} (hint : Hinted) (r : Result Told E) → IsHint native bundle hint → IfOk r (HasHint hint told)
      → IfOk r (TellsRead native bundle)
  tells_hint hint (Ok other) is_hint has =
      record { meaning = meaning; is_read = is; inner = told; named = named; hinted = inr (hint, has, is_hint) }
  tells_hint hint (Err e) is_hint has = tt

pub refuses : {E : Type 0} (native : Arch) (bundle : List ℕ) (e : ProfileError) → IfSome (fault_of e) (Breaks bundle native)
    → (r : Result Told E) → IfOk r (RefusesBy (codes "refused profile " ++ text_of e)) → IfOk r (λ told. e ≢ OutOfMemory)
    → IfOk r (TellsRules native bundle)
refuses native bundle e stands (Ok told) line fault = inl (record { error = e; is_fault = fault; stands = stands; tells = line })
refuses native bundle e stands (Err x) line fault = tt
