-- What is told of two bundles, by what is told of its parts.
use Rattle.std.proofs.Common.{◌≡◌, ℕ, Bool, List, inl, inr}
use Rattle.std.specs.Prelude.{IfOk, IfSome, Result, Ok, Err}
use Rattle.machines.specs.declared.arch.Arch.{Arch}
use Rattle.machines.specs.declared.arch.Family.{Family}
use Rattle.machines.specs.Arch.{family_of}
use Rattle.wording.specs.declared.told.Told.{Told}
use Rattle.profile.specs.Policy.{Policy}
use Rattle.profile_json.specs.Breaks.{Breaks}
use Rattle.profile_json.specs.Fault.{fault_of}
use Rattle.profile_json.specs.declared.fault.ProfileError.{ProfileError}
use Rattle.compare.specs.Equal.{AreEqual}
use Rattle.compare.specs.Outcome.{IsComparison}
use Rattle.compare.specs.Told.{AreTold, IsBundle, IsCompared, TellsComparison, TellsRefusal}
use Rattle.compare.specs.declared.outcome.Comparison.{Comparison}
use Rattle.compare.specs.declared.outcome.Comparison.TheVariants.{Same}

module _ {E : Type 0} (atmost : Bool) (native : Arch) (first second : List ℕ) where
  -- a bundle is refused
  pub first_refused : (e : ProfileError) (r : Result Told E) → IfSome (fault_of e) (Breaks first native) → IfOk r (TellsRefusal 1 e)
      → IfOk r (IsCompared atmost native first second)
  first_refused e (Ok told) stands h = inl (record { fault = e; stands = stands; tells = h })
  first_refused e (Err x) stands h = h

  pub second_refused : (one : Policy) (e : ProfileError) (r : Result Told E) → IsBundle native first one
      → IfSome (fault_of e) (Breaks second native) → IfOk r (TellsRefusal 2 e) → IfOk r (IsCompared atmost native first second)
  second_refused one e (Ok told) means stands h = inr (inl ((one, means), record { fault = e; stands = stands; tells = h }))
  second_refused one e (Err x) means stands h = h

  -- both mean profiles, which are compared
  pub both_compared : (one other : Policy) (r : Result Told E) → IsBundle native first one → IsBundle native second other
      → IfOk r (AreTold atmost (family_of native) one other) → IfOk r (IsCompared atmost native first second)
  both_compared one other (Ok told) means_one means_other h =
      inr (inr (record { one = one; other = other; means_one = means_one; means_other = means_other; compared = h }))
  both_compared one other (Err x) means_one means_other h = h

-- how profiles compare is told
pub are_told : {E : Type 0} (atmost : Bool) (family : Family) (p q : Policy) (comparison : Comparison) (r : Result Told E)
    → IsComparison family p q comparison
    → (AreEqual p q → comparison ≡ Same) → IfOk r (TellsComparison atmost comparison) → IfOk r (AreTold atmost family p q)
are_told atmost family p q comparison (Ok told) is equal h = record { comparison = comparison; is = is; equal = equal; tells = h }
are_told atmost family p q comparison (Err x) is equal h = h
