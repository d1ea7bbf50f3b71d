-- Yes, no and a refused bundle exclude one another; what is told of a bundle that is read, and of one that is refused.
use Rattle.std.proofs.Common.{◌≡◌, ℕ, List, refl, sym, subst, ◌∙◌}
use Rattle.std.specs.Prelude.{IfOk, IfSome, Result, Ok, Err, ◌≢◌}
use Rattle.std.proofs.lemmas.Option.{same_Some}
use Rattle.serde_json.specs.Data.{Data}
use Rattle.machines.specs.declared.arch.Arch.{Arch}
use Rattle.cert_check.specs.Certified.{Kept}
use Rattle.profile.specs.Policy.{Policy}
use Rattle.profile_json.specs.declared.fault.ProfileError.{ProfileError}
use Rattle.profile_json.specs.declared.fault.ProfileError.TheVariants as refusal
use Rattle.profile_json.specs.Breaks.{Breaks}
use Rattle.profile_json.specs.Fault.{fault_of}
use Rattle.profile_json.specs.Laws.{MeaningIsOne, MeaningIsUnbroken}
use Rattle.profile_json.specs.Meaning.{Means}
use Rattle.maker.specs.declared.check.Finding.{Finding}
use Rattle.maker.specs.declared.check.Finding.TheVariants.{Yes, No, NoProfile, TooLarge}
use Rattle.maker.specs.Finding.{FindingsExclude, IsBundle, IsFinding, IsInLimit, IsJudged, IsLight, IsLightBeside}

-- a bundle means one profile
module _ (one : MeaningIsOne) where
  pub one_policy : (native : Arch) (bundle : List ℕ) (p q : Policy) → IsBundle native bundle p → IsBundle native bundle q → p ≡ q
  one_policy native bundle p q h g =
      let same : h.0 ≡ g.0 = same_Some h.0 g.0 (sym h.1.1 ∙ g.1.1) in
      one g.0 native p q (subst (λ (t : Data). Means t native p) same h.2) g.2

module _ (unbroken : MeaningIsUnbroken) (one : MeaningIsOne) where
  pub no_fault : (native : Arch) (bundle : List ℕ) (p : Policy) (e : ProfileError) → IsBundle native bundle p → e ≢ refusal.OutOfMemory
      → IfSome (fault_of e) (Breaks bundle native) → ⊥
  no_fault native bundle p refusal.OutOfMemory is other h = other refl
  no_fault native bundle p e is other h = unbroken bundle is.0 native p _ is.1 is.2 h

  pub findings_exclude : FindingsExclude
  findings_exclude = record {
    yes_no = λ native bundle filter cert e yes no_.
        no_.2.1.broken (subst (λ (p : Policy). Kept p filter cert e) (one_policy one native bundle yes.0 no_.0 yes.1 no_.1) (yes.2.kept e));
    yes_refused = λ native bundle filter cert e yes refused. no_fault native bundle yes.0 e yes.1 refused.0 refused.1;
    no_refused = λ native bundle filter cert e f no_ refused. no_fault native bundle no_.0 f no_.1 refused.0 refused.1;
    large_refused = λ native bundle filter cert f large refused. no_fault native bundle large.0 f large.1 refused.0 refused.1;
    large_light = λ native bundle filter cert large light.
        large.2 (subst (λ (p : Policy). IsLight native p cert) (one_policy one native bundle light.0 large.0 light.1 large.1) light.2);
  }

module _ (native : Arch) (bundle filter cert : List ℕ) where
  -- what is judged beside the profile that the bundle means is found
  pub found_beside : {E : Type 0} (policy : Policy) (result : Result Finding E) → IsBundle native bundle policy
      → IfOk result (IsJudged policy filter cert) → IfOk result (IsFinding native bundle filter cert)
  found_beside policy (Ok Yes) is judged = (policy, is, judged)
  found_beside policy (Ok (No e)) is judged = (policy, is, judged)
  found_beside policy (Ok (NoProfile e)) is judged = absurd judged
  found_beside policy (Ok TooLarge) is judged = absurd judged
  found_beside policy (Err e) is judged = tt

  -- a finding of a light certificate is in its limit
  is_in_limit : (finding : Finding) → IsLightBeside native bundle cert → IsInLimit native bundle cert finding
  is_in_limit Yes light = light
  is_in_limit (No e) light = light
  is_in_limit (NoProfile e) light = tt
  is_in_limit TooLarge light = tt

  pub in_limit : {E : Type 0} (result : Result Finding E) → IsLightBeside native bundle cert
      → IfOk result (IsInLimit native bundle cert)
  in_limit (Ok finding) light = is_in_limit finding light
  in_limit (Err e) light = tt

  -- what is found of a bundle that is refused
  module _ {E : Type 0} (e : ProfileError) where
    pub found_refused : (result : Result Finding E) → IfOk result (λ finding. (finding ≡ NoProfile e) × (e ≢ refusal.OutOfMemory))
        → IfSome (fault_of e) (Breaks bundle native) → IfOk result (IsFinding native bundle filter cert)
    found_refused (Ok finding) told breaks = subst (IsFinding native bundle filter cert) (sym told.0) (told.1, breaks)
    found_refused (Err other) told breaks = tt

    pub limit_refused : (result : Result Finding E) → IfOk result (λ finding. (finding ≡ NoProfile e) × (e ≢ refusal.OutOfMemory))
        → IfOk result (IsInLimit native bundle cert)
    limit_refused (Ok finding) told = subst (IsInLimit native bundle cert) (sym told.0) tt
    limit_refused (Err other) told = tt
