-- Bundles that mean what filters do, and the one that means what a stack does.
use Rattle.std.proofs.Common.{◌≡◌, ℕ, List, [], ◌∷◌, Some, refl, sym, ◌∙◌, ap, subst}
use Rattle.std.specs.List.{All, AllZip}
use Rattle.std.proofs.lemmas.Option.{same_Some}
use Rattle.std.proofs.lemmas.List.Elements.{All-cons, All-nil}
use Rattle.serde_json.specs.Data.{Data}
use Rattle.call_record.specs.Words.{IsRecord}
use Rattle.machines.specs.declared.arch.Arch.{Arch}
use Rattle.profile.specs.Policy.{Policy, Says}
use Rattle.profile.specs.Said.{said}
use Rattle.profile.proofs.SaidLaws.{each_record_is_said_one_verdict}
use Rattle.profile_json.specs.Meaning.{Means}
use Rattle.profile_json.proofs.unbroken.Unbroken.{meaning_is_one}
use Rattle.recover.specs.Recovered.{IsRecovered}
use Rattle.together.specs.Combined.{IsBundle, IsCombined}
use Rattle.together.specs.Together.{each_said}
use Rattle.together.specs.declared.way.Way.TheVariants.{Strictest}
use Rattle.flatten.specs.Stack.{GivesVerdict, IsFilter}
use Rattle.combine.specs.Stack.{IsOfStack}

-- a bundle means one profile
one_policy : (native : Arch) (bundle : List ℕ) (p q : Policy) → IsBundle native bundle p → IsBundle native bundle q → p ≡ q
one_policy native bundle p q h g =
    let same : h.0 ≡ g.0 = same_Some h.0 g.0 (sym h.1.1 ∙ g.1.1) in
    meaning_is_one g.0 native p q (subst (λ (t : Data). Means t native p) same h.2) g.2

-- a filter gives the verdict that the profile of its bundle says
one_verdict : (native : Arch) (filter bundle r : List ℕ) (p : Policy) → IsRecord r → IsRecovered native bundle filter → IsBundle native bundle p
    → GivesVerdict r filter (said p r)
one_verdict native filter bundle r p is h g =
    let q = h.policy in
    let says : Says q r (said q r) = (each_record_is_said_one_verdict q r (said q r) h.means.2.calls.clear is).1 refl in
    (h.right r is (said q r)).1 says ∙ ap (λ (x : Policy). Some (said x r)) (one_policy native bundle q p h.means g)

verdicts : (native : Arch) (r : List ℕ) (filters bundles : List (List ℕ)) (ps : List Policy) → IsRecord r
    → AllZip (λ filter bundle. IsRecovered native bundle filter) filters bundles → AllZip (IsBundle native) bundles ps
    → AllZip (GivesVerdict r) filters (each_said ps r)
verdicts native r [] [] [] is h g = tt
verdicts native r [] [] (p ∷ ps) is h g = absurd g
verdicts native r [] (b ∷ bs) ps is h g = absurd h
verdicts native r (f ∷ fs) [] ps is h g = absurd h
verdicts native r (f ∷ fs) (b ∷ bs) [] is h g = absurd g
verdicts native r (f ∷ fs) (b ∷ bs) (p ∷ ps) is h g = (one_verdict native f b r p is h.0 g.0, verdicts native r fs bs ps is h.1 g.1)

are_filters : (native : Arch) (filters bundles : List (List ℕ)) → AllZip (λ filter bundle. IsRecovered native bundle filter) filters bundles
    → All IsFilter filters
are_filters native [] bundles h = All-nil IsFilter
are_filters native (f ∷ fs) [] h = absurd h
are_filters native (f ∷ fs) (b ∷ bs) h = All-cons IsFilter f fs (h.0.program, h.0.accepted) (are_filters native fs bs h.1)

pub of_stack : (native : Arch) (filters bundles : List (List ℕ)) (made : List ℕ)
    → AllZip (λ filter bundle. IsRecovered native bundle filter) filters bundles → IsCombined native Strictest bundles made
    → IsOfStack native filters made
of_stack native filters bundles made h combined = record {
  accepted = are_filters native filters bundles h;
  policy = combined.2.0;
  means = combined.2.1;
  right = λ r is. (each_said combined.0 r, verdicts native r filters bundles combined.0 is h combined.1, combined.2.2 r is);
}
