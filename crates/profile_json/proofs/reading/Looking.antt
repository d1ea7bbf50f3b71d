-- Looking into a value.
use Rattle.std.proofs.Common.{◌≡◌, List, [], ◌∷◌, refl, sym, ◌∙◌, ap, subst, Result, Ok, Err, Option, Some, None, IsSomeAnd}
use Rattle.serde_json.specs.Data.{Data}
use Rattle.serde_json.specs.View.{items_of}
use Rattle.profile_json.specs.declared.fault.ProfileError.{ProfileError}
use Rattle.profile_json.specs.Fault.{Fault}
use Rattle.profile_json.specs.Lookup.{elements, member_of, seen_as, or_default}
use Rattle.profile_json.specs.inner.Outcome.{Gives}
use Rattle.profile_json.specs.inner.Reading.{typed, needed, if_there}

pub elements-items_of : (ds : List Data) → elements (items_of ds) ≡ ds
elements-items_of [] = refl
elements-items_of (d ∷ ds) = ap (λ es. d ∷ es) (elements-items_of ds)

-- a member that is found, and what its reader gives of it
module _ {A : Type 0} (as_it : Data → Option A) where
  typed_needed : (f : Fault) (o : Option A) → typed o ≡ needed f (member_of o)
  typed_needed f None = refl
  typed_needed f (Some x) = refl

  typed_default : (x : A) (o : Option A) → typed o ≡ typed (or_default x (member_of o))
  typed_default x None = refl
  typed_default x (Some y) = refl

  typed_there : (o : Option A) (x : A) → typed o ≡ Ok x → if_there (member_of o) ≡ Ok (Some x)
  typed_there None x h = cc
  typed_there (Some y) x h = cc

  typed_not : (o : Option A) (e : Option Fault) → IsSomeAnd e (λ f. typed o ≡ Err f) → IsSomeAnd e (λ f. if_there (member_of o) ≡ Err f)
  typed_not o None h = h
  typed_not None (Some f) h = cc
  typed_not (Some x) (Some f) h = cc

  module _ {X : Type 0} (seen : X → A) (r : Result X ProfileError) (d : Data) (o : Option Data) where
    pub needed_found : (f : Fault) → Some d ≡ o → Gives seen r (typed (as_it d)) → Gives seen r (needed f (seen_as as_it o))
    needed_found f is given =
        subst (λ (m : Option Data). Gives seen r (needed f (seen_as as_it m))) is (subst (Gives seen r) (typed_needed f (as_it d)) given)

    pub default_found : (x : A) → Some d ≡ o → Gives seen r (typed (as_it d)) → Gives seen r (typed (or_default x (seen_as as_it o)))
    default_found x is given =
        subst (λ (m : Option Data). Gives seen r (typed (or_default x (seen_as as_it m)))) is
        (subst (Gives seen r) (typed_default x (as_it d)) given)

  pub there_found : (x : A) (d : Data) (o : Option Data) → Some d ≡ o → typed (as_it d) ≡ Ok x → if_there (seen_as as_it o) ≡ Ok (Some x)
  there_found x d o is given = ap (λ (m : Option Data). if_there (seen_as as_it m)) (sym is) ∙ typed_there (as_it d) x given

  pub there_not : (e : Option Fault) (d : Data) (o : Option Data) → Some d ≡ o → IsSomeAnd e (λ f. typed (as_it d) ≡ Err f)
      → IsSomeAnd e (λ f. if_there (seen_as as_it o) ≡ Err f)
  there_not e d o is given =
      subst (λ (m : Option Data). IsSomeAnd e (λ f. if_there (seen_as as_it m) ≡ Err f)) is (typed_not (as_it d) e given)

  -- a member that is missing
  pub needed_none : (f : Fault) (o : Option Data) → None ≡ o → needed f (seen_as as_it o) ≡ Err f
  needed_none f o is = ap (λ (m : Option Data). needed f (seen_as as_it m)) (sym is)

  pub default_none : (x : A) (o : Option Data) → None ≡ o → typed (or_default x (seen_as as_it o)) ≡ Ok x
  default_none x o is = ap (λ (m : Option Data). typed (or_default x (seen_as as_it m))) (sym is)

  pub there_none : (o : Option Data) → None ≡ o → if_there (seen_as as_it o) ≡ Ok None
  there_none o is = ap (λ (m : Option Data). if_there (seen_as as_it m)) (sym is)
