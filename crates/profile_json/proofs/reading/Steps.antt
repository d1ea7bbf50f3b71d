-- The steps of a reading: what gave a value, and what failed.
use Rattle.std.proofs.Common.{◌≡◌, List, [], ◌∷◌, ◌++◌, length, arith, Bool, true, false, cond, Result, Ok, Err, Option, Some, None}
use Rattle.std.proofs.Common.{IsSome, ◌⊎◌, inl, inr, refl, sym, ◌∙◌, subst, rules, is_some}
use Rattle.std.specs.List.{AllZip, Contains}
use Rattle.std.specs.Option.{ok_or}
use Rattle.std.proofs.lemmas.Bool.{eqb-true}
use Rattle.serde_json.specs.Data.{Data}
use Rattle.serde_json.specs.Find.{as_object}
use Rattle.profile_json.specs.Fault.{Fault, wrong_type, missing_key}
use Rattle.profile_json.specs.Lookup.{Member, missing, other_type, holds, object}
use Rattle.profile_json.specs.inner.Outcome.{◌>>=◌}
use Rattle.profile_json.specs.inner.Reading.{typed, needed, is_empty, with_front, each}
use Rattle.profile_json.proofs.Lists.{contains_head, contains_tail}
use Rattle.profile_json.specs.Breaks.{NeededBreaks, is_missing, is_other}

pub bind_ok : {A B : Type 0} (r : Result A Fault) (f : A → Result B Fault) (y : B) → (r >>= f) ≡ Ok y → (x : A) × (r ≡ Ok x) × (f x ≡ Ok y)
bind_ok (Ok x) f y h = (x, refl, h)
bind_ok (Err e) f y h = cc

pub bind_err : {A B : Type 0} (r : Result A Fault) (f : A → Result B Fault) (e : Fault) → (r >>= f) ≡ Err e → (r ≡ Err e)
    ⊎ ((x : A) × (r ≡ Ok x) × (f x ≡ Err e))
bind_err (Ok x) f e h = inr (x, refl, h)
bind_err (Err d) f e h = inl (cc)

pub ok_or_ok : {A : Type 0} (o : Option A) (d : Fault) (x : A) → ok_or o d ≡ Ok x → o ≡ Some x
ok_or_ok None d x h = cc
ok_or_ok (Some y) d x h = cc

pub ok_or_err : {A : Type 0} (o : Option A) (d e : Fault) → ok_or o d ≡ Err e → (o ≡ None) × (d ≡ e)
ok_or_err None d e h = (refl, cc)
ok_or_err (Some y) d e h = cc

pub cond_ok : {A : Type 0} (b : Bool) (d : Fault) (x y : A) → cond b (Ok x) (Err d) ≡ Ok y → (b ≡ true) × (x ≡ y)
cond_ok true d x y h = (refl, cc)
cond_ok false d x y h = cc

pub cond_err : {A : Type 0} (b : Bool) (d e : Fault) (x : A) → cond b (Ok x) (Err d) ≡ Err e → (b ≡ false) × (d ≡ e)
cond_err true d e x h = cc
cond_err false d e x h = (refl, cc)

-- a test that refuses, and then a reading
pub guard_ok : {A : Type 0} (b : Bool) (d : Fault) (r : Result A Fault) (y : A) → cond b (Err d) r ≡ Ok y → (b ≡ false) × (r ≡ Ok y)
guard_ok true d r y h = cc
guard_ok false d r y h = (refl, h)

pub guard_err : {A : Type 0} (b : Bool) (d e : Fault) (r : Result A Fault) → cond b (Err d) r ≡ Err e → ((b ≡ true) × (d ≡ e))
    ⊎ ((b ≡ false) × (r ≡ Err e))
guard_err true d e r h = inl (refl, cc)
guard_err false d e r h = inr (refl, h)

pub ok_same : {A : Type 0} (x y : A) → (let r : Result A Fault = Ok x in r) ≡ Ok y → x ≡ y
ok_same x y h = cc

pub not_ok : {A : Type 0} (x : A) (e : Fault) → (let r : Result A Fault = Ok x in r) ≡ Err e → ⊥
not_ok x e h = cc

pub holds_same : {A : Type 0} (x y : A) → holds x ≡ holds y → x ≡ y
holds_same x y h = cc

pub none_some : {A : Type 0} (o : Option A) (x : A) → o ≡ None → o ≡ Some x → ⊥
none_some o x n s = let no-more : Some x ≡ None = sym s ∙ n in cc

pub true_false : (b : Bool) → b ≡ true → b ≡ false → ⊥
true_false b t f = let both : true ≡ false = sym t ∙ f in cc

-- ---- lists

module _ {A : Type 0} (read : Data → Result A Fault) where
  pub each_ok : (R : Data → A → Type 0) → ((d : Data) (x : A) → read d ≡ Ok x → R d x)
      → (ds : List Data) (xs : List A) → each read ds ≡ Ok xs → AllZip R ds xs
  each_ok R one [] xs h = subst (AllZip R []) (ok_same [] xs h) tt
  each_ok R one (d ∷ ds) xs h =
      let step = bind_ok (read d) (λ x. with_front (x ∷ []) (each read ds)) xs h in
      let rest = bind_ok (each read ds) (λ ys. Ok (step.0 ∷ [] ++ ys)) xs step.2 in
      subst (AllZip R (d ∷ ds)) (ok_same (step.0 ∷ rest.0) xs rest.2) (one d step.0 step.1, each_ok R one ds rest.0 rest.1)

  pub each_err : (ds : List Data) (f : Fault) → each read ds ≡ Err f → (d : Data) × Contains ds d × (read d ≡ Err f)
  each_err [] f h = cc
  each_err (d ∷ ds) f h =
      elim (bind_err (read d) (λ x. with_front (x ∷ []) (each read ds)) f h) [
        | inl bad ↦ (d, contains_head d ds, bad)
        | inr step ↦ elim (bind_err (each read ds) (λ ys. Ok (step.0 ∷ [] ++ ys)) f step.2) [
          | inl bad ↦ (let at = each_err ds f bad in (at.0, contains_tail d ds at.0 at.1, at.2))
          | inr rest ↦ absurd (not_ok (step.0 ∷ [] ++ rest.0) f rest.2)
        ]
      ]

pub is_nil : {A : Type 0} (xs : List A) → is_empty xs ≡ true → xs ≡ []
is_nil [] h = refl
is_nil (x ∷ xs) h = absurd (omega (arith, eqb-true (length (x ∷ xs)) 0 h))

-- ---- members

pub needed_ok : {A : Type 0} (f : Fault) (m : Member A) (x : A) → needed f m ≡ Ok x → m ≡ holds x
needed_ok f missing x h = cc
needed_ok f other_type x h = cc
needed_ok f (holds y) x h = cc

pub needed_err : {A : Type 0} (f e : Fault) (m : Member A) → needed f m ≡ Err e → ((m ≡ missing) × (f ≡ e))
    ⊎ ((m ≡ other_type) × (wrong_type ≡ e))
needed_err f e missing h = inl (refl, cc)
needed_err f e other_type h = inr (refl, cc)
needed_err f e (holds y) h = cc

pub needed_breaks : {A : Type 0} (m : Member A) (e : Fault) → needed missing_key m ≡ Err e → NeededBreaks m e
needed_breaks m e h =
    elim (needed_err missing_key e m h) [
      | inl at ↦ subst (NeededBreaks m) at.1 (is_missing at.0)
      | inr at ↦ subst (NeededBreaks m) at.1 (is_other at.0)
    ]

pub needed_unbroken : {A : Type 0} (m : Member A) (x : A) (f : Fault) → m ≡ holds x → NeededBreaks m f → ⊥
needed_unbroken m x _ is (is_missing at) = let both : holds x ≡ missing = sym is ∙ at in cc
needed_unbroken m x _ is (is_other at) = let both : holds x ≡ other_type = sym is ∙ at in cc

-- ---- objects

by_test : (d o : Data) (b : Bool) → typed (cond b (Some d) None) ≡ Ok o → IsSome (cond b (Some d) None) × (d ≡ o)
by_test d o true h = (search rules, cc)
by_test d o false h = cc

pub object_is : (d o : Data) → typed (object d) ≡ Ok o → IsSome (object d) × (d ≡ o)
object_is d o h = by_test d o (is_some (as_object d)) h

pub object_not : (d : Data) (e : Fault) → typed (object d) ≡ Err e → (object d ≡ None) × (wrong_type ≡ e)
object_not d e h = ok_or_err (object d) wrong_type e h

pub is_some_not_none : {A : Type 0} (o : Option A) → IsSome o → o ≡ None → ⊥
is_some_not_none None h e = cc
is_some_not_none (Some x) h e = cc
