-- What stands ahead of an end.
use Rattle.std.proofs.Common.{◌≡◌, ◌≢◌, ℕ, Bool, true, false, cond, List, [], ◌∷◌, ◌++◌, refl, ap, subst}
use Rattle.std.specs.Prelude.{◌==◌, Option, Some, None}
use Rattle.std.specs.Option.{option_map}
use Rattle.std.proofs.lemmas.Bool.{eqb-true, ne_eqb, eq-eqb}
use Rattle.bpf_asm.specs.inner.Reading.{ahead_of}

pub ahead_of-push : (c : ℕ) (front : List ℕ) → ahead_of c (front ++ c ∷ []) ≡ Some front
ahead_of-push c [] = let same : (c == c) ≡ true = eq-eqb c c refl in rw same refl
ahead_of-push c (b ∷ []) = let same : (c == c) ≡ true = eq-eqb c c refl in rw same refl
ahead_of-push c (b ∷ d ∷ front) = ap (option_map (λ (f : List ℕ). b ∷ f)) (ahead_of-push c (d ∷ front))

pub ahead_of_none : (c : ℕ) (text : List ℕ) → ((front : List ℕ) → text ≢ front ++ c ∷ []) → ahead_of c text ≡ None
ahead_of_none c [] h = refl
ahead_of_none c (b ∷ []) h =
    let other : (b == c) ≡ false = ne_eqb b c (λ e. h [] (ap (λ x. x ∷ []) e)) in
    rw other refl
ahead_of_none c (b ∷ d ∷ text) h =
    ap (option_map (λ (f : List ℕ). b ∷ f)) (ahead_of_none c (d ∷ text) (λ front e. h (b ∷ front) (ap (λ t. b ∷ t) e)))

pub ahead_of_sound : (c : ℕ) (text front : List ℕ) → ahead_of c text ≡ Some front → text ≡ front ++ c ∷ []
ahead_of_sound c [] front h = absurd (cc)
ahead_of_sound c (b ∷ []) front h = by_test (b == c) refl h where
  by_test : (t : Bool) → (b == c) ≡ t → cond t (Some []) None ≡ Some front → b ∷ [] ≡ front ++ c ∷ []
  by_test true e g =
      let none : [] ≡ front = cc in
      let P : List ℕ → Type 0 = λ f. b ∷ [] ≡ f ++ c ∷ [] in
      subst P none (ap (λ x. x ∷ []) (eqb-true b c e))
  by_test false e g = absurd (cc)
ahead_of_sound c (b ∷ d ∷ text) front h = by_rest (ahead_of c (d ∷ text)) (ahead_of_sound c (d ∷ text)) h where
  by_rest : (o : Option (List ℕ)) → ((f : List ℕ) → o ≡ Some f → d ∷ text ≡ f ++ c ∷ [])
      → option_map (λ (f : List ℕ). b ∷ f) o ≡ Some front → b ∷ d ∷ text ≡ front ++ c ∷ []
  by_rest None ih g = absurd (cc)
  by_rest (Some f) ih g =
      let more : b ∷ f ≡ front = cc in
      let P : List ℕ → Type 0 = λ t. b ∷ d ∷ text ≡ t ++ c ∷ [] in
      subst P more (ap (λ t. b ∷ t) (ih f refl))
