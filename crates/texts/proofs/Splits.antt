-- What std's splits of a text give.
use Rattle.std.proofs.Common.{◌≡◌, ◌≢◌, ℕ, suc, ◌<◌, Bool, true, false, cond, List, [], ◌∷◌, ◌++◌, length, get_or, refl, ap, sym}
use Rattle.std.proofs.Common.{◌∙◌, subst, arith}
use Rattle.std.specs.Prelude.{◌==◌, Option, Some, None, MatchOption}
use Rattle.std.specs.Option.{option_map}
use Rattle.std.specs.List.{AllByRecursion}
use denote.Ref.{Bor}
use Rattle.std.proofs.lemmas.Bool.{eqb-false, eqb-true, ne_eqb, eq-eqb}
use Rattle.std.proofs.lemmas.Str.Pattern.{IsSplitOnceResult, split_parts}
use Rattle.texts.specs.Splits.{split_at, behind}

-- no byte of a text is this one
abbrev pub Lacks : ℕ → List ℕ → Type 0
Lacks c bs = AllByRecursion (λ b. b ≢ c) bs

lacks_from_each : (c : ℕ) (bs : List ℕ) → ((i : ℕ) → i < length bs → get_or bs i 0 ≢ c) → Lacks c bs
lacks_from_each c [] h = tt
lacks_from_each c (b ∷ bs) h = (h 0 (omega arith), lacks_from_each c bs (λ i l. h (suc i) (omega arith)))

pub lacks_append : (c : ℕ) (xs ys : List ℕ) → Lacks c xs → Lacks c ys → Lacks c (xs ++ ys)
lacks_append c [] ys h k = k
lacks_append c (x ∷ xs) ys h k = (h.0, lacks_append c xs ys h.1 k)

-- a text without the byte is not split
pub split_at_none : (c : ℕ) (bs : List ℕ) → Lacks c bs → split_at c bs ≡ None
split_at_none c [] h = refl
split_at_none c (b ∷ bs) h =
    let other : (b == c) ≡ false = ne_eqb b c h.0 in
    rw (other, split_at_none c bs h.1) refl

-- else it is split at the first
pub split_at_first : (c : ℕ) (xs ys : List ℕ) → Lacks c xs → split_at c (xs ++ c ∷ ys) ≡ Some (xs, ys)
split_at_first c [] ys h = let same : (c == c) ≡ true = eq-eqb c c refl in rw same refl
split_at_first c (b ∷ xs) ys h =
    let other : (b == c) ≡ false = ne_eqb b c h.0 in
    rw (other, split_at_first c xs ys h.1) refl

pub split_at_sound : (c : ℕ) (bs : List ℕ) (parts : List ℕ × List ℕ) → split_at c bs ≡ Some parts
    → (bs ≡ parts.0 ++ c ∷ parts.1) × Lacks c parts.0
split_at_sound c [] parts h = absurd (cc)
split_at_sound c (b ∷ bs) parts h = by_test (b == c) refl (split_at c bs) (split_at_sound c bs) h where
  Parted : List ℕ × List ℕ → Type 0
  Parted p = (b ∷ bs ≡ p.0 ++ c ∷ p.1) × Lacks c p.0

  by_test : (t : Bool) → (b == c) ≡ t → (o : Option (List ℕ × List ℕ))
      → ((q : List ℕ × List ℕ) → o ≡ Some q → (bs ≡ q.0 ++ c ∷ q.1) × Lacks c q.0)
      → cond {A = Option (List ℕ × List ℕ)} t (Some ([], bs)) (option_map (λ (p : List ℕ × List ℕ). (b ∷ p.0, p.1)) o) ≡ Some parts
      → Parted parts
  by_test true e o ih g =
      let same : ([], bs) ≡ parts = cc in
      subst Parted same (ap (λ x. x ∷ bs) (eqb-true b c e), tt)
  by_test false e None ih g = absurd (cc)
  by_test false e (Some q) ih g =
      let same : (b ∷ q.0, q.1) ≡ parts = cc in
      subst Parted same (ap (λ t. b ∷ t) (ih q refl).0, (eqb-false b c e, (ih q refl).1))

pub split_at_lacks : (c : ℕ) (bs : List ℕ) → split_at c bs ≡ None → Lacks c bs
split_at_lacks c [] h = tt
split_at_lacks c (b ∷ bs) h = by_test (b == c) refl (split_at c bs) (split_at_lacks c bs) h where
  by_test : (t : Bool) → (b == c) ≡ t → (o : Option (List ℕ × List ℕ)) → (o ≡ None → Lacks c bs)
      → cond {A = Option (List ℕ × List ℕ)} t (Some ([], bs)) (option_map (λ (p : List ℕ × List ℕ). (b ∷ p.0, p.1)) o) ≡ None
      → (b ≢ c) × Lacks c bs
  by_test true e o ih g = absurd (cc)
  by_test false e None ih g = (eqb-false b c e, ih refl)
  by_test false e (Some q) ih g = absurd (cc)

pub split_is : (c : ℕ) (bs : List ℕ) (r : Option (Bor (List ℕ) × Bor (List ℕ))) → IsSplitOnceResult c bs r → c < 128
    → option_map (λ parts. (parts.0.now, parts.1.now)) r ≡ split_at c bs
split_is c bs r h small = by_case r (split_parts c bs r h small) where
  by_case : (o : Option (Bor (List ℕ) × Bor (List ℕ)))
      → MatchOption o ((i : ℕ) → i < length bs → get_or bs i 0 ≢ c)
      (λ x. (bs ≡ x.0.now ++ (c ∷ x.1.now)) × ((i : ℕ) → i < length x.0.now → get_or x.0.now i 0 ≢ c))
      → option_map (λ parts. (parts.0.now, parts.1.now)) o ≡ split_at c bs
  by_case None k = sym (split_at_none c bs (lacks_from_each c bs k))
  by_case (Some x) k = sym (ap (split_at c) k.0 ∙ split_at_first c x.0.now x.1.now (lacks_from_each c x.0.now k.1))

-- a text that does not begin with the byte has nothing behind it
pub behind_none : (c : ℕ) (text : List ℕ) → ((rest : List ℕ) → text ≢ c ∷ rest) → behind (c ∷ []) text ≡ None
behind_none c [] h = refl
behind_none c (b ∷ text) h =
    let other : (b == c) ≡ false = ne_eqb b c (λ e. h text (ap (λ x. x ∷ text) e)) in
    rw other refl

-- the same of a front of more bytes
pub behind_absent : (front text : List ℕ) → ((rest : List ℕ) → text ≢ front ++ rest) → behind front text ≡ None
behind_absent [] text h = absurd (h text refl)
behind_absent (c ∷ front) [] h = refl
behind_absent (c ∷ front) (b ∷ text) h = by_test (b == c) refl (behind_absent front text) where
  by_test : (t : Bool) → (b == c) ≡ t → (((rest : List ℕ) → text ≢ front ++ rest) → behind front text ≡ None)
      → cond t (behind front text) None ≡ None
  by_test true e shorter = shorter (λ rest more. h rest (λ i. eqb-true b c e i ∷ more i))
  by_test false e shorter = refl

pub behind_sound : (front text rest : List ℕ) → behind front text ≡ Some rest → text ≡ front ++ rest
behind_sound [] text rest h = cc
behind_sound (c ∷ front) [] rest h = absurd (cc)
behind_sound (c ∷ front) (b ∷ text) rest h = by_test (b == c) refl (behind_sound front text rest) h where
  by_test : (t : Bool) → (b == c) ≡ t → (behind front text ≡ Some rest → text ≡ front ++ rest)
      → cond t (behind front text) None ≡ Some rest → b ∷ text ≡ c ∷ (front ++ rest)
  by_test true e ih g = let same : b ≡ c = eqb-true b c e in let more = ih g in cc
  by_test false e ih g = absurd (cc)
