-- A text cut at a byte, and the pieces joined by it.
use Rattle.std.proofs.Common.{◌≡◌, ◌≢◌, ℕ, suc, ◌<◌, Bool, true, false, List, [], ◌∷◌, ◌++◌, length, get_or, refl, ap, sym, ◌∙◌, arith}
use Rattle.std.specs.Prelude.{◌==◌, not, Option, Some, None, MatchOption}
use Rattle.std.specs.List.{join_with_byte, list_all, onto_first, slice_split}
use denote.Ref.{Bor}
use Rattle.std.proofs.lemmas.Bool.{and_parts, ne_eqb, eq-eqb}
use Rattle.std.proofs.lemmas.List.{append-nil}
use Rattle.std.proofs.lemmas.List.Splits.{slice_split-cons_no, slice_split-cons_yes}
use Rattle.std.proofs.lemmas.Str.Pattern.{IsSplitOnceResult, split_parts}
use Rattle.script.specs.Grammar.{lacks}

abbrev pub cut : ℕ → List ℕ → List (List ℕ)
cut c text = slice_split (λ b. b == c) text

other_byte : (t : Bool) → not t ≡ true → t ≡ false
other_byte true h = cc
other_byte false h = refl

-- bytes that are not the separator join the first piece
cut-append : (c : ℕ) (xs ys first : List ℕ) (more : List (List ℕ)) → lacks c xs ≡ true → cut c ys ≡ first ∷ more
    → cut c (xs ++ ys) ≡ (xs ++ first) ∷ more
cut-append c [] ys first more h e = e
cut-append c (x ∷ xs) ys first more h e =
    let parts = and_parts (not (x == c)) (lacks c xs) h in
    slice_split-cons_no (λ b. b == c) x (xs ++ ys) (other_byte (x == c) parts.0)
    ∙ ap (onto_first x) (cut-append c xs ys first more parts.1 e)

pub cut-none : (c : ℕ) (xs : List ℕ) → lacks c xs ≡ true → cut c xs ≡ xs ∷ []
cut-none c xs h =
    ap (cut c) (sym (append-nil xs)) ∙ cut-append c xs [] [] [] h refl ∙ ap (λ t. t ∷ []) (append-nil xs)

pub cut-at : (c : ℕ) (xs ys : List ℕ) → lacks c xs ≡ true → cut c (xs ++ c ∷ ys) ≡ xs ∷ cut c ys
cut-at c xs ys h =
    cut-append c xs (c ∷ ys) [] (cut c ys) h (slice_split-cons_yes (λ b. b == c) c ys (eq-eqb c c refl))
    ∙ ap (λ t. t ∷ cut c ys) (append-nil xs)

-- pieces without the separator, joined by it, are cut into these
pub cut-joined : (c : ℕ) (first : List ℕ) (more : List (List ℕ)) → list_all (lacks c) (first ∷ more) ≡ true
    → cut c (join_with_byte c (first ∷ more)) ≡ first ∷ more
cut-joined c first [] h = cut-none c first (and_parts (lacks c first) true h).0
cut-joined c first (next ∷ more) h =
    let parts = and_parts (lacks c first) (list_all (lacks c) (next ∷ more)) h in
    cut-at c first (join_with_byte c (next ∷ more)) parts.0 ∙ ap (λ t. first ∷ t) (cut-joined c next more parts.1)

onto_first-lacks : (c b : ℕ) (ps : List (List ℕ)) → (b == c) ≡ false → list_all (lacks c) ps ≡ true
    → list_all (lacks c) (onto_first b ps) ≡ true
onto_first-lacks c b [] other h = rw other refl
onto_first-lacks c b (p ∷ ps) other h = rw other h

-- no piece has the separator
pub pieces-lack : (c : ℕ) (bs : List ℕ) → list_all (lacks c) (cut c bs) ≡ true
pieces-lack c [] = refl
pieces-lack c (b ∷ bs) = by_test (b == c) refl (pieces-lack c bs) where
  by_test : (t : Bool) → (b == c) ≡ t → list_all (lacks c) (cut c bs) ≡ true → list_all (lacks c) (cut c (b ∷ bs)) ≡ true
  by_test true e ih = rw (slice_split-cons_yes (λ x. x == c) b bs e) ih
  by_test false e ih = rw (slice_split-cons_no (λ x. x == c) b bs e) (onto_first-lacks c b (cut c bs) e ih)

-- there is a piece at least
pub cut-some : (c : ℕ) (bs : List ℕ) → (first : List ℕ) × (more : List (List ℕ)) × (cut c bs ≡ first ∷ more)
cut-some c [] = ([], [], refl)
cut-some c (b ∷ bs) = by_test (b == c) refl (cut-some c bs) where
  by_test : (t : Bool) → (b == c) ≡ t → (first : List ℕ) × (more : List (List ℕ)) × (cut c bs ≡ first ∷ more)
      → (first : List ℕ) × (more : List (List ℕ)) × (cut c (b ∷ bs) ≡ first ∷ more)
  by_test true e (first, more, ih) = ([], cut c bs, slice_split-cons_yes (λ x. x == c) b bs e)
  by_test false e (first, more, ih) = (b ∷ first, more, slice_split-cons_no (λ x. x == c) b bs e ∙ ap (onto_first b) ih)

lacks-from_each : (c : ℕ) (bs : List ℕ) → ((i : ℕ) → i < length bs → get_or bs i 0 ≢ c) → lacks c bs ≡ true
lacks-from_each c [] h = refl
lacks-from_each c (b ∷ bs) h =
    let other : (b == c) ≡ false = ne_eqb b c (h 0 (omega arith)) in
    rw other (lacks-from_each c bs (λ i l. h (suc i) (omega arith)))

-- what a split at the first separator gives
pub cut-split : (c : ℕ) (bs : List ℕ) (r : Option (Bor (List ℕ) × Bor (List ℕ))) → IsSplitOnceResult c bs r → c < 128
    → MatchOption r (cut c bs ≡ bs ∷ []) (λ x. cut c bs ≡ x.0.now ∷ cut c x.1.now)
cut-split c bs r h small = by_case r (split_parts c bs r h small) where
  by_case : (o : Option (Bor (List ℕ) × Bor (List ℕ)))
      → MatchOption o ((i : ℕ) → i < length bs → get_or bs i 0 ≢ c)
      (λ x. (bs ≡ x.0.now ++ (c ∷ x.1.now)) × ((i : ℕ) → i < length x.0.now → get_or x.0.now i 0 ≢ c))
      → MatchOption o (cut c bs ≡ bs ∷ []) (λ x. cut c bs ≡ x.0.now ∷ cut c x.1.now)
  by_case None k = cut-none c bs (lacks-from_each c bs k)
  by_case (Some x) k = ap (cut c) k.0 ∙ cut-at c x.0.now x.1.now (lacks-from_each c x.0.now k.1)
