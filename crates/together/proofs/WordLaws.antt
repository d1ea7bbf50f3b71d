-- What counts of several verdicts, one after the other.
use Rattle.std.proofs.Common.{◌≡◌, ℕ, ◌<◌, ◌≤◌, Bool, true, false, cond, List, [], ◌∷◌, ◌++◌, Some, inl, inr, reverse, refl, sym, ◌∙◌, ap, arith}
use Rattle.std.specs.Prelude.{◌&&◌, not, find, unwrap_or, nat_lt}
use Rattle.std.specs.List.{list_all}
use Rattle.std.proofs.lemmas.Bool.{both_ways, cases_Bool, cases_lt, le-ltb, lt-ltb}
use Rattle.std.proofs.lemmas.Bool.Decides.{nat_tests}
use Rattle.std.proofs.lemmas.List.{reverse-append}
use Rattle.call_record.specs.Verdict.{kill_process, strictest_of}
use Rattle.call_record.proofs.StrictestLemmas.{is_stricter-rank, rank, strictest_of-cons}
use Rattle.together.specs.Word.{is_laxest, laxest_of, word_of}
use Rattle.together.specs.declared.way.Way.{Way}
use Rattle.together.specs.declared.way.Way.TheVariants.{Laxest, Strictest}

-- ---- the laxest, by ranks

abbrev two : ℕ → ℕ → List ℕ
two x k = x ∷ k ∷ []

-- no verdict of the list is above
abbrev is_top : List ℕ → ℕ → Bool
is_top ws v = list_all (λ w. not (nat_lt (rank v) (rank w))) ws

top_is : (ws : List ℕ) (v : ℕ) → is_laxest ws v ≡ is_top ws v
top_is [] v = refl
top_is (w ∷ ws) v =
    ap (λ b. not b && is_laxest ws v) (is_stricter-rank v w) ∙ ap (λ b. not (nat_lt (rank v) (rank w)) && b) (top_is ws v)

find_same : (p q : ℕ → Bool) → ((v : ℕ) → p v ≡ q v) → (ws : List ℕ) → find p ws ≡ find q ws
find_same p q same [] = refl
find_same p q same (w ∷ ws) =
    ap (λ b. cond b (Some w) (find p ws)) (same w) ∙ ap (λ o. cond (q w) (Some w) o) (find_same p q same ws)

-- the laxer one, the first of equals
abbrev laxer : ℕ → ℕ → ℕ
laxer v w = cond (nat_lt (rank v) (rank w)) w v

-- the laxest one of a verdict and a list
laxest_from : ℕ → List ℕ → ℕ
laxest_from v [] = v
laxest_from v (w ∷ ws) = laxest_from (laxer v w) ws

laxest_more : (v : ℕ) (ws : List ℕ) (w : ℕ) → laxest_from v (ws ++ w ∷ []) ≡ laxer (laxest_from v ws) w
unfolding laxest_from
laxest_more v [] w = refl
laxest_more v (x ∷ ws) w = laxest_more (laxer v x) ws w

both_below : (x v w : ℕ) (b : Bool) → (not (nat_lt x v) && (not (nat_lt x w) && b)) ≡ (not (nat_lt x (cond (nat_lt v w) w v)) && b)
both_below x v w true = grind (arith, nat_tests)
both_below x v w false = grind (arith, nat_tests)

rank_laxer : (v w : ℕ) → rank (laxer v w) ≡ cond (nat_lt (rank v) (rank w)) (rank w) (rank v)
rank_laxer v w = elim (cases_Bool (nat_lt (rank v) (rank w))) [
  | inl up ↦ rw up refl
  | inr down ↦ rw down refl
]

-- the same are on top, where the laxer one is in the place of two
top_laxer : (v w : ℕ) (ws : List ℕ) (x : ℕ) → is_top (v ∷ w ∷ ws) x ≡ is_top (laxer v w ∷ ws) x
top_laxer v w ws x =
    both_below (rank x) (rank v) (rank w) (is_top ws x)
    ∙ ap (λ r. not (nat_lt (rank x) r) && is_top ws x) (sym (rank_laxer v w))

and_false : (c : Bool) → (c && false) ≡ false
and_false true = refl
and_false false = refl

-- below one that is not on top nothing is
top_lower : (ws : List ℕ) (v w : ℕ) → rank w ≤ rank v → is_top ws v ≡ false → is_top ws w ≡ false
top_lower [] v w le h = absurd (both_ways true h refl)
top_lower (x ∷ ws) v w le h = elim (cases_lt (rank v) (rank x)) [
  | inl above ↦ ap (λ b. not b && is_top ws w) (lt-ltb (rank w) (rank x) (let e : rank w < rank x = omega arith in e))
  | inr down ↦
      let rest : is_top ws v ≡ false = sym (ap (λ b. not b && is_top ws v) (le-ltb (rank v) (rank x) down)) ∙ h in
      ap (λ b. not (nat_lt (rank w) (rank x)) && b) (top_lower ws v w le rest) ∙ and_false (not (nat_lt (rank w) (rank x)))
]

find_here : (p : ℕ → Bool) (x : ℕ) (xs : List ℕ) → p x ≡ true → find p (x ∷ xs) ≡ Some x
find_here p x xs h = ap (λ b. cond b (Some x) (find p xs)) h

find_past : (p : ℕ → Bool) (x : ℕ) (xs : List ℕ) → p x ≡ false → find p (x ∷ xs) ≡ find p xs
find_past p x xs h = ap (λ b. cond b (Some x) (find p xs)) h

-- the first on top of two and a list, where that is the laxer one of the two and the list
first_of_two : (v w : ℕ) (ws : List ℕ) → (p : ℕ → Bool) → ((x : ℕ) → p x ≡ is_top (laxer v w ∷ ws) x)
    → find p (v ∷ w ∷ ws) ≡ find p (laxer v w ∷ ws)
first_of_two v w ws p is = elim (cases_lt (rank v) (rank w)) [
  | inl up ↦
      let bit : nat_lt (rank v) (rank w) ≡ true = lt-ltb (rank v) (rank w) up in
      let same : laxer v w ≡ w = ap (λ b. cond b w v) bit in
      let none : p v ≡ false = is v ∙ ap (λ u. not (nat_lt (rank v) (rank u)) && is_top ws v) same ∙ ap (λ b. not b && is_top ws v) bit in
      find_past p v (w ∷ ws) none ∙ ap (λ u. find p (u ∷ ws)) (sym same)
  | inr down ↦
      let bit : nat_lt (rank v) (rank w) ≡ false = le-ltb (rank v) (rank w) down in
      let same : laxer v w ≡ v = ap (λ b. cond b w v) bit in
      let v_is : p v ≡ is_top ws v =
      is v ∙ ap (λ u. not (nat_lt (rank v) (rank u)) && is_top ws v) same
      ∙ ap (λ b. not b && is_top ws v) (le-ltb (rank v) (rank v) (let e : rank v ≤ rank v = omega arith in e)) in
      let here : find p (v ∷ w ∷ ws) ≡ find p (v ∷ ws) =
      elim (cases_Bool (p v)) [
        | inl hit ↦ find_here p v (w ∷ ws) hit ∙ sym (find_here p v ws hit)
        | inr miss ↦
            let none : is_top ws w ≡ false = top_lower ws v w down (sym v_is ∙ miss) in
            let past : p w ≡ false =
            is w ∙ ap (λ b. not (nat_lt (rank w) (rank (laxer v w))) && b) none ∙ and_false (not (nat_lt (rank w) (rank (laxer v w)))) in
            find_past p v (w ∷ ws) miss ∙ find_past p w ws past ∙ sym (find_past p v ws miss)
      ] in
      here ∙ ap (λ u. find p (u ∷ ws)) (sym same)
]

tops : (v : ℕ) (ws : List ℕ) (p : ℕ → Bool) → ((x : ℕ) → p x ≡ is_top (v ∷ ws) x) → find p (v ∷ ws) ≡ Some (laxest_from v ws)
unfolding laxest_from
tops v [] p is =
    find_here p v [] (is v ∙ ap (λ b. not b && true) (le-ltb (rank v) (rank v) (let e : rank v ≤ rank v = omega arith in e)))
tops v (w ∷ ws) p is =
    first_of_two v w ws p (λ x. is x ∙ top_laxer v w ws x) ∙ tops (laxer v w) ws p (λ x. is x ∙ top_laxer v w ws x)

laxest_is : (v : ℕ) (ws : List ℕ) → laxest_of (v ∷ ws) ≡ laxest_from v ws
laxest_is v ws = ap (λ o. unwrap_or o kill_process) (tops v ws (is_laxest (v ∷ ws)) (λ x. top_is (v ∷ ws) x))

one_more : (u w : ℕ) → laxest_of (two u w) ≡ laxer u w
unfolding laxest_from
one_more u w = laxest_is u (w ∷ [])

laxest_of_more : (v : ℕ) (ws : List ℕ) (w : ℕ) → laxest_of (v ∷ (ws ++ w ∷ [])) ≡ laxest_of (two (laxest_of (v ∷ ws)) w)
laxest_of_more v ws w =
    laxest_is v (ws ++ w ∷ []) ∙ laxest_more v ws w ∙ ap (λ u. laxer u w) (sym (laxest_is v ws)) ∙ sym (one_more (laxest_of (v ∷ ws)) w)

strictest_of_more : (ws : List ℕ) (w : ℕ) → strictest_of (reverse (ws ++ w ∷ [])) ≡ strictest_of (w ∷ strictest_of (reverse ws) ∷ [])
strictest_of_more ws w = ap strictest_of (reverse-append ws (w ∷ [])) ∙ strictest_of-cons w (reverse ws)

-- what counts of some and of one more
pub word_more : (way : Way) (v : ℕ) (ws : List ℕ) (w : ℕ)
    → word_of way (v ∷ (ws ++ w ∷ [])) ≡ word_of way (word_of way (v ∷ ws) ∷ w ∷ [])
word_more Laxest v ws w = laxest_of_more v ws w
word_more Strictest v ws w = strictest_of_more (v ∷ ws) w
