-- What a list contains, and what lists made of it contain.
use Rattle.std.proofs.Common.{◌≡◌, ◌≢◌, ℕ, zero, suc, ◌<◌, List, [], ◌∷◌, length, map, get_or, Option, Some, None, Bool, true, false}
use Rattle.std.proofs.Common.{◌||◌, ◌≤◌}
use Rattle.std.proofs.Common.{drop, Bor, ◌⊎◌, inl, inr, refl, sym, ◌∙◌, ap, subst, arith}
use Rattle.std.specs.List.{AllZip, Contains, flat_map, filter_map, cons_option, slice_get, list_any}
use Rattle.std.specs.Str.{bytes_eq}
use Rattle.std.proofs.lemmas.Bool.{cases_Bool}
use Rattle.std.proofs.lemmas.Slice.Eq.{bytes_eq-Decides}
use Rattle.std.proofs.lemmas.List.Folds.{Any-from_list_any, list_any_at}
use Rattle.std.proofs.lemmas.Option.{same_Some}
use Rattle.std.proofs.lemmas.List.Elements.{Contains-append_left, Contains-append_right, Contains-append_cases}

module _ {A : Type 0} where
  pub contains_nil : (y : A) → Contains [] y → ⊥
  contains_nil y h = let no = h.1 in absurd (omega (arith, no))

  pub contains_head : (x : A) (xs : List A) → Contains (x ∷ xs) x
  contains_head x xs = (0, omega arith, refl)

  pub contains_tail : (x : A) (xs : List A) (y : A) → Contains xs y → Contains (x ∷ xs) y
  contains_tail x xs y h = Contains-append_right (x ∷ []) xs y h

  cases_at : (x : A) (xs : List A) (y : A) (k : ℕ) → k < length (x ∷ xs) → get_or (x ∷ xs) k y ≡ y → (x ≡ y) ⊎ Contains xs y
  cases_at x xs y zero lt is = inl is
  cases_at x xs y (suc k) lt is = inr (k, omega (arith, lt), is)

  pub contains_cases : (x : A) (xs : List A) (y : A) → Contains (x ∷ xs) y → (x ≡ y) ⊎ Contains xs y
  contains_cases x xs y h = cases_at x xs y h.0 h.1 h.2

  pub contains_at : (xs : List A) (i : ℕ) (x : A) → slice_get xs i ≡ Some x → Contains xs x
  contains_at [] i x h = cc
  contains_at (y ∷ ys) zero x h = let same : y ≡ x = cc in subst (λ z. Contains (y ∷ ys) z) same (contains_head y ys)
  contains_at (y ∷ ys) (suc i) x h = contains_tail y ys x (contains_at ys i x h)

  pub place_of : (xs : List A) (x : A) → Contains xs x → (i : ℕ) × (slice_get xs i ≡ Some x)
  place_of [] x h = absurd (contains_nil x h)
  place_of (y ∷ ys) x h =
      elim (contains_cases y ys x h) [
        | inl here ↦ (0, ap Some here)
        | inr later ↦ (let at = place_of ys x later in (suc at.0, at.1))
      ]

module _ {B : Type 0} where
  after : (zs : List B) (y : B) (o : Option B) → Contains zs y → Contains (cons_option o zs) y
  after zs y None h = h
  after zs y (Some w) h = contains_tail w zs y h

  split_option : (o : Option B) (zs : List B) (y : B) → Contains (cons_option o zs) y → (o ≡ Some y) ⊎ Contains zs y
  split_option None zs y h = inr h
  split_option (Some w) zs y h =
      elim (contains_cases w zs y h) [
        | inl here ↦ inl (ap Some here)
        | inr later ↦ inr later
      ]

module _ {A B : Type 0} where
  pub contains_map : (f : A → B) (xs : List A) (x : A) → Contains xs x → Contains (map f xs) (f x)
  contains_map f [] x h = absurd (contains_nil x h)
  contains_map f (y ∷ ys) x h =
      elim (contains_cases y ys x h) [
        | inl here ↦ subst (λ z. Contains (map f (y ∷ ys)) (f z)) here (contains_head (f y) (map f ys))
        | inr later ↦ contains_tail (f y) (map f ys) (f x) (contains_map f ys x later)
      ]

  pub contains_map_back : (f : A → B) (xs : List A) (y : B) → Contains (map f xs) y → (x : A) × Contains xs x × (f x ≡ y)
  contains_map_back f [] y h = absurd (contains_nil y h)
  contains_map_back f (x ∷ xs) y h =
      elim (contains_cases (f x) (map f xs) y h) [
        | inl here ↦ (x, contains_head x xs, here)
        | inr later ↦ (let at = contains_map_back f xs y later in (at.0, contains_tail x xs at.0 at.1, at.2))
      ]

  pub contains_flat : (f : A → List B) (xs : List A) (x : A) (y : B) → Contains xs x → Contains (f x) y → Contains (flat_map f xs) y
  contains_flat f [] x y h at = absurd (contains_nil x h)
  contains_flat f (z ∷ zs) x y h at =
      elim (contains_cases z zs x h) [
        | inl here ↦ Contains-append_left (f z) (flat_map f zs) y (subst (λ w. Contains (f w) y) (sym here) at)
        | inr later ↦ Contains-append_right (f z) (flat_map f zs) y (contains_flat f zs x y later at)
      ]

  pub contains_flat_back : (f : A → List B) (xs : List A) (y : B) → Contains (flat_map f xs) y → (x : A) × Contains xs x × Contains (f x) y
  contains_flat_back f [] y h = absurd (contains_nil y h)
  contains_flat_back f (x ∷ xs) y h =
      elim (Contains-append_cases (f x) (flat_map f xs) y h) [
        | inl here ↦ (x, contains_head x xs, here)
        | inr later ↦ (let at = contains_flat_back f xs y later in (at.0, contains_tail x xs at.0 at.1, at.2))
      ]

  pub contains_filter_map : (f : A → Option B) (xs : List A) (x : A) (y : B) → Contains xs x → f x ≡ Some y → Contains (filter_map f xs) y
  contains_filter_map f [] x y h is = absurd (contains_nil x h)
  contains_filter_map f (z ∷ zs) x y h is =
      elim (contains_cases z zs x h) [
        | inl here ↦ (let at : f z ≡ Some y = ap f here ∙ is in rw at (contains_head y (filter_map f zs)))
        | inr later ↦ after (filter_map f zs) y (f z) (contains_filter_map f zs x y later is)
      ]

  pub contains_filter_map_back : (f : A → Option B) (xs : List A) (y : B) → Contains (filter_map f xs) y → (x : A) × Contains xs x
      × (f x ≡ Some y)
  contains_filter_map_back f [] y h = absurd (contains_nil y h)
  contains_filter_map_back f (x ∷ xs) y h =
      elim (split_option (f x) (filter_map f xs) y h) [
        | inl here ↦ (x, contains_head x xs, here)
        | inr later ↦ (let at = contains_filter_map_back f xs y later in (at.0, contains_tail x xs at.0 at.1, at.2))
      ]

-- ---- lists, place by place

module _ {A B : Type 0} where
  -- what is related to a member
  pub related : (R : A → B → Type 0) (xs : List A) (ys : List B) (x : A) → AllZip R xs ys → Contains xs x → (y : B) × R x y
  related R [] ys x p h = absurd (contains_nil x h)
  related R (a ∷ xs) [] x p h = absurd p
  related R (a ∷ xs) (y ∷ ys) x p h =
      elim (contains_cases a xs x h) [
        | inl here ↦ (y, subst (λ z. R z y) here p.0)
        | inr later ↦ related R xs ys x p.1 later
      ]

  pub related_at : (R : A → B → Type 0) (xs : List A) (ys : List B) (i : ℕ) (x : A) → AllZip R xs ys → slice_get xs i ≡ Some x → (y : B)
      × (slice_get ys i ≡ Some y) × R x y
  related_at R [] ys i x p h = cc
  related_at R (a ∷ xs) [] i x p h = absurd p
  related_at R (a ∷ xs) (y ∷ ys) zero x p h = (y, refl, subst (λ z. R z y) (same_Some a x h) p.0)
  related_at R (a ∷ xs) (y ∷ ys) (suc i) x p h = related_at R xs ys i x p.1 h

  -- one list is related, where one thing is related to each member
  pub one_related : (R : A → B → Type 0) → ((x : A) (y z : B) → R x y → R x z → y ≡ z) → (xs : List A) (ys zs : List B) → AllZip R xs ys
      → AllZip R xs zs → ys ≡ zs
  one_related R one [] [] [] p q = refl
  one_related R one [] [] (z ∷ zs) p q = absurd q
  one_related R one [] (y ∷ ys) zs p q = absurd p
  one_related R one (x ∷ xs) [] zs p q = absurd p
  one_related R one (x ∷ xs) (y ∷ ys) [] p q = absurd q
  one_related R one (x ∷ xs) (y ∷ ys) (z ∷ zs) p q =
      let head : y ≡ z = one x y z p.0 q.0 in
      let tail : ys ≡ zs = one_related R one xs ys zs p.1 q.1 in
      cc

-- ---- texts

pub is_other : (a b : List ℕ) → b ≢ a → bytes_eq a b ≡ false
is_other a b h =
    elim (cases_Bool (bytes_eq a b)) [
      | inl same ↦ absurd (h (sym ((bytes_eq-Decides a b).0 same)))
      | inr other ↦ other
    ]

pub named : (names : List (List ℕ)) (name : List ℕ) → list_any (λ n. bytes_eq n name) names ≡ true → Contains names name
named names name h =
    let at = Any-from_list_any (λ n. bytes_eq n name) names h in
    subst (Contains names) ((bytes_eq-Decides at.1 name).0 at.4) (at.0, at.2, at.3)

pub named_back : (names : List (List ℕ)) (name : List ℕ) → Contains names name → list_any (λ n. bytes_eq n name) names ≡ true
named_back names name h = list_any_at (λ n. bytes_eq n name) names h.0 name h.1 ((bytes_eq-Decides (get_or names h.0 name) name).1 h.2)

-- the texts behind references
any_now : (ns : List (Bor (List ℕ))) (name : List ℕ)
    → list_any (λ n. bytes_eq n.now name) ns ≡ list_any (λ n. bytes_eq n name) (map (λ n. n.now) ns)
any_now [] name = refl
any_now (n ∷ ns) name = ap (λ b. bytes_eq n.now name || b) (any_now ns name)

pub has_names : (ns names : List (Bor (List ℕ))) (name : List ℕ) (b : Bool) → ns ≡ names → b ≡ list_any (λ n. bytes_eq n.now name) ns
    → (b ≡ true → Contains (map (λ n. n.now) names) name) × (Contains (map (λ n. n.now) names) name → b ≡ true)
has_names ns names name b same is =
    let all : b ≡ list_any (λ n. bytes_eq n name) (map (λ n. n.now) names) = is ∙ any_now ns name
    ∙ ap (λ xs. list_any (λ n. bytes_eq n name) (map (λ n. n.now) xs)) same in
    (λ t. named (map (λ n. n.now) names) name (sym all ∙ t), λ h. all ∙ named_back (map (λ n. n.now) names) name h)

now_here : (ns : List (Bor (List ℕ))) (i : ℕ) (d : Bor (List ℕ)) → i < length ns → Contains (map (λ n. n.now) ns) (get_or ns i d).now
now_here [] i d lt = absurd (omega (arith, lt))
now_here (n ∷ ns) zero d lt = contains_head n.now (map (λ m. m.now) ns)
now_here (n ∷ ns) (suc i) d lt = contains_tail n.now (map (λ m. m.now) ns) (get_or ns i d).now (now_here ns i d (omega (arith, lt)))

pub now_at : (ns names : List (Bor (List ℕ))) (i : ℕ) (d : Bor (List ℕ)) → ns ≡ names → i < length ns
    → Contains (map (λ n. n.now) names) (get_or ns i d).now
now_at ns names i d same lt = subst (λ ms. Contains (map (λ m. m.now) ms) (get_or ns i d).now) same (now_here ns i d lt)

pub now_split : (ns : List (Bor (List ℕ))) (i : ℕ) (d : Bor (List ℕ)) (name : List ℕ) → Contains (map (λ n. n.now) (drop i ns)) name
    → ((get_or ns i d).now ≡ name) ⊎ Contains (map (λ n. n.now) (drop (suc i) ns)) name
now_split [] zero d name h = absurd (contains_nil name h)
now_split [] (suc i) d name h = absurd (contains_nil name h)
now_split (n ∷ ns) zero d name h = contains_cases n.now (map (λ m. m.now) ns) name h
now_split (n ∷ ns) (suc i) d name h = now_split ns i d name h

pub now_none : (ns : List (Bor (List ℕ))) (i : ℕ) (name : List ℕ) → length ns ≤ i → Contains (map (λ n. n.now) (drop i ns)) name → ⊥
now_none [] zero name all h = contains_nil name h
now_none [] (suc i) name all h = contains_nil name h
now_none (n ∷ ns) zero name all h = omega (arith, all)
now_none (n ∷ ns) (suc i) name all h = now_none ns i name (omega (arith, all)) h
