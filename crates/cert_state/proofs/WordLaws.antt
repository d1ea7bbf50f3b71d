-- What is said of a word is said by the literals of that word.
use Rattle.std.proofs.Common.{◌≡◌, ℕ, cond, List, [], ◌∷◌, sym, refl, ap, subst, ◌∙◌, inl, inr, ⊎_elim}
use Rattle.std.specs.Prelude.{All, Contains, bit_and, bit_or, get_or}
use Rattle.std.proofs.lemmas.Bool.{cases_eq, eq-eqb, ne_eqb}
use Rattle.std.proofs.lemmas.List.Elements.{All-cons, All-contains, All-nil, Contains-get_or}
use Rattle.cert_state.specs.declared.literal.Lit.{Lit}
use Rattle.cert_state.specs.declared.literal.Lit.TheVariants.{In, Bits, NotBits}
use Rattle.cert_state.specs.Literals.{index_of, Meets}
use Rattle.cert_state.specs.Points.{AreKnown, HasNoPoint, IsMissed, IsPoint, IsRange, IsWhole, IsWithin, datum_of, mask_of, union_of}
use Rattle.cert_state.specs.Entailment.{Differ, Entails, IsBounded, IsDeadAt, IsExcluded, IsOnePoint, IsTornAt}
use Rattle.cert_state.specs.inner.Sorted.{of_word}
use Rattle.cert_state.proofs.ListLaws.{first_or_later, contains_here, contains_later}

-- a literal of the word stays, and another one goes
pub own_first : (w : ℕ) (l : Lit) (ls : List Lit) → index_of l ≡ w → of_word w (l ∷ ls) ≡ l ∷ of_word w ls
own_first w l ls is = rw (eq-eqb (index_of l) w is) refl

pub other_first : (w : ℕ) (l : Lit) (ls : List Lit) → (index_of l ≡ w → ⊥) → of_word w (l ∷ ls) ≡ of_word w ls
other_first w l ls ne = rw (ne_eqb (index_of l) w ne) refl

-- the literals of the word are those of the list
own : (w : ℕ) (x : Lit) → index_of x ≡ w → (ls : List Lit) → Contains ls x → Contains (of_word w ls) x
own w x is [] has = has
own w x is (l ∷ ls) has = ⊎_elim
    (λ (at : index_of l ≡ w). elim (first_or_later l x ls has) [
      | inl same ↦ contains_here l _ (of_word w ls) (own_first w l ls at) x same
      | inr later ↦ contains_later l _ (of_word w ls) (own_first w l ls at) x (own w x is ls later)
    ])
    (λ (ne : index_of l ≡ w → ⊥). elim (first_or_later l x ls has) [
      | inl same ↦ absurd (ne (ap index_of same ∙ is))
      | inr later ↦ subst (λ ks. Contains ks x) (sym (other_first w l ls ne)) (own w x is ls later)
    ])
    (cases_eq (index_of l) w)

among : (w : ℕ) (x : Lit) (ls : List Lit) → Contains (of_word w ls) x → Contains ls x
among w x [] has = has
among w x (l ∷ ls) has = ⊎_elim
    (λ (at : index_of l ≡ w). elim (first_or_later l x (of_word w ls) (subst (λ ks. Contains ks x) (own_first w l ls at) has)) [
      | inl same ↦ contains_here l _ ls refl x same
      | inr later ↦ contains_later l _ ls refl x (among w x ls later)
    ])
    (λ (ne : index_of l ≡ w → ⊥).
    contains_later l _ ls refl x (among w x ls (subst (λ ks. Contains ks x) (other_first w l ls ne) has)))
    (cases_eq (index_of l) w)

-- and each of them is of the word
pub all_own : (w : ℕ) (ls : List Lit) → All (λ l. index_of l ≡ w) (of_word w ls)
all_own w [] = All-nil (λ l. index_of l ≡ w)
all_own w (l ∷ ls) = ⊎_elim
    (λ (at : index_of l ≡ w). subst (All (λ k. index_of k ≡ w)) (sym (own_first w l ls at)) (All-cons (λ k. index_of k ≡ w) l (of_word w ls) at (all_own w ls)))
    (λ (ne : index_of l ≡ w → ⊥). subst (All (λ k. index_of k ≡ w)) (sym (other_first w l ls ne)) (all_own w ls))
    (cases_eq (index_of l) w)

-- and so are the unions
union : (w : ℕ) (part : ℕ → ℕ → ℕ) (ls : List Lit) → union_of part (of_word w ls) w ≡ union_of part ls w
union w part [] = refl
union w part (In v lo hi ∷ ls) = ⊎_elim
    (λ (at : v ≡ w). rw (own_first w (In v lo hi) ls at) (union w part ls))
    (λ (ne : v ≡ w → ⊥). rw (other_first w (In v lo hi) ls ne) (union w part ls))
    (cases_eq v w)
union w part (NotBits v m d ∷ ls) = ⊎_elim
    (λ (at : v ≡ w). rw (own_first w (NotBits v m d) ls at) (union w part ls))
    (λ (ne : v ≡ w → ⊥). rw (other_first w (NotBits v m d) ls ne) (union w part ls))
    (cases_eq v w)
union w part (Bits v m d ∷ ls) = ⊎_elim
    (λ (at : v ≡ w).
    ap (λ ks. union_of part ks w) (own_first w (Bits v m d) ls at)
    ∙ ap (λ b. cond b (bit_or (part m d) (union_of part (of_word w ls) w)) (union_of part (of_word w ls) w)) (eq-eqb v w at)
    ∙ ap (bit_or (part m d)) (union w part ls)
    ∙ sym (ap (λ b. cond b (bit_or (part m d) (union_of part ls w)) (union_of part ls w)) (eq-eqb v w at)))
    (λ (ne : v ≡ w → ⊥).
    ap (λ ks. union_of part ks w) (other_first w (Bits v m d) ls ne) ∙ union w part ls
    ∙ sym (ap (λ b. cond b (bit_or (part m d) (union_of part ls w)) (union_of part ls w)) (ne_eqb v w ne)))
    (cases_eq v w)

module _ (w : ℕ) (ls : List Lit) where
  -- so are the points, and the range
  asks_all : (u : ℕ) → All (λ l. index_of l ≡ w → IsWhole l → Meets l u) (of_word w ls) → All (λ l. index_of l ≡ w → IsWhole l → Meets l u) ls
  asks_all u all = λ k d lt is whole.
      All-contains (λ l. index_of l ≡ w → IsWhole l → Meets l u) (of_word w ls) (get_or ls k d) all
      (own w (get_or ls k d) is ls (Contains-get_or ls k d lt)) is whole

  asks_own : (u : ℕ) → All (λ l. index_of l ≡ w → IsWhole l → Meets l u) ls → All (λ l. index_of l ≡ w → IsWhole l → Meets l u) (of_word w ls)
  asks_own u all = λ k d lt is whole.
      All-contains (λ l. index_of l ≡ w → IsWhole l → Meets l u) ls (get_or (of_word w ls) k d) all
      (among w (get_or (of_word w ls) k d) ls (Contains-get_or (of_word w ls) k d lt)) is whole

  pub point_of_all : (u : ℕ) → IsPoint (of_word w ls) w u → IsPoint ls w u
  point_of_all u p = (p.0, asks_all u p.1)

  pub point_of_own : (u : ℕ) → IsPoint ls w u → IsPoint (of_word w ls) w u
  point_of_own u p = (p.0, asks_own u p.1)

  pub range_of_all : (lo hi : ℕ) → IsRange (of_word w ls) w lo hi → IsRange ls w lo hi
  range_of_all lo hi r = record {
    least = point_of_all lo r.least;
    greatest = point_of_all hi r.greatest;
    between = λ u p. r.between u (point_of_own u p);
  }

  range_of_own : (lo hi : ℕ) → IsRange ls w lo hi → IsRange (of_word w ls) w lo hi
  range_of_own lo hi r = record {
    least = point_of_own lo r.least;
    greatest = point_of_own hi r.greatest;
    between = λ u p. r.between u (point_of_all u p);
  }

  pub no_point_of_all : HasNoPoint (of_word w ls) w → HasNoPoint ls w
  no_point_of_all none = λ u p. none u (point_of_own u p)

  -- what follows from the literals of the word follows from all, and the other way
  mask : mask_of (of_word w ls) w ≡ mask_of ls w
  mask = union w (λ m d. m) ls

  datum : datum_of (of_word w ls) w ≡ datum_of ls w
  datum = union w (λ m d. d) ls

  known_of_all : (m d : ℕ) → AreKnown (of_word w ls) w m d → AreKnown ls w m d
  known_of_all m d h = record {
    within = subst (λ n. IsWithin m n) mask h.within;
    datum = subst (λ n. bit_and n m ≡ d) datum h.datum;
  }

  known_of_own : (m d : ℕ) → AreKnown ls w m d → AreKnown (of_word w ls) w m d
  known_of_own m d h = record {
    within = subst (λ n. IsWithin m n) (sym mask) h.within;
    datum = subst (λ n. bit_and n m ≡ d) (sym datum) h.datum;
  }

  pub entails_of_all : (l : Lit) → index_of l ≡ w → Entails (of_word w ls) l → Entails ls l
  entails_of_all l is (inl has) = inl (among w l ls has)
  entails_of_all (In v a b) is (inr h) = inr (subst (λ x. IsBounded ls x a b) (sym is)
      (let k : IsBounded (of_word w ls) w a b = subst (λ x. IsBounded (of_word w ls) x a b) is h in
      record { lo = k.lo; hi = k.hi; range = range_of_all k.lo k.hi k.range; from = k.from; to = k.to }))
  entails_of_all (Bits v m d) is (inr (inl h)) =
      inr (inl (subst (λ x. AreKnown ls x m d) (sym is) (known_of_all m d (subst (λ x. AreKnown (of_word w ls) x m d) is h))))
  entails_of_all (Bits v m d) is (inr (inr h)) = inr (inr (subst (λ x. IsOnePoint ls x m d) (sym is)
      (let k : IsOnePoint (of_word w ls) w m d = subst (λ x. IsOnePoint (of_word w ls) x m d) is h in
      record { point = k.point; range = range_of_all k.point k.point k.range; datum = k.datum })))
  entails_of_all (NotBits v m d) is (inr (inl h)) = inr (inl (subst (λ x. Differ (mask_of ls x) (datum_of ls x) m d) (sym is)
      (subst (λ x. Differ x (datum_of ls w) m d) mask (subst (λ x. Differ (mask_of (of_word w ls) w) x m d) datum
      (subst (λ x. Differ (mask_of (of_word w ls) x) (datum_of (of_word w ls) x) m d) is h)))))
  entails_of_all (NotBits v m d) is (inr (inr (inl h))) = inr (inr (inl (record {
    mask = h.mask;
    datum = h.datum;
    stated = among w (NotBits v h.mask h.datum) ls h.stated;
    within = h.within;
    same = h.same;
  })))
  entails_of_all (NotBits v m d) is (inr (inr (inr h))) = inr (inr (inr (subst (λ x. IsMissed ls x m d) (sym is)
      (let k : IsMissed (of_word w ls) w m d = subst (λ x. IsMissed (of_word w ls) x m d) is h in
      record { lo = k.lo; hi = k.hi; range = range_of_all k.lo k.hi k.range; missed = k.missed }))))

  pub entails_of_own : (l : Lit) → index_of l ≡ w → Entails ls l → Entails (of_word w ls) l
  entails_of_own l is (inl has) = inl (own w l is ls has)
  entails_of_own (In v a b) is (inr h) = inr (subst (λ x. IsBounded (of_word w ls) x a b) (sym is)
      (let k : IsBounded ls w a b = subst (λ x. IsBounded ls x a b) is h in
      record { lo = k.lo; hi = k.hi; range = range_of_own k.lo k.hi k.range; from = k.from; to = k.to }))
  entails_of_own (Bits v m d) is (inr (inl h)) =
      inr (inl (subst (λ x. AreKnown (of_word w ls) x m d) (sym is) (known_of_own m d (subst (λ x. AreKnown ls x m d) is h))))
  entails_of_own (Bits v m d) is (inr (inr h)) = inr (inr (subst (λ x. IsOnePoint (of_word w ls) x m d) (sym is)
      (let k : IsOnePoint ls w m d = subst (λ x. IsOnePoint ls x m d) is h in
      record { point = k.point; range = range_of_own k.point k.point k.range; datum = k.datum })))
  entails_of_own (NotBits v m d) is (inr (inl h)) =
      inr (inl (subst (λ x. Differ (mask_of (of_word w ls) x) (datum_of (of_word w ls) x) m d) (sym is)
      (subst (λ x. Differ x (datum_of (of_word w ls) w) m d) (sym mask) (subst (λ x. Differ (mask_of ls w) x m d) (sym datum)
      (subst (λ x. Differ (mask_of ls x) (datum_of ls x) m d) is h)))))
  entails_of_own (NotBits v m d) is (inr (inr (inl h))) = inr (inr (inl (record {
    mask = h.mask;
    datum = h.datum;
    stated = own w (NotBits v h.mask h.datum) is ls h.stated;
    within = h.within;
    same = h.same;
  })))
  entails_of_own (NotBits v m d) is (inr (inr (inr h))) = inr (inr (inr (subst (λ x. IsMissed (of_word w ls) x m d) (sym is)
      (let k : IsMissed ls w m d = subst (λ x. IsMissed ls x m d) is h in
      record { lo = k.lo; hi = k.hi; range = range_of_own k.lo k.hi k.range; missed = k.missed }))))

  -- and where the literals of the word can not all be true, all can not, and the other way
  torn_of_all : IsTornAt (of_word w ls) w → IsTornAt ls w
  torn_of_all h = record {
    mask = h.mask;
    datum = h.datum;
    other_mask = h.other_mask;
    other_datum = h.other_datum;
    one = among w (Bits w h.mask h.datum) ls h.one;
    other = among w (Bits w h.other_mask h.other_datum) ls h.other;
    differ = h.differ;
  }

  torn_of_own : IsTornAt ls w → IsTornAt (of_word w ls) w
  torn_of_own h = record {
    mask = h.mask;
    datum = h.datum;
    other_mask = h.other_mask;
    other_datum = h.other_datum;
    one = own w (Bits w h.mask h.datum) refl ls h.one;
    other = own w (Bits w h.other_mask h.other_datum) refl ls h.other;
    differ = h.differ;
  }

  missed_of_all : (m d : ℕ) → IsMissed (of_word w ls) w m d → IsMissed ls w m d
  missed_of_all m d h = record { lo = h.lo; hi = h.hi; range = range_of_all h.lo h.hi h.range; missed = h.missed }

  missed_of_own : (m d : ℕ) → IsMissed ls w m d → IsMissed (of_word w ls) w m d
  missed_of_own m d h = record { lo = h.lo; hi = h.hi; range = range_of_own h.lo h.hi h.range; missed = h.missed }

  excluded_of_all : (m d : ℕ) → IsExcluded (of_word w ls) w m d → IsExcluded ls w m d
  excluded_of_all m d h = record {
    mask = h.mask;
    datum = h.datum;
    stated = among w (NotBits w h.mask h.datum) ls h.stated;
    within = h.within;
    same = h.same;
  }

  excluded_of_own : (m d : ℕ) → IsExcluded ls w m d → IsExcluded (of_word w ls) w m d
  excluded_of_own m d h = record {
    mask = h.mask;
    datum = h.datum;
    stated = own w (NotBits w h.mask h.datum) refl ls h.stated;
    within = h.within;
    same = h.same;
  }

  pub dead_of_all : IsDeadAt (of_word w ls) w → IsDeadAt ls w
  dead_of_all (inl none) = inl (no_point_of_all none)
  dead_of_all (inr (inl torn)) = inr (inl (torn_of_all torn))
  dead_of_all (inr (inr (inl h))) = inr (inr (inl (missed_of_all (mask_of ls w) (datum_of ls w)
      (subst (λ m. IsMissed (of_word w ls) w m (datum_of ls w)) mask
      (subst (IsMissed (of_word w ls) w (mask_of (of_word w ls) w)) datum h)))))
  dead_of_all (inr (inr (inr h))) = inr (inr (inr (excluded_of_all (mask_of ls w) (datum_of ls w)
      (subst (λ m. IsExcluded (of_word w ls) w m (datum_of ls w)) mask
      (subst (IsExcluded (of_word w ls) w (mask_of (of_word w ls) w)) datum h)))))

  pub dead_of_own : IsDeadAt ls w → IsDeadAt (of_word w ls) w
  dead_of_own (inl none) = inl (λ u p. none u (point_of_all u p))
  dead_of_own (inr (inl torn)) = inr (inl (torn_of_own torn))
  dead_of_own (inr (inr (inl h))) = inr (inr (inl (missed_of_own (mask_of (of_word w ls) w) (datum_of (of_word w ls) w)
      (subst (λ m. IsMissed ls w m (datum_of (of_word w ls) w)) (sym mask) (subst (IsMissed ls w (mask_of ls w)) (sym datum) h)))))
  dead_of_own (inr (inr (inr h))) = inr (inr (inr (excluded_of_own (mask_of (of_word w ls) w) (datum_of (of_word w ls) w)
      (subst (λ m. IsExcluded ls w m (datum_of (of_word w ls) w)) (sym mask) (subst (IsExcluded ls w (mask_of ls w)) (sym datum) h)))))
