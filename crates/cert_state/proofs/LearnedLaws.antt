-- What was learned of a record, word by word.
use Rattle.std.proofs.Common.{◌≡◌, ℕ, zero, suc, ◌+◌, ◌<◌, ◌≤◌, ◌≢◌, List, [], ◌∷◌, ◌++◌, length, map, get_or, set, sym, refl, ap, subst, ◌∙◌, ◌↔◌, arith, inl, inr, ⊎_elim}
use Rattle.std.specs.Prelude.{All}
use Rattle.std.specs.List.{flat_map, range_with_len}
use Rattle.std.proofs.lemmas.Bool.{cases_eq, cases_lt}
use Rattle.std.proofs.lemmas.List.{append-nil, get_or-map, get_or-set_same, get_or-set_other, get_or_past, length-map, map-set}
use Rattle.std.proofs.lemmas.List.Elements.{All-append, All-nil, All-head, All-tail}
use Rattle.cert_state.specs.declared.literal.Lit.{Lit}
use Rattle.cert_state.specs.declared.one_word.LearnedWord.{LearnedWord}
use Rattle.cert_state.specs.declared.learned.Learned.{Learned}
use Rattle.cert_state.specs.Literals.{index_of}
use Rattle.cert_state.specs.Points.{HasNoPoint, IsRange}
use Rattle.cert_state.specs.Entailment.{Entails, IsDeadAt}
use Rattle.cert_state.specs.Learned.{known_of, lits_of, own_of, word_of}
use Rattle.cert_state.specs.inner.Sorted.{of_word}
use Rattle.cert_state.proofs.ListLaws.{all_after, all_before}
use Rattle.cert_state.proofs.WordLaws.{dead_of_all, dead_of_own, entails_of_all, entails_of_own, no_point_of_all, other_first, own_first, range_of_all}

-- the literals at a place of a table, and after a write there
pub read_at : (xs : List LearnedWord) (i : ℕ) (x : LearnedWord) → i < length xs → x ≡ get_or xs i x
    → get_or (map lits_of xs) i [] ≡ lits_of x
read_at xs i x lt is = get_or-map lits_of xs i x [] lt ∙ ap lits_of (sym is)

pub written_at : (xs : List LearnedWord) (i : ℕ) (x : LearnedWord) → i < length xs → get_or (map lits_of (set xs i x)) i [] ≡ lits_of x
written_at xs i x lt =
    ap (λ ls. get_or ls i []) (map-set lits_of xs i x)
    ∙ get_or-set_same (map lits_of xs) i (lits_of x) [] (omega (arith, length-map xs lits_of))

pub stays_at : (xs : List LearnedWord) (i w : ℕ) (x : LearnedWord) → w ≢ i
    → get_or (map lits_of (set xs i x)) w [] ≡ get_or (map lits_of xs) w []
stays_at xs i w x ne =
    ap (λ ls. get_or ls w []) (map-set lits_of xs i x) ∙ get_or-set_other (map lits_of xs) i w (lits_of x) [] ne

-- what is read at a place has the literals of that word
pub place_has : (learned : Learned) (w : ℕ) (x : LearnedWord) → w < 16 → x ≡ get_or learned.words.items w x → own_of learned w ≡ lits_of x
unfolding own_of
place_has learned w x lt is = read_at learned.words.items w x (omega (arith, lt, learned.sixteen)) is

pub place_is : (learned : Learned) (w : ℕ) (x : LearnedWord) → w < 16 → x ≡ get_or learned.words.items w x → word_of x ≡ w
unfolding word_of
place_is learned w x lt is = ap (λ (y : LearnedWord). y.word) is ∙ learned.placed w x lt

-- those of a word among literals of that word are all, and among those of another none
of_own : (w : ℕ) (ls : List Lit) → All (λ l. index_of l ≡ w) ls → of_word w ls ≡ ls
of_own w [] all = refl
of_own w (l ∷ ls) all =
    own_first w l ls (All-head (λ l. index_of l ≡ w) l ls all)
    ∙ ap (λ ks. l ∷ ks) (of_own w ls (All-tail (λ l. index_of l ≡ w) l ls all))

of_other : (w v : ℕ) (ls : List Lit) → w ≢ v → All (λ l. index_of l ≡ v) ls → of_word w ls ≡ []
of_other w v [] ne all = refl
of_other w v (l ∷ ls) ne all =
    let at = All-head (λ l. index_of l ≡ v) l ls all in
    other_first w l ls (λ e. ne (sym e ∙ at)) ∙ of_other w v ls ne (All-tail (λ l. index_of l ≡ v) l ls all)

of_both : (w : ℕ) (xs ys : List Lit) → of_word w (xs ++ ys) ≡ of_word w xs ++ of_word w ys
of_both w [] ys = refl
of_both w (l ∷ xs) ys = ⊎_elim
    (λ (at : index_of l ≡ w).
    own_first w l (xs ++ ys) at ∙ ap (λ ks. l ∷ ks) (of_both w xs ys) ∙ ap (λ ks. ks ++ of_word w ys) (sym (own_first w l xs at)))
    (λ (ne : index_of l ≡ w → ⊥).
    other_first w l (xs ++ ys) ne ∙ of_both w xs ys ∙ ap (λ ks. ks ++ of_word w ys) (sym (other_first w l xs ne)))
    (cases_eq (index_of l) w)

-- those of a word among the lists of words one after the other
module _ (own : ℕ → List Lit) (placed : (v : ℕ) → All (λ l. index_of l ≡ v) (own v)) where
  of_none : (w a n : ℕ) → (w < a) → of_word w (flat_map own (range_with_len a n)) ≡ []
  of_none w a zero lt = refl
  of_none w a (suc n) lt =
      of_both w (own a) (flat_map own (range_with_len (a + 1) n))
      ∙ ap (λ ks. ks ++ of_word w (flat_map own (range_with_len (a + 1) n))) (of_other w a (own a) (λ e. omega (arith, e, lt)) (placed a))
      ∙ of_none w (a + 1) n (omega (arith, lt))

  of_past : (w a n : ℕ) → a + n ≤ w → of_word w (flat_map own (range_with_len a n)) ≡ []
  of_past w a zero le = refl
  of_past w a (suc n) le =
      of_both w (own a) (flat_map own (range_with_len (a + 1) n))
      ∙ ap (λ ks. ks ++ of_word w (flat_map own (range_with_len (a + 1) n))) (of_other w a (own a) (λ e. omega (arith, e, le)) (placed a))
      ∙ of_past w (a + 1) n (omega (arith, le))

  of_there : (w a n : ℕ) → a ≤ w → w < a + n → of_word w (flat_map own (range_with_len a n)) ≡ own w
  of_there w a zero from to = absurd (omega (arith, from, to))
  of_there w a (suc n) from to =
      let rest = flat_map own (range_with_len (a + 1) n) in
      of_both w (own a) rest ∙ ⊎_elim
      (λ (e : a ≡ w).
      ap (λ ks. ks ++ of_word w rest) (ap (λ v. of_word w (own v)) e ∙ of_own w (own w) (placed w))
      ∙ ap (λ ks. own w ++ ks) (of_none w (a + 1) n (omega (arith, e))) ∙ append-nil (own w))
      (λ (ne : a ≡ w → ⊥).
      ap (λ ks. ks ++ of_word w rest) (of_other w a (own a) (λ e. ne (sym e)) (placed a))
      ∙ of_there w (a + 1) n (omega (arith, from, ne)) (omega (arith, to)))
      (cases_eq a w)

-- the word at a place of a table
pub element : (xs : List LearnedWord) (i : ℕ) → i < length xs
    → (x : LearnedWord) × (get_or (map lits_of xs) i [] ≡ lits_of x) × ((d : LearnedWord) → get_or xs i d ≡ x)
element [] i lt = absurd (omega (arith, lt))
element (x ∷ xs) zero lt = (x, refl, λ d. refl)
element (x ∷ xs) (suc i) lt = element xs i (omega (arith, lt))

-- the literals of a word speak of it
pub own_speaks : (learned : Learned) (w : ℕ) → All (λ l. index_of l ≡ w) (own_of learned w)
unfolding own_of lits_of
own_speaks learned w = elim (cases_lt w 16) [
  | inl lt ↦
      (let room : w < length learned.words.items = omega (arith, lt, learned.sixteen) in
      let (x, is, at) = element learned.words.items w room in
      subst (λ ls. All (λ l. index_of l ≡ w) ls) (sym is)
      (subst (λ v. All (λ l. index_of l ≡ v) x.lits.items) (ap (λ (y : LearnedWord). y.word) (sym (at x)) ∙ learned.placed w x lt) x.own))
  | inr past ↦
      subst (λ ls. All (λ l. index_of l ≡ w) ls)
      (sym (get_or_past (map lits_of learned.words.items) w []
      (omega (arith, past, learned.sixteen, length-map learned.words.items lits_of))))
      (All-nil (λ l. index_of l ≡ w))
]

-- of all that is known, a word has its own literals
pub own_known : (learned : Learned) (w : ℕ) → w < 16 → of_word w (known_of learned) ≡ own_of learned w
unfolding known_of
own_known learned w lt = of_there (own_of learned) (own_speaks learned) w 0 16 (omega arith) (omega (arith, lt))

pub none_known : (learned : Learned) (w : ℕ) → 16 ≤ w → of_word w (known_of learned) ≡ []
unfolding known_of
none_known learned w le = of_past (own_of learned) (own_speaks learned) w 0 16 (omega (arith, le))

-- what follows of a word follows of its own literals
pub entails_known : (learned : Learned) (l : Lit) (w : ℕ) → index_of l ≡ w → w < 16
    → Entails (own_of learned w) l ↔ Entails (known_of learned) l
entails_known learned l w is lt =
    let same = own_known learned w lt in (
      λ h. entails_of_all w (known_of learned) l is (subst (λ (ks : List Lit). Entails ks l) (sym same) h),
      λ h. subst (λ (ks : List Lit). Entails ks l) same (entails_of_own w (known_of learned) l is h),
    )

pub sure_known : (learned : Learned) (l : Lit) (w : ℕ) → index_of l ≡ w → 16 ≤ w → Entails [] l ↔ Entails (known_of learned) l
sure_known learned l w is le =
    let same = none_known learned w le in (
      λ h. entails_of_all w (known_of learned) l is (subst (λ (ks : List Lit). Entails ks l) (sym same) h),
      λ h. subst (λ (ks : List Lit). Entails ks l) same (entails_of_own w (known_of learned) l is h),
    )

pub dead_known : (learned : Learned) (w : ℕ) → w < 16 → IsDeadAt (own_of learned w) w ↔ IsDeadAt (known_of learned) w
dead_known learned w lt =
    let same = own_known learned w lt in (
      λ h. dead_of_all w (known_of learned) (subst (λ (ks : List Lit). IsDeadAt ks w) (sym same) h),
      λ h. subst (λ (ks : List Lit). IsDeadAt ks w) same (dead_of_own w (known_of learned) h),
    )

pub no_point_known : (learned : Learned) (w : ℕ) → w < 16 → HasNoPoint (own_of learned w) w → HasNoPoint (known_of learned) w
no_point_known learned w lt h =
    no_point_of_all w (known_of learned) (subst (λ (ks : List Lit). HasNoPoint ks w) (sym (own_known learned w lt)) h)

pub range_known : (learned : Learned) (w lo hi : ℕ) → w < 16 → IsRange (own_of learned w) w lo hi → IsRange (known_of learned) w lo hi
range_known learned w lo hi lt h =
    range_of_all w (known_of learned) lo hi (subst (λ (ks : List Lit). IsRange ks w lo hi) (sym (own_known learned w lt)) h)

-- where each word has the same literals, the same is known
lists_same : (own other : ℕ → List Lit) (a n : ℕ) → ((w : ℕ) → w < a + n → own w ≡ other w)
    → flat_map own (range_with_len a n) ≡ flat_map other (range_with_len a n)
lists_same own other a zero same = refl
lists_same own other a (suc n) same =
    ap (λ ks. ks ++ flat_map own (range_with_len (a + 1) n)) (same a (omega arith))
    ∙ ap (λ ks. other a ++ ks) (lists_same own other (a + 1) n (λ w lt. same w (omega (arith, lt))))

pub known_same : (one other : Learned) → ((w : ℕ) → w < 16 → own_of one w ≡ own_of other w) → known_of one ≡ known_of other
unfolding known_of
known_same one other same = lists_same (own_of one) (own_of other) 0 16 (λ w lt. same w (omega (arith, lt)))

-- what holds of the literals of each word holds of all that is known, and the other way
all_lists : (P : Lit → Type 0) (own : ℕ → List Lit) (a n : ℕ) → ((w : ℕ) → w < a + n → All P (own w))
    → All P (flat_map own (range_with_len a n))
all_lists P own a zero h = All-nil P
all_lists P own a (suc n) h =
    All-append P (own a) (flat_map own (range_with_len (a + 1) n)) (h a (omega arith))
    (all_lists P own (a + 1) n (λ w lt. h w (omega (arith, lt))))

all_own : (P : Lit → Type 0) (own : ℕ → List Lit) (w a n : ℕ) → a ≤ w → w < a + n
    → All P (flat_map own (range_with_len a n)) → All P (own w)
all_own P own w a zero from to h = absurd (omega (arith, from, to))
all_own P own w a (suc n) from to h =
    let rest = flat_map own (range_with_len (a + 1) n) in
    ⊎_elim
    (λ (e : a ≡ w). subst (λ v. All P (own v)) e (all_before P (own a) rest h))
    (λ (ne : a ≡ w → ⊥). all_own P own w (a + 1) n (omega (arith, from, ne)) (omega (arith, to)) (all_after P (own a) rest h))
    (cases_eq a w)

pub known_all : (P : Lit → Type 0) (learned : Learned) → ((w : ℕ) → w < 16 → All P (own_of learned w)) → All P (known_of learned)
unfolding known_of
known_all P learned h = all_lists P (own_of learned) 0 16 (λ w lt. h w (omega (arith, lt)))

pub own_all : (P : Lit → Type 0) (learned : Learned) (w : ℕ) → w < 16 → All P (known_of learned) → All P (own_of learned w)
unfolding known_of
own_all P learned w lt h = all_own P (own_of learned) w 0 16 (omega arith) (omega (arith, lt)) h
