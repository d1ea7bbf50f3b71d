-- What is said of a word with one literal more.
use Rattle.std.proofs.Common.{◌≡◌, ℕ, Bool, true, false, List, [], ◌∷◌, ◌++◌, length, take, sym, refl, ap, subst, ◌∙◌, arith, inl, inr, ⊎_elim}
use Rattle.std.specs.Prelude.{bit_and, bit_or, slice_index_or}
use Rattle.std.proofs.lemmas.Bool.{cases_eq, cases_lt, eq-eqb, ne_eqb}
use Rattle.std.proofs.lemmas.List.{get_or_append_left, get_or_push, length_push, take-append-le, take_at}
use Rattle.std.proofs.lemmas.List.Elements.{All-append, All-cons, All-nil}
use Rattle.cert_state.specs.declared.literal.Lit.{Lit}
use Rattle.cert_state.specs.declared.literal.Lit.TheVariants.{In, Bits, NotBits}
use Rattle.cert_state.specs.declared.gathered.WordFacts.{WordFacts}
use Rattle.cert_state.specs.Literals.{all_bits, index_of, Meets}
use Rattle.cert_state.specs.Points.{AreKnown, IsPoint, IsWhole, IsWithin, union_of}
use Rattle.cert_state.specs.inner.Gathered.{AreFactsOf, AreKept}
use Rattle.cert_state.proofs.BitLaws.{and_all}
use Rattle.cert_state.proofs.ListLaws.{all_before, contains_more}

-- what is kept with one literal more
pub kept_more : (ls : List Lit) (w : ℕ) (before : List WordFacts) (l : Lit) (f : WordFacts) → length before ≡ length ls
    → AreKept ls w before → AreFactsOf ls w f → AreKept (ls ++ l ∷ []) w (before ++ f ∷ [])
kept_more ls w before l f paired kept told = λ k d lt. elim (cases_lt k (length ls)) [
  | inl within ↦
      subst (λ (ks : List Lit). AreFactsOf ks w (slice_index_or (before ++ f ∷ []) k d)) (sym (take-append-le k ls (l ∷ []) (omega arith)))
      (subst (AreFactsOf (take k ls) w) (sym (get_or_append_left before (f ∷ []) d k (omega arith))) (kept k d within))
  | inr from ↦
      (let size = length_push ls l in
      let last : length ls ≡ k = omega (arith, lt, from, size) in
      subst (λ (ks : List Lit). AreFactsOf ks w (slice_index_or (before ++ f ∷ []) k d)) (sym (take_at ls (l ∷ []) k last))
      (subst (AreFactsOf ls w) (sym (get_or_push before f d k (paired ∙ last))) told))
]

-- a literal that excludes bits adds nothing to the unions
union_more : (part : ℕ → ℕ → ℕ) (ls : List Lit) (w m d : ℕ) → union_of part (ls ++ NotBits w m d ∷ []) w ≡ union_of part ls w
union_more part [] w m d = refl
union_more part (In v lo hi ∷ ls) w m d = union_more part ls w m d
union_more part (NotBits v n e ∷ ls) w m d = union_more part ls w m d
union_more part (Bits v n e ∷ ls) w m d =
    let more = union_more part ls w m d in
    ⊎_elim
    (λ (at : v ≡ w). rw (eq-eqb v w at) (ap (bit_or (part n e)) more))
    (λ (ne : v ≡ w → ⊥). rw (ne_eqb v w ne) more)
    (cases_eq v w)

module _ (ls : List Lit) (w m d : ℕ) where
  point_before : (u : ℕ) → IsPoint (ls ++ NotBits w m d ∷ []) w u → IsPoint ls w u
  point_before u p = (p.0, all_before (λ l. index_of l ≡ w → IsWhole l → Meets l u) ls (NotBits w m d ∷ []) p.1)

  point_after : (u : ℕ) → (m ≡ all_bits → u ≡ d → ⊥) → IsPoint ls w u → IsPoint (ls ++ NotBits w m d ∷ []) w u
  point_after u other p = (
    p.0,
    All-append (λ l. index_of l ≡ w → IsWhole l → Meets l u) ls (NotBits w m d ∷ []) p.1
        (All-cons (λ l. index_of l ≡ w → IsWhole l → Meets l u) (NotBits w m d) []
        (λ _ whole is. other whole (sym (and_all u p.0) ∙ ap (bit_and u) (sym whole) ∙ is))
        (All-nil (λ l. index_of l ≡ w → IsWhole l → Meets l u))),
  )

  known_after : (n e : ℕ) → AreKnown ls w n e → AreKnown (ls ++ NotBits w m d ∷ []) w n e
  known_after n e h = record {
    within = subst (IsWithin n) (sym (union_more (λ m d. m) ls w m d)) h.within;
    datum = subst (λ x. bit_and x n ≡ e) (sym (union_more (λ m d. d) ls w m d)) h.datum;
  }

  -- where it excludes neither end of the range, that stays
  pub facts_after : (f : WordFacts) (exact : Bool) → AreFactsOf ls w f → (m ≡ all_bits → f.low ≡ d → ⊥) → (m ≡ all_bits → f.high ≡ d → ⊥)
      → (exact ≡ true → f.exact ≡ true) → (exact ≡ true → bit_and d m ≡ d)
      → AreFactsOf (ls ++ NotBits w m d ∷ []) w (record f { free = false; exact = exact })
  facts_after f exact so low high was is = record {
    range = λ le.
        (let r = so.range le in
        record {
          least = point_after f.low low r.least;
          greatest = point_after f.high high r.greatest;
          between = λ u p. r.between u (point_before u p);
        });
    none = λ above u p. so.none above u (point_before u p);
    mask = so.mask ∙ sym (union_more (λ m d. m) ls w m d);
    datum = so.datum ∙ sym (union_more (λ m d. d) ls w m d);
    whole = λ t n e has. elim (contains_more (NotBits w m d) (Bits w n e) ls has) [
      | inl among ↦ known_after n e (so.whole t n e among)
      | inr same ↦ cc
    ];
    free = λ (t : false ≡ true). cc;
    exact = λ t n e has. elim (contains_more (NotBits w m d) (NotBits w n e) ls has) [
      | inl among ↦ so.exact (was t) n e among
      | inr same ↦ (let one : m ≡ n = cc in let two : d ≡ e = cc in
          subst (λ x. bit_and e x ≡ e) one (subst (λ x. bit_and x m ≡ x) two (is t)))
    ];
  }
