-- Two rules can match one record where each argument has a number for the conditions on it.
use Rattle.std.proofs.Common.{◌≡◌, ◌≢◌, ℕ, zero, suc, ◌+◌, ◌*◌, ◌^◌, ◌<◌, ◌≤◌, ◌==◌, ◌||◌, ◌⊎◌, inl, inr, Bool, true}
use Rattle.std.proofs.Common.{false, not, List, [], ◌∷◌, map, get_or, refl, sym, ◌∙◌, ap, subst, arith}
use Rattle.std.specs.List.{All, Contains, list_any}
use Rattle.std.proofs.lemmas.Bool.{cases_Bool, and_parts}
use Rattle.std.proofs.lemmas.Bool.Decides.{Decides-eqb}
use Rattle.std.proofs.lemmas.List.Elements.{All-nil, All-cons, All-weaker, All-contains}
use Rattle.machines.specs.Arch.{token_of}
use Rattle.machines.specs.Width.{compared, is_narrow}
use Rattle.profile.specs.declared.conditions.Cond.{Cond}
use Rattle.profile.specs.declared.rules.Rule.{Rule}
use Rattle.profile.specs.Operator.{are_distinct}
use Rattle.call_record.specs.Words.{IsRecord, word, argument, words_from}
use Rattle.profile.specs.Condition.{Meets}
use Rattle.profile.specs.Rule.{argument_of, is_narrow_rule, Overlap}
use Rattle.profile.specs.inner.Meeting.{HaveCommon, HasCommon, AllHaveCommon, CanOverlap, greatest}
use Rattle.call_record.proofs.RecordLemmas.{argument-words_from, words_from-is_record}
use Rattle.machines.proofs.ArchLaws.{token_of-fits}
use Rattle.profile.proofs.Arguments.{argument_of-rule}
use Rattle.profile.proofs.Sides.{greatest_fits}

-- ---- from a record

argument_fits : (r : List ℕ) (j : ℕ) → IsRecord r → argument r j < 2 ^ 64
argument_fits r j h =
    let low : word r (4 + 2 * j) < 2 ^ 32 = h.words (4 + 2 * j) in
    let high : word r (5 + 2 * j) < 2 ^ 32 = h.words (5 + 2 * j) in
    omega arith

cut_fits : (narrow : Bool) (u : ℕ) → u < 2 ^ 64 → compared narrow u ≤ greatest narrow
cut_fits true u lt = omega (arith, lt)
cut_fits false u lt = omega (arith, lt)

compared_fits : (a : Rule) (r : List ℕ) (j : ℕ) → IsRecord r → word r 1 ≡ token_of a.arch → argument_of r j ≤ greatest (is_narrow_rule a)
compared_fits a r j h machine =
    subst (λ (u : ℕ). u ≤ greatest (is_narrow_rule a)) (sym (argument_of-rule a r j machine))
    (cut_fits (is_narrow_rule a) (argument r j) (argument_fits r j h))

pub can_meet : (a b : Rule) → Overlap a b → CanOverlap a b
unfolding HasCommon
can_meet a b (r, is_r, ma, mb) = record {
  machine = sym ma.machine ∙ mb.machine;
  number = sym ma.number ∙ mb.number;
  left = λ k c lt n d lt-n same. (
    argument_of r _,
    compared_fits a r _ is_r ma.machine,
    ma.conditions k c lt,
    subst (λ (j : ℕ). Meets (get_or a.conds.items n d) (argument_of r j))
        (sym same) (ma.conditions n d lt-n),
  );
  right = λ k c lt n d lt-n same. (
    argument_of r _,
    compared_fits a r _ is_r ma.machine,
    mb.conditions k c lt,
    subst (λ (j : ℕ). Meets (get_or b.conds.items n d) (argument_of r j))
        (sym same) (mb.conditions n d lt-n),
  );
  both = λ k c lt n d lt-n same. (
    argument_of r _,
    compared_fits a r _ is_r ma.machine,
    ma.conditions k c lt,
    subst (λ (j : ℕ). Meets (get_or b.conds.items n d) (argument_of r j))
        (sym same) (mb.conditions n d lt-n),
  );
}

-- ---- to a record

not_or : (a b : Bool) → not (a || b) ≡ true → (a ≡ false) × (not b ≡ true)
not_or true b h = cc
not_or false b h = (refl, h)

apart_of : (m n : ℕ) → (m == n) ≡ false → m ≢ n
apart_of m n h = λ (e : m ≡ n). let t : (m == n) ≡ true = (Decides-eqb m n).1 e in cc

index_apart : (xs : List Cond) (i : ℕ) → not (list_any (λ y. y == i) (map (λ (c : Cond). c.index) xs)) ≡ true → All (λ c. c.index ≢ i) xs
index_apart [] i h = All-nil (λ c. c.index ≢ i)
index_apart (x ∷ xs) i h =
    let parts = not_or (x.index == i) (list_any (λ y. y == i) (map (λ (c : Cond). c.index) xs)) h in
    All-cons (λ c. c.index ≢ i) x xs (apart_of x.index i parts.0) (index_apart xs i parts.1)

-- the one condition on argument j, or none
abbrev Only : List Cond → ℕ → Cond → Type 0
Only cs j c = Contains cs c × (c.index ≡ j) × All (λ d. d.index ≡ j → d ≡ c) cs

lookup : (cs : List Cond) (j : ℕ) → are_distinct (map (λ (c : Cond). c.index) cs) ≡ true
    → (All (λ c. c.index ≢ j) cs) ⊎ ((c : Cond) × Only cs j c)
lookup [] j h = inl (All-nil (λ c. c.index ≢ j))
lookup (x ∷ xs) j h =
    let parts = and_parts (not (list_any (λ y. y == x.index) (map (λ (c : Cond). c.index) xs)))
    (are_distinct (map (λ (c : Cond). c.index) xs)) h in
    elim (cases_Bool (x.index == j)) [
      | inl here ↦
          let same : x.index ≡ j = (Decides-eqb x.index j).0 here in
          let others : All (λ d. d.index ≡ j → d ≡ x) xs =
          All-weaker (λ d. d.index ≢ x.index) (λ d. d.index ≡ j → d ≡ x) (λ d ne e. absurd (ne (e ∙ sym same))) xs
          (index_apart xs x.index parts.0) in
          inr (x, ((0, omega arith, refl), same, All-cons (λ d. d.index ≡ j → d ≡ x) x xs (λ _. refl) others))
      | inr past ↦
          let ne : x.index ≢ j = apart_of x.index j past in
          elim (lookup xs j parts.1) [
            | inl none ↦ inl (All-cons (λ c. c.index ≢ j) x xs ne none)
            | inr found ↦ inr (
              found.0,
              (
                (suc found.1.0.0, omega (arith, found.1.0.1), found.1.0.2),
                found.1.1,
                All-cons (λ d. d.index ≡ j → d ≡ found.0) x xs (λ e. absurd (ne e)) found.1.2,
              ),
            )
          ]
    ]

-- u meets each condition on argument j
abbrev At : ℕ → ℕ → List Cond → Type 0
At j u cs = All (λ c. c.index ≡ j → Meets c u) cs

at_none : (cs : List Cond) (j u : ℕ) → All (λ c. c.index ≢ j) cs → At j u cs
at_none cs j u = All-weaker (λ c. c.index ≢ j) (λ c. c.index ≡ j → Meets c u) (λ c ne e. absurd (ne e)) cs

at_one : (cs : List Cond) (j u : ℕ) (c : Cond) → All (λ d. d.index ≡ j → d ≡ c) cs → Meets c u → At j u cs
at_one cs j u c only h =
    All-weaker (λ d. d.index ≡ j → d ≡ c) (λ d. d.index ≡ j → Meets d u) (λ d e i. subst (λ (x : Cond). Meets x u) (sym (e i)) h) cs only

-- two conditions of the lists that stand on one argument
pair : (narrow : Bool) (xs ys : List Cond) → AllHaveCommon narrow xs ys → (c d : Cond) → Contains xs c → Contains ys d → c.index ≡ d.index
    → HaveCommon narrow c d
unfolding HasCommon
pair narrow xs ys all c d in-xs in-ys =
    All-contains (λ y. c.index ≡ y.index → HaveCommon narrow c y) ys d
    (All-contains (λ x. All (λ y. x.index ≡ y.index → HaveCommon narrow x y) ys) xs c all in-xs) in-ys

zero_fits : (narrow : Bool) → 0 ≤ greatest narrow
zero_fits true = omega arith
zero_fits false = omega arith

abbrev Fill : Bool → List Cond → List Cond → ℕ → Type 0
Fill narrow xs ys j = (u : ℕ) × (u ≤ greatest narrow) × At j u xs × At j u ys

fill : (a b : Rule) → CanOverlap a b → (j : ℕ) → Fill (is_narrow_rule a) a.conds.items b.conds.items j
fill a b m j =
    elim (lookup a.conds.items j a.apart) [
      | inl none-a ↦ elim (lookup b.conds.items j b.apart) [
        | inl none-b ↦ (0, zero_fits (is_narrow_rule a), at_none a.conds.items j 0 none-a, at_none b.conds.items j 0 none-b)
        | inr d ↦
            let w : HaveCommon (is_narrow_rule a) d.0 d.0 = pair (is_narrow_rule a) b.conds.items b.conds.items m.right d.0 d.0 d.1.0 d.1.0 refl in
            (w.0, w.1, at_none a.conds.items j w.0 none-a, at_one b.conds.items j w.0 d.0 d.1.2 w.2)
      ]
      | inr c ↦ elim (lookup b.conds.items j b.apart) [
        | inl none-b ↦
            let w : HaveCommon (is_narrow_rule a) c.0 c.0 = pair (is_narrow_rule a) a.conds.items a.conds.items m.left c.0 c.0 c.1.0 c.1.0 refl in
            (w.0, w.1, at_one a.conds.items j w.0 c.0 c.1.2 w.2, at_none b.conds.items j w.0 none-b)
        | inr d ↦
            let w : HaveCommon (is_narrow_rule a) c.0 d.0 = pair (is_narrow_rule a) a.conds.items b.conds.items m.both c.0 d.0 c.1.0 d.1.0 (c.1.1 ∙ sym d.1.1) in
            (w.0, w.1, at_one a.conds.items j w.0 c.0 c.1.2 w.2, at_one b.conds.items j w.0 d.0 d.1.2 w.3)
      ]
    ]

-- six numbers, and their list
abbrev six : (ℕ → ℕ) → List ℕ
six u = u 0 ∷ u 1 ∷ u 2 ∷ u 3 ∷ u 4 ∷ u 5 ∷ []

get-six : (u : ℕ → ℕ) (j : ℕ) → j < 6 → get_or (six u) j 0 ≡ u j
get-six u zero h = refl
get-six u (suc zero) h = refl
get-six u (suc (suc zero)) h = refl
get-six u (suc (suc (suc zero))) h = refl
get-six u (suc (suc (suc (suc zero)))) h = refl
get-six u (suc (suc (suc (suc (suc zero))))) h = refl
get-six u (suc (suc (suc (suc (suc (suc j)))))) h = absurd (omega arith)

six_fits : (u : ℕ → ℕ) → ((j : ℕ) → u j < 2 ^ 64) → (i : ℕ) → get_or (six u) i 0 < 2 ^ 64
six_fits u h zero = h 0
six_fits u h (suc zero) = h 1
six_fits u h (suc (suc zero)) = h 2
six_fits u h (suc (suc (suc zero))) = h 3
six_fits u h (suc (suc (suc (suc zero)))) = h 4
six_fits u h (suc (suc (suc (suc (suc zero))))) = h 5
six_fits u h (suc (suc (suc (suc (suc (suc j)))))) = omega arith

as_it_stands : (narrow : Bool) (u : ℕ) → u ≤ greatest narrow → compared narrow u ≡ u
as_it_stands true u le = omega (arith, le)
as_it_stands false u le = refl

met : (cs : List Cond) (nr arch : ℕ) (u : ℕ → ℕ) → ((j : ℕ) → u j ≤ greatest (is_narrow arch)) → ((j : ℕ) → At j (u j) cs)
    → All (λ c. Meets c (argument_of (words_from nr arch 0 (six u)) c.index)) cs
met cs nr arch u fits at k c lt =
    let x = get_or cs k c in
    let is = argument-words_from nr arch 0 (six u) x.index ∙ get-six u x.index x.in_range in
    subst (Meets x) (sym (ap (compared (is_narrow arch)) is ∙ as_it_stands (is_narrow arch) (u x.index) (fits x.index)))
    (at x.index k c lt refl)

pub overlaps : (a b : Rule) → a.nr < 2 ^ 32 → CanOverlap a b → Overlap a b
overlaps a b small m =
    let u : ℕ → ℕ = λ j. (fill a b m j).0 in
    let fits : (j : ℕ) → u j ≤ greatest (is_narrow_rule a) = λ j. (fill a b m j).1 in
    let most = greatest_fits (is_narrow_rule a) in (
      words_from a.nr (token_of a.arch) 0 (six u),
      words_from-is_record a.nr (token_of a.arch) 0 (six u) small (token_of-fits a.arch) (omega arith) refl
          (six_fits u (λ j. omega (arith, fits j, most))),
      record { machine = refl; number = refl; conditions = met a.conds.items a.nr (token_of a.arch) u fits (λ j. (fill a b m j).2) },
      record {
        machine = m.machine;
        number = m.number;
        conditions =
            met b.conds.items a.nr (token_of a.arch) u fits (λ j. (fill a b m j).3);
      },
    )
