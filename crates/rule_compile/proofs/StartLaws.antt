-- Starts: between two of them each question gets one reply.
use Rattle.std.proofs.Common.{◌≡◌, ℕ, zero, suc, ◌+◌, ◌<◌, ◌≤◌, ◌^◌, ◌⊎◌, ◌==◌, List, length, Some, ap, sym, ◌∙◌, subst, arith, inl, inr}
use Rattle.std.specs.Prelude.{nat_le, slice_get, slice_index, slice_index_or, take}
use Rattle.std.specs.List.{All, Contains, dedup}
use Rattle.std.specs.List.Sorted.{IsPermutation, IsSorted, IsStrictlyIncreasing}
use Rattle.std.specs.Ordering.{nat_cmp}
use Rattle.std.proofs.Math.Dec.{eqb}
use Rattle.std.proofs.lemmas.Bool.{cases_eq, cases_lt, eq-eqb, le-leb, lt-leb, ne_eqb}
use Rattle.std.proofs.lemmas.List.Elements.{All-more}
use Rattle.std.proofs.lemmas.List.Kept.{Contains-dedup_nat}
use Rattle.std.proofs.lemmas.List.Sorted.{Contains-permutation}
use Rattle.std.proofs.lemmas.Map.Keys.{IsStrictlyIncreasing-dedup}
use Rattle.std.proofs.lemmas.Option.{get_or_from_slice_get, slice_get-get_or, slice_get_within}
use Rattle.rule_compile.specs.declared.asked.Open.{Open}
use Rattle.rule_compile.specs.declared.question.Question.{Question}
use Rattle.rule_compile.specs.declared.question.Subject.{Subject}
use Rattle.rule_compile.specs.inner.Left.{AreStarts, HasTurns, IsFrom}
use Rattle.rule_compile.specs.inner.Replies.{AreAlike}

module _ (starts : List ℕ) (up : IsStrictlyIncreasing starts) where
  in_order : (i j : ℕ) → i ≤ j → j < length starts → slice_index starts i ≤ slice_index starts j
  in_order i zero le within =
      let same : i ≡ 0 = omega (arith, le) in
      omega (arith, ap (slice_index starts) same)
  in_order i (suc j) le within =
      let next : suc j ≡ j + 1 = omega arith in
      elim (cases_lt i (suc j)) [
        | inl lt ↦ (let before : slice_index starts i ≤ slice_index starts j = in_order i j (omega (arith, lt)) (omega (arith, within)) in
            let step : slice_index starts j < slice_index starts (j + 1) = up j (omega (arith, within)) in
            omega (arith, before, step, ap (slice_index starts) next))
        | inr ge ↦ (let same : i ≡ suc j = omega (arith, le, ge) in omega (arith, ap (slice_index starts) same))
      ]

  place_of : (m : ℕ) → Contains starts m → (k : ℕ) × (k < length starts) × (slice_index starts k ≡ m)
  place_of m has =
      let get : slice_get starts has.0 ≡ Some m = slice_get-get_or starts has.0 m has.1 ∙ ap Some has.2 in
      (has.0, has.1, get_or_from_slice_get starts has.0 m 0 get)

  module _ (place start u : ℕ) (from : IsFrom starts place start u) where
    -- a start that is no greater than the number is no greater than the number's own
    none_between : (m : ℕ) → Contains starts m → m ≤ u → m ≤ start
    none_between m has le =
        let at = place_of m has in
        let own : slice_index starts place ≡ start = get_or_from_slice_get starts place start 0 from.is in
        let within : place < length starts = slice_get_within starts place start from.is in
        elim (cases_lt place at.0) [
          | inl before ↦ (let more : place + 1 < length starts = omega (arith, before, at.1) in
              let above : u < slice_index starts (place + 1) =
              from.below (slice_index starts (place + 1)) (slice_get-get_or starts (place + 1) 0 more) in
              let behind : slice_index starts (place + 1) ≤ slice_index starts at.0 = in_order (place + 1) at.0 (omega (arith, before)) at.1 in
              absurd (omega (arith, above, behind, at.2, le)))
          | inr after ↦ (let least : slice_index starts at.0 ≤ slice_index starts place = in_order at.0 place after within in
              omega (arith, least, at.2, own))
        ]

    one_side : (m : ℕ) → Contains starts m → nat_le m start ≡ nat_le m u
    one_side m has =
        let least = from.least in
        elim (cases_lt u m) [
          | inl lt ↦ lt-leb m start (omega (arith, lt, least)) ∙ sym (lt-leb m u lt)
          | inr le ↦ le-leb m start (none_between m has le) ∙ sym (le-leb m u le)
        ]

    both_are : (m : ℕ) → Contains starts m → (u ≡ m → start ≡ m) × ((start ≡ m → u ≡ m) → (start == m) ≡ (u == m))
    both_are m has =
        let least = from.least in
        let up_from : u ≡ m → start ≡ m = λ e. let le : m ≤ start = none_between m has (omega (arith, e)) in omega (arith, le, least, e) in (
          up_from,
          λ back. elim (cases_eq u m) [
            | inl e ↦ eq-eqb start m (up_from e) ∙ sym (eq-eqb u m e)
            | inr ne ↦ ne_eqb start m (λ e. ne (back e)) ∙ sym (ne_eqb u m ne)
          ],
        )

    one_number : (q : Question) → Contains starts q.number → Contains starts (q.number + 1) ⊎ (2 ^ 32 ≤ q.number + 1)
        → (start == q.number) ≡ (u == q.number)
    one_number q has next =
        let least = from.least in
        let word = from.word in
        (both_are q.number has).1 (λ e. elim (cases_lt u (q.number + 1)) [
          | inl lt ↦ omega (arith, lt, least, e)
          | inr le ↦ elim next [
            | inl more ↦ absurd (let le_start : q.number + 1 ≤ start = none_between (q.number + 1) more le in omega (arith, le_start, e))
            | inr most ↦ absurd (omega (arith, most, le, word))
          ]
        ])

    alike_from : (q : Question) → HasTurns starts q → AreAlike q start u
    alike_from q has = (
      one_side q.number has.own,
      elim has.next [
        | inl none ↦ elim none [
          | inl whole ↦ inl whole
          | inr most ↦ inr (one_number q has.own (inr most))
        ]
        | inr more ↦ inr (one_number q has.own (inl more))
      ],
    )

turns_kept : (xs ys : List ℕ) (q : Question) → ((n : ℕ) → Contains xs n → Contains ys n) → HasTurns xs q → HasTurns ys q
turns_kept xs ys q kept has = record {
  own = kept q.number has.own;
  next = elim has.next [
    | inl none ↦ inl none
    | inr more ↦ inr (kept (q.number + 1) more)
  ];
}

abbrev pub Turns : Subject → List ℕ → Open → Type 0
Turns subject turns o = o.question.subject ≡ subject → HasTurns turns o.question

pub all_turns_kept : (subject : Subject) (xs ys : List ℕ) (os : List Open) → ((n : ℕ) → Contains xs n → Contains ys n)
    → All (Turns subject xs) os → All (Turns subject ys) os
all_turns_kept subject xs ys os kept all = λ k d within same. turns_kept xs ys _ kept (all k d within same)

pub turns_more : (subject : Subject) (old new : List ℕ) (os : List Open) (k : ℕ) (o : Open) → k < length os → o ≡ slice_index_or os k o
    → ((n : ℕ) → Contains old n → Contains new n) → Turns subject new o → All (Turns subject old) (take k os)
    → All (Turns subject new) (take (k + 1) os)
turns_more subject old new os k o within is kept has all =
    All-more (Turns subject new) os k o within (all_turns_kept subject old new (take k os) kept all) (subst (Turns subject new) is has)

pub are_starts : (os : List Open) (subject : Subject) (turns sorted : List ℕ) → IsPermutation turns sorted → IsSorted nat_cmp sorted
    → Contains turns 0 → All (Turns subject turns) os → All (λ start. start < 2 ^ 32) (dedup eqb sorted)
    → AreStarts os subject (dedup eqb sorted)
are_starts os subject turns sorted moved in_turn zero_in all words =
    let starts : List ℕ = dedup eqb sorted in
    let up : IsStrictlyIncreasing starts = IsStrictlyIncreasing-dedup sorted in_turn in
    let kept : (n : ℕ) → Contains turns n → Contains starts n =
    λ n has. Contains-dedup_nat sorted n (Contains-permutation turns sorted n moved has) in
    let first = place_of starts up 0 (kept 0 zero_in) in
    let least : slice_index starts 0 ≤ slice_index starts first.0 = in_order starts up 0 first.0 (omega arith) first.1 in
    let none : slice_index starts 0 ≡ 0 = omega (arith, least, first.2) in
    record {
      zero_first = slice_get-get_or starts 0 0 (omega (arith, first.1)) ∙ ap Some none;
      ascend = λ place start next is more.
          let a : slice_index starts place ≡ start = get_or_from_slice_get starts place start 0 is in
          let b : slice_index starts (place + 1) ≡ next = get_or_from_slice_get starts (place + 1) next 0 more in
          let step : slice_index starts place < slice_index starts (place + 1) = up place (slice_get_within starts (place + 1) next more) in
          omega (arith, a, b, step);
      words = words;
      alike = λ place start u from k d within same.
          alike_from starts up place start u from _ (all_turns_kept subject turns starts os kept all k d within same);
    }
