-- Rules are clear where none clashes with an earlier one.
use Rattle.std.proofs.Common.{◌≡◌, ℕ, zero, suc, ◌+◌, ◌<◌, inl, inr, List, [], ◌∷◌, ◌++◌, length, take, get_or, Some}
use Rattle.std.proofs.Common.{refl, sym, ◌∙◌, ap, subst, arith}
use Rattle.std.specs.List.{All, HoldsAt}
use Rattle.std.proofs.lemmas.Bool.{cases_eq, cases_lt}
use Rattle.std.proofs.lemmas.List.{take_more, get_or-take, length-take-le}
use Rattle.std.proofs.lemmas.List.Elements.{All-contains, Contains-push_cases}
use Rattle.std.specs.Prelude.{slice_get}
use Rattle.std.proofs.lemmas.Option.{get_or_from_slice_get, slice_get-get_or}
use Rattle.call_record.specs.Words.{IsRecord}
use Rattle.profile.specs.declared.rules.Rule.{Rule}
use Rattle.profile.specs.Rule.{Matches, Clash}
use Rattle.profile.specs.Policy.{IsClear}
use Rattle.profile.specs.Build.{ClashAt, IsFirstClash}

pub clear_none : IsClear []
clear_none r is_r a b in-a in-b ma mb = absurd (omega (arith, in-a.1))

same_verdict : (a b : Rule) (r : List ℕ) → IsRecord r → Matches a r → Matches b r → ¬ Clash a b → a.word ≡ b.word
same_verdict a b r is_r ma mb none =
    elim (cases_eq a.word b.word) [
      | inl same ↦ same
      | inr unlike ↦ absurd (none (unlike, (r, is_r, ma, mb)))
    ]

pub clear_more : (xs : List Rule) (x : Rule) → IsClear xs → All (λ a. ¬ Clash a x) xs → IsClear (xs ++ x ∷ [])
clear_more xs x clear none r is_r a b in-a in-b ma mb =
    elim (Contains-push_cases xs x a in-a) [
      | inl a-before ↦ elim (Contains-push_cases xs x b in-b) [
        | inl b-before ↦ clear r is_r a b a-before b-before ma mb
        | inr b-last ↦ same_verdict a b r is_r ma mb
            (subst (λ (y : Rule). ¬ Clash a y) b-last (All-contains (λ y. ¬ Clash y x) xs a none a-before))
      ]
      | inr a-last ↦ elim (Contains-push_cases xs x b in-b) [
        | inl b-before ↦ sym (same_verdict b a r is_r mb ma
            (subst (λ (y : Rule). ¬ Clash b y) a-last (All-contains (λ y. ¬ Clash y x) xs b none b-before)))
        | inr b-last ↦ ap (λ (y : Rule). y.word) (sym a-last ∙ b-last)
      ]
    ]

-- a clash with an earlier rule
pub clash_found : (rules earlier : List Rule) (i j : ℕ) (b : Rule) → earlier ≡ take j rules → j < length rules → b ≡ get_or rules j b
    → i < length earlier → HoldsAt (λ a. Clash a b) earlier i → ClashAt rules i j
clash_found rules earlier i j b is lt at in-earlier clash =
    let few : length earlier ≡ j = ap length is ∙ length-take-le j rules (omega (arith, lt)) in
    let below : i < j = omega (arith, few, in-earlier) in
    let same : get_or earlier i b ≡ get_or rules i b = ap (λ (xs : List Rule). get_or xs i b) is ∙ get_or-take j rules i b below in (
      below,
      get_or rules i b,
      b,
      slice_get-get_or rules i b (omega (arith, below, lt)),
      slice_get-get_or rules j b lt ∙ ap Some (sym at),
      subst (λ (a : Rule). Clash a b) same (clash b),
    )

-- where the earlier rules are clear, and none before place i of them clashes with b, it is the first clash
pub first_clash_found : (rules earlier : List Rule) (i j : ℕ) (b : Rule) → earlier ≡ take j rules → j < length rules → b ≡ get_or rules j b
    → i < length earlier → HoldsAt (λ a. Clash a b) earlier i → All (λ a. ¬ Clash a b) (take i earlier) → IsClear (take j rules)
    → IsFirstClash rules i j
first_clash_found rules earlier i j b is lt at in-earlier clash least clear = record {
  clash = clash_found rules earlier i j b is lt at in-earlier clash;
  second_least = clear;
  first_least = λ k (below, a, b', at-k, at-j, other).
      elim (cases_lt k i) [
        | inr past ↦ past
        | inl before ↦
            let few : length earlier ≡ j = ap length is ∙ length-take-le j rules (omega (arith, lt)) in
            let few-i : length (take i earlier) ≡ i = length-take-le i earlier (omega (arith, in-earlier)) in
            let same : b' ≡ b = sym (get_or_from_slice_get rules j b' b at-j) ∙ sym at in
            let here : get_or (take i earlier) k a ≡ a =
            get_or-take i earlier k a before ∙ ap (λ (xs : List Rule). get_or xs k a) is ∙ get_or-take j rules k a below
            ∙ get_or_from_slice_get rules k a a at-k in
            absurd (All-contains (λ x. ¬ Clash x b) (take i earlier) a least (k, omega (arith, few-i, before), here)
            (subst (λ (y : Rule). Clash a y) same other))
      ];
}

-- the earlier rules stay clear with the next
pub clear_next : (rules earlier : List Rule) (j : ℕ) (b : Rule) → earlier ≡ take j rules → j < length rules → b ≡ get_or rules j b
    → IsClear (take j rules) → All (λ a. ¬ Clash a b) earlier → IsClear (take (j + 1) rules)
clear_next rules earlier j b is lt at clear none =
    let more : take (j + 1) rules ≡ take j rules ++ b ∷ [] = take_more rules j b lt ∙ ap (λ (y : Rule). take j rules ++ y ∷ []) (sym at) in
    subst IsClear (sym more) (clear_more (take j rules) b clear (subst (All (λ a. ¬ Clash a b)) is none))

-- ---- no rule clashes with an earlier one

rule_there : (rules : List Rule) (j : ℕ) → j < length rules → (b : Rule) × (slice_get rules j ≡ Some b)
rule_there [] j lt = absurd (omega (arith, lt))
rule_there (x ∷ xs) zero lt = (x, refl)
rule_there (x ∷ xs) (suc j) lt = rule_there xs j (omega (arith, lt))

none_before : (rules : List Rule) (j : ℕ) (b : Rule) → j < length rules → slice_get rules j ≡ Some b
    → ¬ ((i : ℕ) × ClashAt rules i j) → All (λ a. ¬ Clash a b) (take j rules)
none_before rules j b lt at none k d in-earlier clash =
    let few : length (take j rules) ≡ j = length-take-le j rules (omega (arith, lt)) in
    let below : k < j = omega (arith, few, in-earlier) in
    let same : get_or (take j rules) k d ≡ get_or rules k d = get_or-take j rules k d below in
    let at-k : slice_get rules k ≡ Some (get_or rules k d) = slice_get-get_or rules k d (omega (arith, below, lt)) in
    none (k, (below, get_or rules k d, b, at-k, at, subst (λ (a : Rule). Clash a b) same clash))

pub clear_still : (rules : List Rule) (j : ℕ) → j < length rules → IsClear (take j rules) → ¬ ((i : ℕ) × ClashAt rules i j)
    → IsClear (take (j + 1) rules)
clear_still rules j lt clear none =
    let there = rule_there rules j lt in
    clear_next rules (take j rules) j there.0 refl lt (sym (get_or_from_slice_get rules j there.0 there.0 there.1)) clear
    (none_before rules j there.0 lt there.1 none)
