-- Where each rule is kept or gives way to one that is, the profile of those that are kept settles them.
use Rattle.std.proofs.Common.{◌≡◌, ℕ, ◌+◌, ◌<◌, ◌≤◌, inl, inr, true, false, List, length, get_or, refl, sym, ◌∙◌, ap, subst, arith, Some}
use Rattle.std.specs.Prelude.{slice_get}
use Rattle.std.specs.List.{All, Contains}
use Rattle.std.proofs.lemmas.List.Elements.{All-contains}
use Rattle.std.proofs.lemmas.Bool.{cases_lt}
use Rattle.std.proofs.lemmas.Option.{same_Some, slice_get-get_or}
use Rattle.profile.specs.declared.rules.Rule.{Rule}
use Rattle.profile.specs.Rule.{Matches}
use Rattle.profile.specs.Policy.{Policy, IsClear}
use Rattle.engines.specs.declared.settling.choice.Choice.{Choice}
use Rattle.engines.specs.Settled.{Precedes, Counts, Settles, GivesWay, EachGivesWay}

-- two rules that each count before the other stand at one place
same_place : (choice : Choice) (i j : ℕ) (a b : Rule) → Precedes choice i a j b → Precedes choice j b i a → i ≡ j
same_place choice i j a b ab ba =
    let ij : i ≤ j = elim ab.1 [
      | inl t ↦ let e : true ≡ false = sym t ∙ ba.0 in cc
      | inr le ↦ le
    ] in
    let ji : j ≤ i = elim ba.1 [
      | inl t ↦ let e : true ≡ false = sym t ∙ ab.0 in cc
      | inr le ↦ le
    ] in
    omega arith

-- the rule that counts is kept
pub counted_is_kept : (choice : Choice) (rules kept : List Rule) (r : List ℕ) (i : ℕ) (rule : Rule) → EachGivesWay choice rules kept
    → Counts choice rules r i rule → Contains kept rule
counted_is_kept choice rules kept r i rule each counts =
    elim (each i rule counts.at) [
      | inl has ↦ has
      | inr way ↦
          let j = way.0 in
          let other = way.1 in
          let first = counts.precedes j other way.2 (way.4 r counts.matches) in
          let here : i ≡ j = same_place choice i j rule other first way.5 in
          let at : slice_get rules i ≡ Some other = subst (λ k. slice_get rules k ≡ Some other) (sym here) way.2 in
          let same : other ≡ rule = same_Some other rule (sym at ∙ counts.at) in
          subst (Contains kept) same way.3
    ]

pub settles : (choice : Choice) (rules : List Rule) (p : Policy) → IsClear p.rules → All (Contains rules) p.rules
    → EachGivesWay choice rules p.rules → Settles choice rules p
settles choice rules p clear among each = record {
  counted = λ r i rule is_record native counts.
      let mine : Contains p.rules rule = counted_is_kept choice rules p.rules r i rule each counts in
      record {
        foreign = λ not. absurd (not native);
        matched = λ _ other in_p m. clear r is_record rule other mine in_p counts.matches m;
        unmatched = λ _ none. absurd (All-contains (λ k. ¬ Matches k r) p.rules rule none mine counts.matches);
      };
  unmatched = λ r native none. record {
    foreign = λ not. absurd (not native);
    matched = λ _ other in_p m.
        absurd (All-contains (λ k. ¬ Matches k r) rules other none (All-contains (Contains rules) p.rules other among in_p) m);
    unmatched = λ _ _. refl;
  };
}

-- one place further
pub each_further : (choice : Choice) (rules kept : List Rule) (n : ℕ) (x : Rule) → n < length rules → x ≡ get_or rules n x
    → ((k : ℕ) (rule : Rule) → k < n → slice_get rules k ≡ Some rule → GivesWay choice rules kept k rule)
    → GivesWay choice rules kept n x
    → (k : ℕ) (rule : Rule) → k < n + 1 → slice_get rules k ≡ Some rule → GivesWay choice rules kept k rule
each_further choice rules kept n x within is before here k rule lt at =
    elim (cases_lt k n) [
      | inl less ↦ before k rule less at
      | inr le ↦
          let e : n ≡ k = omega (arith, le, lt) in
          let at_n : slice_get rules n ≡ Some x = slice_get-get_or rules n x within ∙ ap Some (sym is) in
          let at_k : slice_get rules k ≡ Some x = subst (λ m. slice_get rules m ≡ Some x) e at_n in
          let same : x ≡ rule = same_Some x rule (sym at_k ∙ at) in
          subst (λ y. GivesWay choice rules kept k y) same (subst (λ m. GivesWay choice rules kept m x) e here)
    ]
