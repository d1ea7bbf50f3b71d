-- Where a rule without conditions says a verdict of each number that is possible, it is the profile's.
use Rattle.std.proofs.Common.{◌≡◌, ℕ, ◌+◌, ◌<◌, ◌≤◌, List, length, Option, Some, None, sym, ◌∙◌, ap, subst, inl, inr, arith}
use Rattle.std.specs.Prelude.{All, Contains, slice_get}
use Rattle.std.specs.Option.{IfSome, IsSomeAnd, MatchOption}
use Rattle.std.proofs.lemmas.Bool.{cases_lt, cases_eq}
use Rattle.std.proofs.lemmas.List.Elements.{All-contains, All-nil}
use Rattle.std.proofs.lemmas.Option.{same_Some, slice_get_within}
use Rattle.call_record.specs.Words.{IsRecord, word}
use Rattle.machines.specs.declared.arch.Arch.{Arch}
use Rattle.machines.specs.Arch.{token_of}
use Rattle.profile.specs.Condition.{Meets}
use Rattle.profile.specs.Latest.{IsFor, IsLatest, StandsAt}
use Rattle.profile.specs.Policy.{IsClear, Policy, Says}
use Rattle.profile.specs.Rule.{Matches, argument_of}
use Rattle.profile.specs.declared.conditions.Cond.{Cond}
use Rattle.profile.specs.declared.rules.Rule.{Rule}
use Rattle.cert_state.specs.declared.literal.Lit.{Lit}
use Rattle.cert_state.specs.Literals.{Holds}
use Rattle.cert_state.specs.Points.{HasNoPoint, IsPoint, IsRange}
use Rattle.cert_form.specs.Nodes.{PlainNode}
use Rattle.cert_check.specs.Several.{AreSaidOf, IsSaidOf, ReturnAgrees, SaysAlone, SaysOfEach}
use Rattle.cert_check.proofs.Agreement.{AreMet, AreOut, agrees_sound, foreign_gets_zero, point, word_is}
use Rattle.cert_check.proofs.Elements.{contains_at}

module _ (r : List ℕ) (rec : IsRecord r) (policy : Policy) (clear : IsClear policy.rules) where
  -- a rule without conditions for the record's call matches
  alone_matches : (arch : Arch) (v : ℕ) (rule : Rule) → word r 1 ≡ token_of arch → IsFor (token_of arch) (word r 0) rule → SaysAlone v rule
      → Matches rule r
  alone_matches arch v rule machine its says = record {
    machine = machine ∙ sym its.machine;
    number = sym its.number;
    conditions = subst (All (λ (c : Cond). Meets c (argument_of r c.index))) (sym says.none) (All-nil (λ (c : Cond). Meets c (argument_of r c.index)));
  }

  each_sound : (known : List Lit) (v : ℕ) → All (λ l. Holds l r) known → SaysOfEach policy known v → Says policy r v
  each_sound known v so (k, arch, inside, at, its) =
      let listed : Contains policy.machines arch = (k, inside, at) in
      let machine : word r 1 ≡ token_of arch = word_is r rec known so 1 (token_of arch) its.is_of in
      let between = its.range.between (word r 0) (point r rec known so 0) in
      let said : IsSaidOf policy v arch (word r 0) = its.each (word r 0) between.0 between.1 in
      let matches = alone_matches arch v said.rule machine said.is_for said.says in
      let has = contains_at policy.rules said.place said.rule said.stands in
      record {
        foreign = foreign_gets_zero r rec known so policy v arch listed machine its.foreign;
        matched = λ native rule stands m. sym said.says.word ∙ clear r rec said.rule rule has stands matches m;
        unmatched = λ native none. absurd (All-contains (λ rule. ¬ Matches rule r) policy.rules said.rule none has matches);
      }

  -- what a return's node settles is what the profile says
  pub return_sound : (n : PlainNode) (v : ℕ) → ReturnAgrees policy n v → All (λ l. Holds l r) n.known
      → AreOut policy n.out r → AreMet policy n.met r → Says policy r v
  return_sound n v (inl agrees) so gone met = agrees_sound r rec n.known so policy n.out n.met v clear agrees gone met
  return_sound n v (inr (sharp, each)) so gone met = each_sound n.known v so each

module _ (v token nr : ℕ) (rules : List Rule) where
  -- a walk from the last rule for a call has come to `next`: none that it has passed says v without conditions
  pub record HasPassed (next : Option ℕ) : Type 0 where
    pub end : ℕ
    pub latest : IsLatest rules token nr end next
    pub passed : (k : ℕ) (rule : Rule) → end ≤ k → slice_get rules k ≡ Some rule → IsFor token nr rule → SaysAlone v rule → ⊥

  pub has_begun : (next : Option ℕ) → IsLatest rules token nr (length rules) next → HasPassed next
  has_begun next latest = record {
    end = length rules;
    latest = latest;
    passed = λ k rule past at its says. let within = slice_get_within rules k rule at in absurd (omega (arith, past, within));
  }

  -- the rule at the next place is for the call
  pub next_is_for : (next : Option ℕ) (place : ℕ) (rule : Rule) → next ≡ Some place → HasPassed next → slice_get rules place ≡ Some rule
      → IsFor token nr rule
  next_is_for next place rule here h at =
      let stands : StandsAt rules token nr h.end place = subst (λ o. IfSome o (StandsAt rules token nr h.end)) here h.latest.stands in
      subst (IsFor token nr) (same_Some stands.rule rule (sym stands.at ∙ at)) stands.is_for

  -- where the rule at the next place does not say v alone, the walk goes on
  pub goes_on : (next more : Option ℕ) (place : ℕ) (rule : Rule) → next ≡ Some place → HasPassed next → slice_get rules place ≡ Some rule
      → (SaysAlone v rule → ⊥) → IsLatest rules token nr place more → HasPassed more
  goes_on next more place rule here h at silent latest = record {
    end = place;
    latest = latest;
    passed = λ k x past at-k its says. elim (cases_eq k place) [
      | inl same ↦ silent (subst (SaysAlone v) (same_Some x rule (sym at-k ∙ ap (slice_get rules) same ∙ at)) says)
      | inr other ↦ elim (cases_lt k h.end) [
        | inr seen ↦ h.passed k x seen at-k its says
        | inl ahead ↦
            let le : k ≤ place = subst (λ o. IsSomeAnd o (λ j. k ≤ j)) here
            (h.latest.greatest k (record { rule = x; before = ahead; at = at-k; is_for = its })) in
            absurd (omega (arith, past, other, le))
      ]
    ];
  }

  -- where it ends, no rule for the call says v alone
  pub none_says : (next : Option ℕ) → next ≡ None → HasPassed next → (k : ℕ) (rule : Rule) → slice_get rules k ≡ Some rule
      → IsFor token nr rule → SaysAlone v rule → ⊥
  none_says next none h k rule at its says = elim (cases_lt k h.end) [
    | inr seen ↦ h.passed k rule seen at its says
    | inl ahead ↦
        let more : IsSomeAnd next (λ j. k ≤ j) = h.latest.greatest k (record { rule = rule; before = ahead; at = at; is_for = its }) in
        subst (λ o. IsSomeAnd o (λ j. k ≤ j)) none more
  ]

-- a word without a range has no point
pub no_range : (known : List Lit) (found : Option (ℕ × ℕ)) → found ≡ None
    → MatchOption found (HasNoPoint known 0) (λ p. IsRange known 0 p.0 p.1) → (u : ℕ) → IsPoint known 0 u → ⊥
no_range known found none h = subst (λ o. MatchOption o (HasNoPoint known 0) (λ p. IsRange known 0 p.0 p.1)) none h

-- one number more, and the last
module _ (policy : Policy) (v : ℕ) (arch : Arch) (low : ℕ) where
  pub one_more_said : (n : ℕ) → ((k : ℕ) → low ≤ k → k < n → IsSaidOf policy v arch k) → IsSaidOf policy v arch n
      → (k : ℕ) → low ≤ k → k < n + 1 → IsSaidOf policy v arch k
  one_more_said n before here k from to = elim (cases_lt k n) [
    | inl earlier ↦ before k from earlier
    | inr later ↦ let same : n ≡ k = omega arith in subst (IsSaidOf policy v arch) same here
  ]

  pub up_to_last : (high n : ℕ) → n ≡ high → ((k : ℕ) → low ≤ k → k < n → IsSaidOf policy v arch k) → IsSaidOf policy v arch high
      → AreSaidOf policy v arch low high
  up_to_last high n last before here k from to =
      let below : k < n + 1 = omega arith in
      one_more_said n before (subst (IsSaidOf policy v arch) (sym last) here) k from below
