-- What a profile may not answer it never answers.
use Rattle.std.proofs.Common.{◌≡◌, ◌≢◌, ℕ, suc, ◌==◌, Bool, true, false, ◌⊎◌, inl, inr, List, [], ◌∷◌, refl, ap, subst, sym, cond, ◌∙◌, arith}
use Rattle.std.specs.Prelude.{◌&&◌, ◌||◌, length, not}
use Rattle.std.specs.List.{All, Contains, list_any}
use Rattle.std.proofs.lemmas.Bool.{cases_Bool, eqb-false, eqb-true, eq-eqb}
use Rattle.std.proofs.lemmas.Bool.Decides.{not_from_Decides}
use Rattle.std.proofs.lemmas.List.Elements.{All-cons, All-head, All-nil, All-tail}
use Rattle.call_record.specs.Verdict.{action}
use Rattle.call_record.specs.Words.{word}
use Rattle.machines.specs.Arch.{token_of}
use Rattle.machines.specs.Numbers.{has_call}
use Rattle.profile.specs.declared.rules.Rule.{Rule}
use Rattle.profile.specs.declared.conditions.Cond.{Cond}
use Rattle.profile.specs.Condition.{Meets}
use Rattle.profile.specs.Rule.{Matches, argument_of}
use Rattle.profile.specs.Policy.{Policy, IsNative}
use Rattle.profile.specs.Said as said
use Rattle.profile.proofs.SaidLaws.{Decides-is_native, Decides-matches}
use Rattle.explain.specs.Answers.{default_may, gives, is_always, NeverAnswers, WhatMayNotNeverDoes}

-- no rule for the call gives it, so none that matches does
gives_not : (rule : Rule) (r : List ℕ) (token nr a : ℕ) → word r 1 ≡ token → word r 0 ≡ nr → Matches rule r
    → gives token nr a rule ≡ false → action rule.word ≢ a
gives_not rule r token nr a e1 e0 m not_given same =
    let machine : (token_of rule.arch == token) ≡ true = eq-eqb _ _ (sym m.machine ∙ e1) in
    let number : (rule.nr == nr) ≡ true = eq-eqb _ _ (sym m.number ∙ e0) in
    let given : (action rule.word == a) ≡ true = eq-eqb _ _ same in
    let yes_it_is : gives token nr a rule ≡ true = rw (machine, number, given) refl in
    cc

matched : (rules : List Rule) (r : List ℕ) (token nr a : ℕ) → word r 1 ≡ token → word r 0 ≡ nr
    → list_any (gives token nr a) rules ≡ false
    → ((rule : Rule) × Contains rules rule × Matches rule r × (action rule.word ≢ a)) ⊎ All (λ rule. ¬ Matches rule r) rules
matched [] r token nr a e1 e0 h = inr (All-nil (λ rule. ¬ Matches rule r))
matched (x ∷ xs) r token nr a e1 e0 h =
    by_test (gives token nr a x) refl h (matched xs r token nr a e1 e0) where
      Cases : Type 0
      Cases = ((rule : Rule) × Contains (x ∷ xs) rule × Matches rule r × (action rule.word ≢ a)) ⊎ All (λ rule. ¬ Matches rule r) (x ∷ xs)

      by_test : (t : Bool) → gives token nr a x ≡ t → (t || list_any (gives token nr a) xs) ≡ false
          → (list_any (gives token nr a) xs ≡ false
          → ((rule : Rule) × Contains xs rule × Matches rule r × (action rule.word ≢ a)) ⊎ All (λ rule. ¬ Matches rule r) xs) → Cases
      by_test true e g more = absurd (cc)
      by_test false e g more = elim (cases_Bool (said.matches x r)) [
        | inl hit ↦ let m : Matches x r = (Decides-matches x r).0 hit in
            inl (x, (0, omega arith, refl), m, gives_not x r token nr a e1 e0 m e)
        | inr miss ↦ elim (more g) [
          | inl (rule, (k, below, is), m, other) ↦ inl (rule, (suc k, omega (arith, below), is), m, other)
          | inr none ↦ inr (All-cons (λ rule. ¬ Matches rule r) x xs (not_from_Decides _ (Decides-matches x r) miss) none)
        ]
      ]

-- of a call of machines that are not listed
alien_never : (p : Policy) (token nr a : ℕ) → list_any (has_call token nr) p.machines ≡ false → (a == 0) ≡ false → NeverAnswers p token nr a
alien_never p token nr a h other r v e1 e0 says same =
    let alien : said.is_native p r ≡ false = rw (e1, e0) h in
    let zero_is : v ≡ 0 = says.foreign (not_from_Decides _ (Decides-is_native p r) alien) in
    eqb-false a 0 other (sym same ∙ ap action zero_is)

-- a rule for the call without conditions matches each record of it
always_hits : (rule : Rule) (r : List ℕ) (token nr : ℕ) → word r 1 ≡ token → word r 0 ≡ nr → is_always token nr rule ≡ true → Matches rule r
always_hits rule r token nr e1 e0 h = by (token_of rule.arch == token) refl (rule.nr == nr) refl rule.conds.items refl h where
  by : (m : Bool) → (token_of rule.arch == token) ≡ m → (n : Bool) → (rule.nr == nr) ≡ n → (cs : List Cond) → rule.conds.items ≡ cs
      → ((m && n) && (length cs == 0)) ≡ true → Matches rule r
  by true em true en [] ec k = record {
    machine = e1 ∙ sym (eqb-true _ _ em);
    number = e0 ∙ sym (eqb-true _ _ en);
    conditions =
        subst (λ (cs : List Cond). All (λ c. Meets c (argument_of r c.index)) cs) (sym ec) (All-nil (λ c. Meets c (argument_of r c.index)));
  }
  by true em true en (c ∷ cs) ec k = absurd (omega (arith, eqb-true (length (c ∷ cs)) 0 k))
  by true em false en cs ec k = absurd (cc)
  by false em n en cs ec k = absurd (cc)

-- so that one of the rules matches
some_hits : (rules : List Rule) (r : List ℕ) (token nr : ℕ) → word r 1 ≡ token → word r 0 ≡ nr → list_any (is_always token nr) rules ≡ true
    → All (λ rule. ¬ Matches rule r) rules → ⊥
some_hits [] r token nr e1 e0 h none = absurd (cc)
some_hits (x ∷ xs) r token nr e1 e0 h none =
    by_test (is_always token nr x) refl h (λ g. some_hits xs r token nr e1 e0 g (All-tail (λ rule. ¬ Matches rule r) x xs none)) where
      by_test : (t : Bool) → is_always token nr x ≡ t → (t || list_any (is_always token nr) xs) ≡ true
          → (list_any (is_always token nr) xs ≡ true → ⊥) → ⊥
      by_test true e g more = All-head (λ rule. ¬ Matches rule r) x xs none (always_hits x r token nr e1 e0 e)
      by_test false e g more = more g

-- of others
native_never : (p : Policy) (token nr a : ℕ) → list_any (has_call token nr) p.machines ≡ true
    → (default_may p token nr a || list_any (gives token nr a) p.rules) ≡ false → NeverAnswers p token nr a
native_never p token nr a h g r v e1 e0 says same =
    by_default (action p.default_word == a) refl (list_any (is_always token nr) p.rules) refl g where
      its : IsNative p r
      its = (Decides-is_native p r).0 (rw (e1, e0) h)

      -- by no rule
      rest : (All (λ rule. ¬ Matches rule r) p.rules → ⊥) → list_any (gives token nr a) p.rules ≡ false → ⊥
      rest never k = elim (matched p.rules r token nr a e1 e0 k) [
        | inl (rule, has, m, other) ↦ other (ap action (sym (says.matched its rule has m)) ∙ same)
        | inr none ↦ never none
      ]

      by_default : (t : Bool) → (action p.default_word == a) ≡ t → (w : Bool) → list_any (is_always token nr) p.rules ≡ w
          → ((t && not w) || list_any (gives token nr a) p.rules) ≡ false → ⊥
      by_default true e false f k = absurd (cc)
      by_default true e true f k = rest (some_hits p.rules r token nr e1 e0 f) k
      by_default false e w f k = rest (λ none. eqb-false _ _ e (ap action (sym (says.unmatched its none)) ∙ same)) k

pub may_not_never : WhatMayNotNeverDoes
may_not_never p token nr a h = by_test (list_any (has_call token nr) p.machines) refl h where
  by_test : (t : Bool) → list_any (has_call token nr) p.machines ≡ t
      → cond t (default_may p token nr a || list_any (gives token nr a) p.rules) (a == 0) ≡ false → NeverAnswers p token nr a
  by_test true e k = native_never p token nr a e k
  by_test false e k = alien_never p token nr a e k
