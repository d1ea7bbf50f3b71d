-- What a profile says of a record, by the rules that match it.
use Rattle.std.proofs.Common.{◌≡◌, ℕ, suc, ◌==◌, ◌⊎◌, length, true, List, [], ◌∷◌, inl, inr, sym, ◌∙◌, subst, arith, refl}
use Rattle.std.specs.List.{All, Any, Contains}
use Rattle.std.specs.Prelude.{slice_index}
use Rattle.std.proofs.lemmas.Bool.{cases_Bool}
use Rattle.std.proofs.lemmas.Bool.Decides.{Decides-eqb, not_from_Decides}
use Rattle.std.proofs.lemmas.List.Elements.{All-cons, All-contains, All-nil}
use Rattle.call_record.specs.Words.{IsRecord}
use Rattle.machines.specs.declared.arch.Arch.{Arch}
use Rattle.machines.specs.Arch.{token_of}
use Rattle.machines.specs.Numbers.{HasCall, IsWithin, foreign_numbers}
use Rattle.profile.specs.declared.conditions.Cond.{Cond}
use Rattle.profile.specs.declared.rules.Rule.{Rule}
use Rattle.profile.specs.Condition.{Meets}
use Rattle.profile.specs.Policy.{IsClear, IsNative, Policy, Says}
use Rattle.profile.specs.Rule.{Matches, argument_of}
use Rattle.profile.specs.Said.{matches, said}
use Rattle.profile.proofs.SaidLaws.{Decides-matches, each_record_is_said_one_verdict}
use Rattle.rule_compile.specs.inner.Numbers.{IsFor, IsListed}
use Rattle.rule_compile.specs.inner.Stands.{IsClearOn, IsSaidBy, SaysNumber}
use Rattle.rule_compile.proofs.ForeignLaws.{native_not_foreign}

-- some rule matches the record, or none does
pub some_or_none : (rules : List Rule) (r : List ℕ)
    → ((rule : Rule) × Contains rules rule × Matches rule r) ⊎ All (λ rule. Matches rule r → ⊥) rules
some_or_none [] r = inr (All-nil (λ rule. Matches rule r → ⊥))
some_or_none (x ∷ xs) r = elim (cases_Bool (matches x r)) [
  | inl hit ↦ inl (x, (0, omega arith, refl), (Decides-matches x r).0 hit)
  | inr miss ↦ elim (some_or_none xs r) [
    | inl (rule, has, m) ↦ inl (rule, (suc has.0, omega (arith, has.1), has.2), m)
    | inr none ↦ inr (All-cons (λ rule. Matches rule r → ⊥) x xs (not_from_Decides _ (Decides-matches x r) miss) none)
  ]
]

-- what is said by rules of which no two disagree is one verdict
pub said_one : (rules : List Rule) (default v w : ℕ) (r : List ℕ) → IsClearOn rules r → IsSaidBy rules default r v → IsSaidBy rules default r w
    → v ≡ w
said_one rules default v w r clear (inl (a, has_a, ma, is_v)) (inl (b, has_b, mb, is_w)) = sym is_v ∙ clear a b has_a has_b ma mb ∙ is_w
said_one rules default v w r clear (inl (a, has_a, ma, is_v)) (inr (none, is_w)) =
    absurd (All-contains (λ rule. Matches rule r → ⊥) rules a none has_a ma)
said_one rules default v w r clear (inr (none, is_v)) (inl (b, has_b, mb, is_w)) =
    absurd (All-contains (λ rule. Matches rule r → ⊥) rules b none has_b mb)
said_one rules default v w r clear (inr (none, is_v)) (inr (none2, is_w)) = is_v ∙ sym is_w

module _ (p : Policy) (r : List ℕ) (clear : IsClear p.rules) (is_r : IsRecord r) where
  one_verdict : (v : ℕ) → Says p r v → said p r ≡ v
  one_verdict v says = sym ((each_record_is_said_one_verdict p r v clear is_r).0 says)

  -- of a native record the verdict of a rule that matches, or the default
  pub said_by : IsNative p r → (v : ℕ) → IsSaidBy p.rules p.default_word r v → said p r ≡ v
  said_by native v (inl (rule, has, m, is)) = one_verdict v (record {
    foreign = λ not. absurd (not native);
    matched = λ _ other there m2. sym is ∙ clear r is_r rule other has there m m2;
    unmatched = λ _ none. absurd (All-contains (λ rule. ¬ Matches rule r) p.rules rule none has m);
  })
  said_by native v (inr (none, is)) = one_verdict v (record {
    foreign = λ not. absurd (not native);
    matched = λ _ other there m2. absurd (All-contains (λ rule. Matches rule r → ⊥) p.rules other none there m2);
    unmatched = λ _ _. is;
  })

  pub said_is : IsNative p r → IsSaidBy p.rules p.default_word r (said p r)
  said_is native = elim (some_or_none p.rules r) [
    | inl (rule, has, m) ↦ inl (rule, has, m, sym (said_by native rule.word (inl (rule, has, m, refl))))
    | inr none ↦ inr (none, said_by native p.default_word (inr (none, refl)))
  ]

  -- of any other record that of a foreign one
  pub said_foreign : (IsNative p r → ⊥) → said p r ≡ 0
  said_foreign not = one_verdict 0 (record {
    foreign = λ _. refl;
    matched = λ native. absurd (not native);
    unmatched = λ native. absurd (not native);
  })

  pub clear_on : IsClearOn p.rules r
  clear_on a b has_a has_b ma mb = clear r is_r a b has_a has_b ma mb

-- a call with the token of a machine is native where its number is a listed machine's own
pub native_own : (p : Policy) (m : Arch) (r : List ℕ) → slice_index r 1 ≡ token_of m → Any (HasCall (token_of m) (slice_index r 0)) p.machines
    → IsNative p r
native_own p m r token own = subst (λ t. Any (HasCall t (slice_index r 0)) p.machines) (sym token) own

-- and not where it is foreign
pub foreign_other : (p : Policy) (m : Arch) (r : List ℕ) → IsListed p m → slice_index r 1 ≡ token_of m
    → Any (IsWithin (slice_index r 0)) (foreign_numbers p.machines m) → IsNative p r → ⊥
foreign_other p m r listed token foreign native =
    native_not_foreign p.machines m (slice_index r 0) listed.0 listed.1
    (subst (λ t. Any (HasCall t (slice_index r 0)) p.machines) token native) foreign

-- ---- a rule without conditions, and rules with the default verdict

pub matches_all : (rule : Rule) (token nr : ℕ) (r : List ℕ) → IsFor token nr rule → rule.conds.items ≡ [] → slice_index r 1 ≡ token
    → slice_index r 0 ≡ nr → Matches rule r
matches_all rule token nr r is none at number = record {
  machine = at ∙ sym is.0;
  number = number ∙ sym is.1;
  conditions =
      let P : Cond → Type 0 = λ c. Meets c (argument_of r c.index) in
      subst (All P) (sym none) (All-nil P);
}

pub says_unconditional : (rules : List Rule) (token nr default : ℕ) (rule : Rule) → Contains rules rule → IsFor token nr rule
    → rule.conds.items ≡ [] → SaysNumber rules token nr default rule.word
says_unconditional rules token nr default rule has is none r is_r at number clear =
    inl (rule, has, matches_all rule token nr r is none at number, refl)

pub says_default : (rules : List Rule) (token nr default : ℕ)
    → ((rule : Rule) → Contains rules rule → IsFor token nr rule → rule.word ≡ default) → SaysNumber rules token nr default default
says_default rules token nr default all r is_r at number clear = elim (some_or_none rules r) [
  | inl (rule, has, m) ↦ inl (rule, has, m, all rule has (sym m.machine ∙ at, sym m.number ∙ number))
  | inr none ↦ inr (none, refl)
]

pub none_by_length : {X : Type 0} (xs : List X) → true ≡ (length xs == 0) → xs ≡ []
none_by_length [] h = refl
none_by_length (x ∷ xs) h = absurd (let e = (Decides-eqb (length (x ∷ xs)) 0).0 (sym h) in omega (arith, e))
