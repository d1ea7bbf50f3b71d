-- A walk over the rules for the one call that is possible, from the last to the first.
use Rattle.std.proofs.Common.{◌≡◌, ◌≢◌, ℕ, ◌+◌, ◌<◌, ◌≤◌, Bool, true, false, List, length, Option, Some, None, sym, ◌∙◌, ap, subst, refl, inl, inr, ◌⊎◌, arith}
use Rattle.std.specs.Prelude.{slice_get, slice_index_or}
use Rattle.std.specs.Option.{IfSome, IsSomeAnd}
use Rattle.std.proofs.lemmas.Bool.{cases_lt, cases_eq}
use Rattle.std.proofs.lemmas.Option.{same_Some, slice_get_within, slice_get-get_or}
use Rattle.machines.specs.declared.arch.Arch.{Arch}
use Rattle.machines.specs.Arch.{token_of}
use Rattle.profile.specs.declared.rules.Rule.{Rule}
use Rattle.profile.specs.Latest.{IsFor, StandsAt, IsLatest}
use Rattle.cert_state.specs.declared.literal.Lit.{Lit}
use Rattle.cert_check.specs.Agree.{IsYesRule, IsNoRule, IsLeft}
use Rattle.cert_check.specs.inner.Judged.{AnotherIsLeft, IsOnlyNumber, IsOtherNumber, RulesSoFar}

-- how many places a walk has before it at most
abbrev pub height : Option ℕ → ℕ
height None = 0
height (Some place) = place + 1

-- the next place is one of the list
abbrev pub IsInside : List Rule → Option ℕ → Type 0
IsInside rules next = IfSome next (λ place. place < length rules)

-- what stands for a call is inside
pub inside : (rules : List Rule) (token nr end : ℕ) (next : Option ℕ) → IsLatest rules token nr end next → IsInside rules next
inside rules token nr end None latest = tt
inside rules token nr end (Some place) latest = slice_get_within rules place latest.stands.rule latest.stands.at

pub inside_at : (rules : List Rule) (next : Option ℕ) (place : ℕ) → next ≡ Some place → IsInside rules next → place < length rules
inside_at rules next place here h = subst (IsInside rules) here h

-- the rule that the code reads there
pub stands_there : (rules read : List Rule) (next : Option ℕ) (place : ℕ) (rule : Rule) → read ≡ rules → rule ≡ slice_index_or read place rule
    → next ≡ Some place → IsInside rules next → slice_get rules place ≡ Some rule
stands_there rules read next place rule same is here h =
    let at = subst (λ (xs : List Rule). rule ≡ slice_index_or xs place rule) same is in
    slice_get-get_or rules place rule (inside_at rules next place here h) ∙ ap Some (sym at)

-- what is told of the calls before a rule is told of its own
pub earlier_for : (rules : List Rule) (token nr place : ℕ) (rule : Rule) (more : Option ℕ) → IsFor token nr rule
    → IsLatest rules (token_of rule.arch) rule.nr place more → IsLatest rules token nr place more
earlier_for rules token nr place rule more its latest =
    subst (λ n. IsLatest rules token n place more) its.number (subst (λ t. IsLatest rules t rule.nr place more) its.machine latest)

-- the walk goes down
pub goes_down : (rules : List Rule) (token nr place : ℕ) (next more : Option ℕ) → next ≡ Some place → IsLatest rules token nr place more
    → height more < height next
goes_down rules token nr place next more here latest = subst (λ (o : Option ℕ). height more < height o) (sym here) (down more latest.stands) where
  down : (more : Option ℕ) → IfSome more (StandsAt rules token nr place) → height more < place + 1
  down None h = omega arith
  down (Some k) h = omega (arith, h.before)

module _ (out : List ℕ) (met : List (ℕ × ℕ)) (known : List Lit) (v : ℕ) (arch : Arch) (rules : List Rule) (nr : ℕ) where
  -- a rule at a place that is left is not yes with the verdict; and is no or has the verdict, unless others were met
  abbrev pub IsFine : Bool → ℕ → Rule → Type 0
  IsFine others place rule =
      IsLeft out arch place rule
      → (IsYesRule met known place rule → rule.word ≢ v) × (others ≡ false → IsNoRule met known place rule ⊎ (rule.word ≡ v))

  -- the walk has come to `next`: those that it has passed are fine
  pub record HasCome (next : Option ℕ) (others : Bool) : Type 0 where
    pub end : ℕ
    pub latest : IsLatest rules (token_of arch) nr end next
    pub passed : (k : ℕ) (rule : Rule) → end ≤ k → slice_get rules k ≡ Some rule → IsFine others k rule
    pub another : others ≡ true → AnotherIsLeft out met known v arch rules

  pub begins : (next : Option ℕ) → IsLatest rules (token_of arch) nr (length rules) next → HasCome next false
  begins next latest = record {
    end = length rules;
    latest = latest;
    passed = λ k rule past at. let within = slice_get_within rules k rule at in absurd (omega (arith, past, within));
    another = λ e. absurd (let untrue : false ≡ true = e in cc);
  }

  -- the rule at the next place is for the call
  pub comes_to : (next : Option ℕ) (others : Bool) (place : ℕ) → next ≡ Some place → HasCome next others
      → (rule : Rule) × (slice_get rules place ≡ Some rule) × IsFor (token_of arch) nr rule
  comes_to next others place here h =
      let stands : StandsAt rules (token_of arch) nr h.end place =
      subst (λ o. IfSome o (StandsAt rules (token_of arch) nr h.end)) here h.latest.stands in
      (stands.rule, stands.at, stands.is_for)

  pub is_for_call : (next : Option ℕ) (others : Bool) (place : ℕ) (rule : Rule) → next ≡ Some place → HasCome next others
      → slice_get rules place ≡ Some rule → IsFor (token_of arch) nr rule
  is_for_call next others place rule here h at =
      let found = comes_to next others place here h in
      subst (IsFor (token_of arch) nr) (same_Some found.0 rule (sym found.1 ∙ at)) found.2

  pub next_inside : (next : Option ℕ) (others : Bool) → HasCome next others → IsInside rules next
  next_inside next others h = inside rules (token_of arch) nr h.end next h.latest

  module _ (only : IsOnlyNumber known nr) where
    -- a rule for another call is fine
    other_call : (others : Bool) (place : ℕ) (rule : Rule) → (IsFor (token_of arch) nr rule → ⊥) → IsFine others place rule
    other_call others place rule apart left =
        let other : IsOtherNumber known rule.nr = only rule.nr (λ same. apart (record { machine = left.is_for; number = same })) in
        (λ yes. absurd (other.1 yes.0), λ _. inl (inl other.0, λ yes. other.1 yes.0))

    -- what was fine stays so
    stays : (others more : Bool) (place : ℕ) (rule : Rule) → (others ≡ true → more ≡ true) → IsFine others place rule → IsFine more place rule
    stays others more place rule grows fine left =
        let now = fine left in
        (now.0, λ none. now.1 (before others more grows none))
      where
        before : (others more : Bool) → (others ≡ true → more ≡ true) → more ≡ false → others ≡ false
        before false more grows none = refl
        before true more grows none = absurd (let t = grows refl in let untrue : false ≡ true = sym none ∙ t in cc)

    -- where the rule at the next place is fine, the walk goes on
    pub passes : (next more : Option ℕ) (others now : Bool) (place : ℕ) (rule : Rule) → next ≡ Some place → HasCome next others
        → slice_get rules place ≡ Some rule → IsLatest rules (token_of arch) nr place more
        → (others ≡ true → now ≡ true) → IsFine now place rule → (now ≡ true → AnotherIsLeft out met known v arch rules)
        → HasCome more now
    passes next more others now place rule here h at latest grows fine another = record {
      end = place;
      latest = latest;
      passed = λ k x past at-k. elim (cases_eq k place) [
        | inl same ↦
            subst (λ j. IsFine now j x) (sym same)
            (subst (IsFine now place) (same_Some rule x (sym at ∙ ap (slice_get rules) (sym same) ∙ at-k)) fine)
        | inr other ↦ elim (cases_lt k h.end) [
          | inr seen ↦ stays others now k x grows (h.passed k x seen at-k)
          | inl ahead ↦ other_call now k x (λ its.
              let le : k ≤ place = subst (λ o. IsSomeAnd o (λ j. k ≤ j)) here
              (h.latest.greatest k (record { rule = x; before = ahead; at = at-k; is_for = its })) in
              omega (arith, past, other, le))
        ]
      ];
      another = another;
    }

    -- where it ends, all rules are fine
    pub ends : (next : Option ℕ) (others : Bool) → next ≡ None → HasCome next others
        → RulesSoFar out met known v arch rules (length rules) others
    ends next others none h = record {
      none_sure = λ k d lt left. (fine_at k (slice_index_or rules k d) (slice_get-get_or rules k d lt) left).0;
      settled = λ e k d lt left. (fine_at k (slice_index_or rules k d) (slice_get-get_or rules k d lt) left).1 e;
      another = h.another;
    } where
      fine_at : (k : ℕ) (rule : Rule) → slice_get rules k ≡ Some rule → IsFine others k rule
      fine_at k rule at =
          elim (cases_lt k h.end) [
            | inr seen ↦ h.passed k rule seen at
            | inl ahead ↦ other_call others k rule (λ its.
                let more : IsSomeAnd next (λ j. k ≤ j) = h.latest.greatest k (record { rule = rule; before = ahead; at = at; is_for = its }) in
                subst (λ o. IsSomeAnd o (λ j. k ≤ j)) none more)
          ]
