-- After the last rule.
use Rattle.std.proofs.Common.{◌≡◌, ◌≢◌, ℕ, ◌<◌, ◌≤◌, Bool, true, false, List, length, refl, subst, inl, inr, ◌⊎◌, arith}
use Rattle.std.specs.Prelude.{slice_get, slice_index_or, Some, IsTrue, ◌↔◌}
use Rattle.std.proofs.lemmas.Option.{get_or_from_slice_get, slice_get_within}
use Rattle.machines.specs.declared.arch.Arch.{Arch}
use Rattle.profile.specs.declared.rules.Rule.{Rule}
use Rattle.profile.specs.Policy.{Policy}
use Rattle.cert_state.specs.declared.literal.Lit.{Lit}
use Rattle.cert_check.specs.Agree.{IsYesRule, IsNoRule, IsLeft, IsRuleOf, RulesAgree}
use Rattle.cert_check.specs.inner.Judged.{RulesSoFar}

-- what holds of each place holds of the element there
pub each_at : {X : Type 0} (P : ℕ → X → Type 0) (xs : List X) (n place : ℕ) (x : X) → length xs ≤ n → slice_get xs place ≡ Some x
    → ((k : ℕ) (d : X) → k < n → P k (slice_index_or xs k d)) → P place x
each_at P xs n place x enough at h =
    subst (P place) (get_or_from_slice_get xs place x x at) (h place x (omega (arith, enough, slice_get_within xs place x at)))

module _ (policy : Policy) (out : List ℕ) (met : List (ℕ
    × ℕ)) (known : List Lit) (v : ℕ) (arch : Arch) (n : ℕ) (enough : length policy.rules ≤ n) where
  -- no rule is yes with the verdict
  none_sure : (others : Bool) → RulesSoFar out met known v arch policy.rules n others
      → (place : ℕ) (rule : Rule) → IsRuleOf policy out arch place rule
      → IsYesRule met known place rule → rule.word ≢ v
  none_sure others so place rule of =
      each_at (λ k x. IsLeft out arch k x → IsYesRule met known k x
      → x.word ≢ v) policy.rules n place rule enough of.stands so.none_sure of.left

  -- where one differs, the rules do not agree
  pub none_agree : RulesSoFar out met known v arch policy.rules n true → RulesAgree policy out met known v arch → ⊥
  none_agree so (inl one) = none_sure true so one.place one.rule one.is_of one.is_yes one.word
  none_agree so (inr none) =
      let found = so.another refl in
      elim (none.each found.place found.rule (record { stands = found.stands; left = found.left })) [
        | inl fails ↦ found.other.0 fails
        | inr e ↦ found.other.1 e
      ]

  -- where none does, they agree if the default verdict is this one
  pub default_agrees : RulesSoFar out met known v arch policy.rules n false → (b : Bool) → (IsTrue b ↔ (policy.default_word ≡ v))
      → (IsTrue b ↔ RulesAgree policy out met known v arch)
  default_agrees so b test = (λ t. agree (test.0 t), λ h. test.1 (is_default h)) where
    settled : (place : ℕ) (rule : Rule) → IsRuleOf policy out arch place rule → IsNoRule met known place rule ⊎ (rule.word ≡ v)
    settled place rule of =
        each_at (λ k x. IsLeft out arch k x → IsNoRule met known k x
        ⊎ (x.word ≡ v)) policy.rules n place rule enough of.stands (so.settled refl) of.left

    agree : policy.default_word ≡ v → RulesAgree policy out met known v arch
    agree default = inr (record {
      none_yes = λ place rule of sure.
          elim (settled place rule of) [ inl fails ↦ fails.1 sure | inr e ↦ none_sure false so place rule of sure e ];
      default = default;
      each = settled;
    })

    is_default : RulesAgree policy out met known v arch → policy.default_word ≡ v
    is_default (inl one) = absurd (none_sure false so one.place one.rule one.is_of one.is_yes one.word)
    is_default (inr none) = none.default
