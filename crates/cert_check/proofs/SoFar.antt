-- One element more, and one rule more.
use Rattle.std.proofs.Common.{◌≡◌, ◌≢◌, ℕ, ◌+◌, ◌<◌, Bool, true, false, List, length, ap, sym, subst, ◌∙◌, inl, inr, ◌⊎◌, arith}
use Rattle.std.specs.Prelude.{slice_index_or, Some}
use Rattle.std.proofs.lemmas.Bool.{cases_lt}
use Rattle.std.proofs.lemmas.List.{get_or_default}
use Rattle.std.proofs.lemmas.Option.{slice_get-get_or}
use Rattle.machines.specs.declared.arch.Arch.{Arch}
use Rattle.profile.specs.declared.rules.Rule.{Rule}
use Rattle.cert_state.specs.declared.literal.Lit.{Lit}
use Rattle.cert_check.specs.Agree.{IsYesRule, IsNoRule, IsLeft}
use Rattle.cert_check.specs.declared.judged.Bearing.TheVariants.{Agrees}
use Rattle.cert_check.specs.inner.Judged.{Bears, RulesSoFar, IsOther}

-- what holds of the first elements at their places and of the next one holds of one more
pub one_more_placed : {X : Type 0} (P : ℕ → X → Type 0) (xs : List X) (n : ℕ) (x : X) → n < length xs → slice_index_or xs n x ≡ x
    → ((k : ℕ) (d : X) → k < n → P k (slice_index_or xs k d)) → P n x → (k : ℕ) (d : X) → k < n + 1 → P k (slice_index_or xs k d)
one_more_placed P xs n x inside at before here k d lt =
    elim (cases_lt k n) [
      | inl earlier ↦ before k d earlier
      | inr later ↦
          let same : n ≡ k = omega arith in
          subst (λ j. P j (slice_index_or xs j d)) same (subst (P n) (sym (get_or_default xs n d x inside ∙ at)) here)
    ]

pub one_more : {X : Type 0} (P : X → Type 0) (xs : List X) (n : ℕ) (x : X) → n < length xs → slice_index_or xs n x ≡ x
    → ((k : ℕ) (d : X) → k < n → P (slice_index_or xs k d)) → P x → (k : ℕ) (d : X) → k < n + 1 → P (slice_index_or xs k d)
one_more P xs n x inside at before here = one_more_placed (λ k x. P x) xs n x inside at before here

-- the same where the next element is named by its place
pub one_more_at : {X : Type 0} (P : X → Type 0) (xs : List X) (n : ℕ) (d0 : X) → n < length xs
    → ((k : ℕ) (d : X) → k < n → P (slice_index_or xs k d)) → P (slice_index_or xs n d0)
    → (k : ℕ) (d : X) → k < n + 1 → P (slice_index_or xs k d)
one_more_at P xs n d0 inside before here =
    one_more P xs n (slice_index_or xs n d0) inside (get_or_default xs n (slice_index_or xs n d0) d0 inside) before here

module _ (out : List ℕ) (met : List (ℕ
    × ℕ)) (known : List Lit) (v : ℕ) (arch : Arch) (rules : List Rule) (n : ℕ) (others : Bool) (rule : Rule)
    (inside : n < length rules) (at : slice_index_or rules n rule ≡ rule) (so : RulesSoFar out met known v arch rules n others) where
  -- a rule of another machine, one that is out, one with another verdict where such a one is left, or one that agrees
  pub rule_passed : (IsLeft out arch n rule → ((others ≡ true) × (rule.word ≢ v)) ⊎ Bears met known v n rule Agrees)
      → RulesSoFar out met known v arch rules (n + 1) others
  rule_passed gone = record {
    none_sure = one_more_placed (λ k x. IsLeft out arch k x → IsYesRule met known k x
        → x.word ≢ v) rules n rule inside at so.none_sure (λ left yes. elim (gone left) [ inl past ↦ past.1 | inr agrees ↦ agrees.0 yes ]);
    settled = λ e. one_more_placed (λ k x. IsLeft out arch k x → IsNoRule met known k x
        ⊎ (x.word ≡ v)) rules n rule inside at (so.settled e) (λ left. elim (gone left) [
          | inl past ↦ absurd (let untrue : false ≡ true = sym e ∙ past.0 in cc)
          | inr agrees ↦ agrees.1
        ]);
    another = so.another;
  }

  -- a rule with the verdict, or one that is no
  pub rule_settled : (IsYesRule met known n rule → rule.word ≢ v) → IsNoRule met known n rule ⊎ (rule.word ≡ v)
      → RulesSoFar out met known v arch rules (n + 1) others
  rule_settled not_sure fine = record {
    none_sure = one_more_placed (λ k x. IsLeft out arch k x → IsYesRule met known k x
        → x.word ≢ v) rules n rule inside at so.none_sure (λ _. not_sure);
    settled = λ e. one_more_placed (λ k x. IsLeft out arch k x → IsNoRule met known k x
        ⊎ (x.word ≡ v)) rules n rule inside at (so.settled e) (λ _. fine);
    another = so.another;
  }

  -- a rule with another verdict that is not no
  pub rule_is_other : IsLeft out arch n rule → IsOther met known v n rule → RulesSoFar out met known v arch rules (n + 1) true
  rule_is_other left other = record {
    none_sure = one_more_placed (λ k x. IsLeft out arch k x → IsYesRule met known k x
        → x.word ≢ v) rules n rule inside at so.none_sure (λ _ _. other.1);
    settled = λ e. cc;
    another = λ e. record {
      place = n;
      rule = rule;
      stands = slice_get-get_or rules n rule inside ∙ ap Some at;
      left = left;
      other = other;
    };
  }
