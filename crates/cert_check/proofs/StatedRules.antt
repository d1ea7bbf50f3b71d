-- Suppose that each word of a record is stated. Then each rule of the record's machine is yes or no, as it matches the record or does not.
use Rattle.std.proofs.Common.{◌≡◌, ℕ, suc, ◌⊎◌, Bool, List, [], ◌∷◌, refl, inl, inr, arith}
use Rattle.std.specs.Prelude.{All, Contains}
use Rattle.std.proofs.lemmas.Bool.{cases_eq}
use Rattle.std.proofs.lemmas.List.Elements.{All-contains, All-nil, All-cons}
use Rattle.call_record.specs.Words.{IsRecord, word}
use Rattle.machines.specs.Arch.{token_of}
use Rattle.profile.specs.declared.conditions.Cond.{Cond}
use Rattle.profile.specs.declared.rules.Rule.{Rule}
use Rattle.profile.specs.Condition.{Meets}
use Rattle.profile.specs.Rule.{Matches, is_narrow_rule}
use Rattle.cert_state.specs.declared.literal.Lit.{Lit}
use Rattle.cert_state.specs.Literals.{Holds}
use Rattle.cert_check.specs.Agree.{OneIsNo, IsNo, IsYesRule, IsNoRule}
use Rattle.cert_check.specs.Settled.{AreStated}
use Rattle.cert_check.proofs.Agreement.{met_conditions, own_conditions, seen, word_is}
use Rattle.cert_check.proofs.Elements.{contains_at}
use Rattle.cert_check.proofs.StatedPoints.{word_follows, another_follows}
use Rattle.cert_check.proofs.StatedConditions.{met_is_yes, met_or_no}

-- nothing is said to be met, or out
pub none_said : {X : Type 0} (x : X) → Contains [] x → ⊥
none_said x has = omega (arith, has.1)

-- a condition that is no, at its place among those behind another
later : (narrow : Bool) (known : List Lit) (place : ℕ) (c : Cond) (conds : List Cond)
    → OneIsNo narrow [] known place conds → OneIsNo narrow [] known place (c ∷ conds)
later narrow known place c conds one =
    record { own = suc one.own; cond = one.cond; stands = one.stands; not_met = none_said (place, suc one.own); is_no = one.is_no }

here : (narrow : Bool) (known : List Lit) (place : ℕ) (c : Cond) (conds : List Cond) → IsNo narrow known c
    → OneIsNo narrow [] known place (c ∷ conds)
here narrow known place c conds is = record { own = 0; cond = c; stands = refl; not_met = none_said (place, 0); is_no = is }

module _ (r : List ℕ) (rec : IsRecord r) (known : List Lit) (so : All (λ l. Holds l r) known) (stated : AreStated known r) where
  -- all of the conditions are met, or one is no
  all_met_or_no : (narrow : Bool) (place : ℕ) (conds : List Cond)
      → All (λ c. Meets c (seen narrow r c.index)) conds ⊎ OneIsNo narrow [] known place conds
  all_met_or_no narrow place [] = inl (All-nil (λ (c : Cond). Meets c (seen narrow r c.index)))
  all_met_or_no narrow place (c ∷ conds) = elim (met_or_no r rec known so stated narrow c) [
    | inr is ↦ inr (here narrow known place c conds is)
    | inl met ↦ elim (all_met_or_no narrow place conds) [
      | inr one ↦ inr (later narrow known place c conds one)
      | inl all ↦ inl (All-cons (λ d. Meets d (seen narrow r d.index)) c conds met all)
    ]
  ]

  -- a rule that matches is yes
  pub match_is_yes : (place : ℕ) (rule : Rule) → Matches rule r → IsYesRule [] known place rule
  match_is_yes place rule m = (
    word_follows r rec known so stated 0 rule.nr (omega arith) m.number,
    λ own c at. inr (met_is_yes r rec known so stated (is_narrow_rule rule) c
        (All-contains (λ d. Meets d (seen (is_narrow_rule rule) r d.index)) rule.conds.items c
        (met_conditions r rec known so rule m) (contains_at rule.conds.items own c at))),
  )

  -- and one that does not is no
  pub mismatch_is_no : (place : ℕ) (rule : Rule) → word r 1 ≡ token_of rule.arch → (Matches rule r → ⊥) → IsNoRule [] known place rule
  mismatch_is_no place rule machine mismatch = elim (cases_eq (word r 0) rule.nr) [
    | inr another ↦ (
      inl (another_follows r rec known so stated 0 rule.nr (omega arith) another),
      λ yes. another (word_is r rec known so 0 rule.nr yes.0),
    )
    | inl number ↦ elim (all_met_or_no (is_narrow_rule rule) place rule.conds.items) [
      | inl all ↦ absurd (mismatch (record {
        machine = machine;
        number = number;
        conditions = own_conditions r rec known so rule machine all;
      }))
      | inr one ↦ (
        inr one,
        λ yes. elim (yes.1 one.own one.cond one.stands) [ inl said ↦ one.not_met said | inr is ↦ one.is_no.1 is ],
      )
    ]
  ]
