-- Conditions and rules that are none.
use Rattle.std.proofs.Common.{◌≡◌, ℕ, ◌<◌, List, [], ◌∷◌, length, map, take, refl, sym, ap, ◌∙◌, arith, Option, Some, None}
use Rattle.std.proofs.Common.{Bool, true, false}
use Rattle.std.specs.Prelude.{IfNone, IsSome, IsTrue}
use Rattle.std.specs.List.{Any}
use Rattle.std.proofs.lemmas.List.{length-map, length-take}
use Rattle.profile.specs.declared.conditions.Cond.{Cond}
use Rattle.profile.specs.declared.conditions.Op.{Op}
use Rattle.profile.specs.declared.rules.Rule.{Rule}
use Rattle.profile.specs.Condition.{IsCondition}
use Rattle.profile.specs.Operator.{are_distinct}
use Rattle.filter_c.specs.declared.added.given.AddedCondition.{AddedCondition}
use Rattle.filter_c.specs.declared.added.given.AddedRule.{AddedRule}
use Rattle.filter_c.specs.Parts.{ConditionParts, added_condition, conditions_of, kept_condition, operator_with}
use Rattle.filter_c.specs.Refusal.{IsNoCondition, IsNoRule}
use Rattle.filter_c.specs.Refusal as refusal

pub no_condition : (g : AddedCondition) (o : Op) (r : Option Cond) → operator_with g.operator ≡ Some o → g.argument < 6
    → (IsCondition g.argument o g.value g.datum → IsSome r) → IfNone r (IsNoCondition g)
no_condition g o (Some c) is small made = tt
no_condition g o None is small made = refusal.stray o is (λ e. let never = made (small, e) in cc)

arguments_kept : (cs : List Cond) → map (λ (p : ConditionParts). p.argument) (map kept_condition cs) ≡ map (λ c. c.index) cs
arguments_kept [] = refl
arguments_kept (c ∷ cs) = ap (λ is. c.index ∷ is) (arguments_kept cs)

arguments_added : (cs : List AddedCondition) → map (λ (p : ConditionParts). p.argument) (map added_condition cs) ≡ map (λ c. c.argument) cs
arguments_added [] = refl
arguments_added (c ∷ cs) = ap (λ is. c.argument ∷ is) (arguments_added cs)

pub same_arguments : (cs : List Cond) (gs : List AddedCondition) → map kept_condition cs ≡ map added_condition gs
    → map (λ c. c.index) cs ≡ map (λ c. c.argument) gs
same_arguments cs gs e =
    sym (arguments_kept cs) ∙ ap (map (λ (p : ConditionParts). p.argument)) e ∙ arguments_added gs

-- as many conditions were kept as were read
pub as_many : (cs : List Cond) (gs : List AddedCondition) (n : ℕ) → map kept_condition cs ≡ map added_condition (take n gs) → n < length gs
    → length cs ≡ n
as_many cs gs n e lt =
    let same : length cs ≡ length (take n gs) = sym (length-map cs kept_condition) ∙ ap length e ∙ length-map (take n gs) added_condition in
    omega (arith, same, length-take n gs, lt)

pub no_part : (g : AddedRule) → Any IsNoCondition (conditions_of g) → IsNoRule g
no_part g h = refusal.condition h.1 (h.0, h.2, h.3) h.4

pub no_rule : (g : AddedRule) (cs : List Cond) (r : Option Rule) → map kept_condition cs ≡ map added_condition (conditions_of g)
    → (IsTrue (are_distinct (map (λ c. c.index) cs)) → IsSome r) → IfNone r (IsNoRule g)
no_rule g cs (Some rule) same made = tt
no_rule g cs None same made = refusal.twice (at (are_distinct (map (λ c. c.argument) (conditions_of g))) refl) where
  at : (b : Bool) → are_distinct (map (λ c. c.argument) (conditions_of g)) ≡ b → b ≡ false
  at false e = refl
  at true e = let never = made (ap are_distinct (same_arguments cs (conditions_of g) same) ∙ e) in cc
