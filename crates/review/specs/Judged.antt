-- What a profile says of what a group asks about.
use Rattle.std.specs.Prelude.{◌≡◌, ℕ, List, [], ◌∷◌, map, true}
use Rattle.std.specs.List.{All}
use Rattle.call_record.specs.Record.{words}
use Rattle.call_record.specs.Fate.{is_further}
use Rattle.call_record.specs.Verdict.{allow, kill_thread}
use Rattle.machines.specs.Arch.{token_of}
use Rattle.profile.specs.declared.conditions.Cond.{Cond}
use Rattle.profile.specs.declared.conditions.Op.TheVariants.{MaskedEq}
use Rattle.profile.specs.declared.rules.Rule.{Rule}
use Rattle.profile.specs.Build.{IsBuiltOf}
use Rattle.profile.specs.Policy.{Policy, Says}
use Rattle.differ.specs.OnCall.{AreCrowded}
use Rattle.review.specs.Asked.{IsAsked}
use Rattle.review.specs.Groups.{PartEntry}
use Rattle.review.specs.declared.asked.Asked.{Asked}
use Rattle.review.specs.declared.judged.Answer.{Answer}
use Rattle.review.specs.declared.judged.Answer.TheVariants.{Refused, Open, Undecided}
use Rattle.review.specs.declared.judged.Judged.{Judged}

-- by the profile the record's call goes further than a refused one: it is let through, or left to a tracer or a listener
abbrev pub GoesOn : Policy → List ℕ → Type 0
GoesOn p r = (v : ℕ) × Says p r v × (is_further v kill_thread ≡ true)

-- ---- when that is not decided

-- the argument has these bits under the mask
pub record IsConditionOf (part : PartEntry) (c : Cond) : Type 0 where
  pub index : c.index ≡ part.1
  pub op : c.op ≡ MaskedEq
  pub value : c.value ≡ part.2
  pub datum : c.datum ≡ part.3

-- that is the only condition
abbrev pub AreConditionsOf : PartEntry → List Cond → Type 0
AreConditionsOf part conds = (c : Cond) × IsConditionOf part c × (conds ≡ c ∷ [])

-- the rule refuses just the records that are asked about
pub record IsRuleOf (asked : Asked) (rule : Rule) : Type 0 where
  pub arch : rule.arch ≡ asked.arch
  pub nr : rule.nr ≡ asked.nr
  pub conds : AreConditionsOf asked.part rule.conds.items
  pub word : rule.word ≡ kill_thread

-- the profile of this one rule, which lets all other calls of the machine through
pub record IsOpposedBy (asked : Asked) (rule : Rule) (q : Policy) : Type 0 where
  pub is_rule : IsRuleOf asked rule
  pub built : IsBuiltOf asked.arch (asked.arch ∷ []) allow (rule ∷ []) q

abbrev pub IsOpposed : Asked → Policy → Type 0
IsOpposed asked q = (rule : Rule) × IsOpposedBy asked rule q

-- ---- what is found

-- All records that are asked about are refused, or this one is not. Or the rules of the profile and the one above can answer in more ways
-- than are looked at.
abbrev pub IsAnswer : Policy → Asked → Answer → Type 0
IsAnswer p asked Refused = (r : List ℕ) → IsAsked asked r → GoesOn p r → ⊥
IsAnswer p asked (Open call) = IsAsked asked (words call) × GoesOn p (words call)
IsAnswer p asked Undecided = (q : Policy) × IsOpposed asked q × AreCrowded p q (token_of asked.arch) asked.nr

-- each of these is answered, in order
pub record AreJudged (p : Policy) (asked : List Asked) (list : List Judged) : Type 0 where
  pub of_all : map (λ j. j.asked) list ≡ asked
  pub are : All (λ j. IsAnswer p j.asked j.answer) list
