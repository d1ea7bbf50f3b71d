-- What the profile of one rule says.
use Rattle.std.proofs.Common.{◌≡◌, ◌<◌, ℕ, zero, suc, true, false, List, [], ◌∷◌, refl, sym, ◌∙◌, ap, subst, arith}
use Rattle.std.specs.List.{All, Contains}
use Rattle.std.proofs.lemmas.Bool.{both_ways, lt-ltb, ltb-true}
use Rattle.std.proofs.lemmas.List.Elements.{All-cons, All-contains, All-head, All-nil, All-same}
use Rattle.call_record.specs.declared.layout.Record.{Record}
use Rattle.call_record.specs.Record.{words}
use Rattle.call_record.specs.Fate.{fate_of, is_further, steps}
use Rattle.machines.specs.Arch.{token_of}
use Rattle.profile.specs.declared.conditions.Cond.{Cond}
use Rattle.profile.specs.declared.conditions.Op.{Op}
use Rattle.profile.specs.declared.conditions.Op.TheVariants.{MaskedEq}
use Rattle.profile.specs.declared.rules.Rule.{Rule}
use Rattle.profile.specs.Condition.{Meets}
use Rattle.profile.specs.Operator.{Compares}
use Rattle.profile.specs.Policy.{Policy, Says}
use Rattle.profile.specs.Rule.{Matches, argument_of}
use Rattle.profile.proofs.KeptLaws.{in_kept, kept_in}
use Rattle.differ.specs.Direction.{tells}
use Rattle.differ.specs.OnCall.{AreCrowded, AreLikeOnCall, IsFound, IsOfCall}
use Rattle.differ.specs.declared.direction.Direction.TheVariants.{Less}
use Rattle.differ.specs.declared.found.Found.{Found}
use Rattle.review.specs.Asked.{HasPart, IsAsked}
use Rattle.review.specs.Groups.{PartEntry}
use Rattle.review.specs.Judged.{AreConditionsOf, IsAnswer, IsConditionOf, IsOpposedBy, IsRuleOf}
use Rattle.review.specs.declared.asked.Asked.{Asked}
use Rattle.review.specs.declared.judged.Answer.TheVariants.{Refused, Open, Undecided}

-- ---- the condition of a part

meets_part : (part : PartEntry) (c : Cond) (r : List ℕ) → IsConditionOf part c → HasPart part r → Meets c (argument_of r c.index)
meets_part part c r is has = rw is.op (rw is.index (rw is.value (has ∙ sym is.datum)))

has_part_met : (part : PartEntry) (c : Cond) (r : List ℕ) → IsConditionOf part c → Meets c (argument_of r c.index) → HasPart part r
has_part_met part c r is meets =
    let m : Compares MaskedEq c.value c.datum (argument_of r c.index) =
    subst (λ (op : Op). Compares op c.value c.datum (argument_of r c.index)) is.op meets in
    rw (sym is.index) (rw (sym is.value) (m ∙ is.datum))

all_met : (part : PartEntry) (conds : List Cond) (r : List ℕ) → AreConditionsOf part conds → HasPart part r
    → All (λ c. Meets c (argument_of r c.index)) conds
all_met part conds r are has =
    let P : Cond → Type 0 = λ c. Meets c (argument_of r c.index) in
    All-same P conds (are.0 ∷ []) are.2 (All-cons P are.0 [] (meets_part part are.0 r are.1 has) (All-nil P))

part_met : (part : PartEntry) (conds : List Cond) (r : List ℕ) → AreConditionsOf part conds
    → All (λ c. Meets c (argument_of r c.index)) conds → HasPart part r
part_met part conds r are all =
    let P : Cond → Type 0 = λ c. Meets c (argument_of r c.index) in
    has_part_met part are.0 r are.1 (All-head P are.0 [] (All-same P (are.0 ∷ []) conds (sym are.2) all))

-- ---- the rule

rule_matches : (asked : Asked) (rule : Rule) (r : List ℕ) → IsRuleOf asked rule → IsAsked asked r → Matches rule r
rule_matches asked rule r is a = record {
  machine = a.of_call.machine ∙ ap token_of (sym is.arch);
  number = a.of_call.number ∙ sym is.nr;
  conditions = all_met asked.part rule.conds.items r is.conds a.has_part;
}

pub matched_is_asked : (asked : Asked) (rule : Rule) (r : List ℕ) → IsRuleOf asked rule → IsOfCall (token_of asked.arch) asked.nr r
    → Matches rule r → IsAsked asked r
matched_is_asked asked rule r is of matches = record {
  of_call = of;
  has_part = part_met asked.part rule.conds.items r is.conds matches.conditions;
}

-- ---- the profile

only_one : (x y : Rule) → Contains (x ∷ []) y → x ≡ y
only_one x y (zero, lt, at) = at
only_one x y (suc k, lt, at) = absurd (omega (arith, lt))

says_killed : (asked : Asked) (rule : Rule) (q : Policy) (r : List ℕ) → IsOpposedBy asked rule q → IsAsked asked r → Says q r 0
says_killed asked rule q r by a = record {
  foreign = λ _. refl;
  matched = λ native other has matches.
      sym (ap (λ (x : Rule). x.word) (sym (only_one rule other (kept_in (rule ∷ []) q.rules by.built.rules_kept other has))) ∙ by.is_rule.word);
  unmatched = λ native none.
      absurd (All-contains (λ x. ¬ Matches x r) q.rules rule none
      (in_kept (rule ∷ []) q.rules by.built.rules_kept rule (0, omega arith, refl))
      (rule_matches asked rule r by.is_rule a));
}

of_call_with : (token token' nr : ℕ) (r : List ℕ) → token ≡ token' → IsOfCall token nr r → IsOfCall token' nr r
of_call_with token token' nr r same of = subst (λ (t : ℕ). IsOfCall t nr r) same of

pub refuses_all : (p : Policy) (asked : Asked) (rule : Rule) (q : Policy) (token : ℕ) → token ≡ token_of asked.arch
    → IsOpposedBy asked rule q → AreLikeOnCall p q token asked.nr Less → IsAnswer p asked Refused
refuses_all p asked rule q token same by like r a through =
    let of : IsOfCall token asked.nr r = of_call_with (token_of asked.arch) token asked.nr r (sym same) a.of_call in
    let alike : tells Less through.0 0 ≡ false = like r of through.0 0 through.1 (says_killed asked rule q r by a) in
    let unlike : tells Less through.0 0 ≡ true = through.2 in
    both_ways (tells Less through.0 0) alike unlike

-- what goes further than something goes further than what is refused
goes_on : (v w : ℕ) → is_further v w ≡ true → is_further v 0 ≡ true
goes_on v w h =
    let more : steps (fate_of w) < steps (fate_of v) = ltb-true (steps (fate_of w)) (steps (fate_of v)) h in
    lt-ltb 0 (steps (fate_of v)) (omega (arith, more))

found_is_open : (p : Policy) (asked : Asked) (rule : Rule) (q : Policy) (token : ℕ) (found : Found) → token ≡ token_of asked.arch
    → IsRuleOf asked rule → IsFound p q token asked.nr Less found → Matches rule (words found.call) → IsAnswer p asked (Open found.call)
found_is_open p asked rule q token found same is f matches = (
  matched_is_asked asked rule (words found.call) is (of_call_with token (token_of asked.arch) asked.nr (words found.call) same f.of_call)
      matches,
  (found.first, f.says_first, goes_on found.first found.second f.unlike),
)

pub is_open : (p : Policy) (asked : Asked) (rule : Rule) (q : Policy) (token : ℕ) (found : Found) (call : Record)
    → token ≡ token_of asked.arch → IsRuleOf asked rule → IsFound p q token asked.nr Less found → Matches rule (words found.call)
    → call ≡ found.call → IsAnswer p asked (Open call)
is_open p asked rule q token found call same is f matches e =
    subst (λ (r : Record). IsAnswer p asked (Open r)) (sym e) (found_is_open p asked rule q token found same is f matches)

pub is_undecided : (p : Policy) (asked : Asked) (rule : Rule) (q : Policy) (token : ℕ) → token ≡ token_of asked.arch
    → IsOpposedBy asked rule q → AreCrowded p q token asked.nr → IsAnswer p asked Undecided
is_undecided p asked rule q token same by crowded =
    (q, (rule, by), subst (λ (t : ℕ). AreCrowded p q t asked.nr) same crowded)
