-- What decides questions, in two parts and all at once, and what decides the rules of a call.
use Rattle.std.proofs.Common.{◌≡◌, ◌≢◌, ◌↔◌, ℕ, zero, suc, ◌⊎◌, ◌<◌, ◌≤◌, Bool, true, false, List, [], ◌∷◌, ◌++◌, length, take, drop, refl, ap, sym, ◌∙◌}
use Rattle.std.proofs.Common.{subst, arith, inl, inr}
use Rattle.std.specs.List.{All, Any}
use Rattle.std.proofs.lemmas.Bool.{cases_eq, true≢false, false≢true}
use Rattle.std.proofs.lemmas.List.{take-append-drop, take-append-le, take_all}
use Rattle.std.proofs.lemmas.List.Elements.{All-cons, All-head, All-nil, All-push, All-tail}
use Rattle.call_record.specs.Words.{IsRecord}
use Rattle.rule_compile.specs.declared.asked.Open.{Open}
use Rattle.rule_compile.specs.declared.asked.Placed.{Placed}
use Rattle.rule_compile.specs.declared.blocks.Blocks.{Blocks}
use Rattle.rule_compile.specs.declared.known.Known.{Known}
use Rattle.rule_compile.specs.declared.outline.Block.{Block}
use Rattle.rule_compile.specs.declared.ranges.Leaf.{Leaf}
use Rattle.rule_compile.specs.declared.ranges.Leaf.TheVariants as leaf
use Rattle.rule_compile.specs.Decides.{Comes, Decides, by_verdict}
use Rattle.rule_compile.specs.Questions.{IsMet, outcome}
use Rattle.rule_compile.specs.Rules.{IsClearAt, IsRuleMet, SomeMet, begins_here, put_first, rules_of, answer_of}
use Rattle.rule_compile.specs.inner.Left.{AreRules, AreSame, IsRule, SomeHeld}
use Rattle.rule_compile.specs.inner.Runs.{IsBefore}
use Rattle.rule_compile.specs.inner.Stands.{AreBlocks, AreSound, BlocksStand, DecidesRules, HasMore, IsFound, KnownStands}
use Rattle.rule_compile.proofs.DecidesLaws.{decides_more}
use Rattle.rule_compile.proofs.FindLaws.{all_left, all_right}
use Rattle.rule_compile.proofs.RulesLaws.{any_cases, any_here, any_later, any_nil, any_weaker, are_same_back, clear_same, met_either, met_left, met_right, met_same}
use Rattle.rule_compile.proofs.RulesLaws.{rules_append}

-- ---- whether a rule with a verdict is met

same_or_not : (a b : Bool) → (a ≡ b) ⊎ (a ≡ b → ⊥)
same_or_not true true = inl refl
same_or_not true false = inr true≢false
same_or_not false true = inr false≢true
same_or_not false false = inl refl

all_or_not : {A : Type 0} (P : A → Type 0) → ((x : A) → P x ⊎ (P x → ⊥)) → (xs : List A) → All P xs ⊎ (All P xs → ⊥)
all_or_not P each [] = inl (All-nil P)
all_or_not P each (x ∷ xs) =
    elim (each x) [
      | inl here ↦ elim (all_or_not P each xs) [
        | inl later ↦ inl (All-cons P x xs here later)
        | inr never ↦ inr (λ all. never (All-tail P x xs all))
      ]
      | inr never ↦ inr (λ all. never (All-head P x xs all))
    ]

any_or_not : {A : Type 0} (P : A → Type 0) → ((x : A) → P x ⊎ (P x → ⊥)) → (xs : List A) → Any P xs ⊎ (Any P xs → ⊥)
any_or_not P each [] = inr (any_nil P)
any_or_not P each (x ∷ xs) =
    elim (each x) [
      | inl here ↦ inl (any_here P x xs here)
      | inr not_here ↦ elim (any_or_not P each xs) [
        | inl later ↦ inl (any_later P x xs later)
        | inr never ↦ inr (λ any. elim (any_cases P x xs any) [ inl here ↦ not_here here | inr later ↦ never later ])
      ]
    ]

pub met_or_not : (os : List Open) (r : List ℕ) (w : ℕ) → SomeMet os r w ⊎ (SomeMet os r w → ⊥)
met_or_not os r w =
    any_or_not (λ rule. IsRuleMet r rule × (answer_of rule ≡ w))
    (λ rule. elim (all_or_not (λ (o : Open). IsMet o.question r) (λ o. same_or_not (outcome o.question r) o.question.wanted) rule) [
      | inl met ↦ elim (cases_eq (answer_of rule) w) [
        | inl is ↦ inl (met, is)
        | inr other ↦ inr (λ both. other both.1)
      ]
      | inr never ↦ inr (λ both. never both.0)
    ])
    (rules_of os)

pub met_some : (os : List Open) (r : List ℕ) → ((w : ℕ) × SomeMet os r w) ⊎ ((w : ℕ) → SomeMet os r w → ⊥)
met_some os r =
    elim (any_or_not (IsRuleMet r)
    (all_or_not (λ (o : Open). IsMet o.question r) (λ o. same_or_not (outcome o.question r) o.question.wanted)) (rules_of os)) [
      | inl any ↦ inl (answer_of any.1, (any.0, any.1, any.2, any.3, (any.4, refl)))
      | inr never ↦ inr (λ w met.
          never (any_weaker (λ rule. IsRuleMet r rule × (answer_of rule ≡ w)) (IsRuleMet r) (λ rule both. both.0) (rules_of os) met))
    ]

-- ---- questions in two parts

pub parted_found : (early late : List Block) (first second : List Open) (other next leaf : Leaf) → HasMore early late
    → begins_here second ≡ true → AreBlocks late → IsBefore (length early) other → IsFound early second other next
    → IsFound late first next leaf → ((r : List ℕ) (v : ℕ) → Decides late r v other → Decides early r v other)
    → IsFound late (first ++ second) other leaf
parted_found early late first second other next leaf more begins blocks before behind front less = record {
  before = front.before;
  stands = λ r rec clear v come.
      let left : IsClearAt first r = λ a b x y. clear a b (met_left first second r a begins x) (met_left first second r b begins y) in
      let right : IsClearAt second r = λ a b x y. clear a b (met_right first second r a begins x) (met_right first second r b begins y) in
      let goes_on : (((w : ℕ) → SomeMet first r w → ⊥)) → Comes early second other r v → Decides late r v leaf =
      λ none come. front.stands r rec left v (inr (none, decides_more early late more (behind.stands r rec right v come))) in
      elim come [
        | inl met ↦ elim (met_or_not first r v) [
          | inl here ↦ front.stands r rec left v (inl here)
          | inr never ↦ goes_on
              (λ w x. never (subst (SomeMet first r) (clear w v (met_left first second r w begins x) met) x))
              (elim (met_either first second r v begins met) [
                | inl here ↦ absurd (never here)
                | inr there ↦ inl there
              ])
        ]
        | inr none ↦ goes_on (λ w x. none.0 w (met_left first second r w begins x))
            (inr (λ w x. none.0 w (met_right first second r w begins x), less r v none.1))
      ];
}

begins_take : (os : List Open) (place : ℕ) → begins_here os ≡ true → begins_here (take place os) ≡ true
begins_take os zero begins = refl
begins_take [] (suc place) begins = refl
begins_take (o ∷ os) (suc place) begins = begins

pub parts_are_rules : (os : List Open) (place : ℕ) → AreRules os → 1 ≤ place → place < length os → begins_here (drop place os) ≡ true
    → AreRules (take place os) × AreRules (drop place os)
parts_are_rules os place rules least within begins =
    let whole : rules_of os ≡ rules_of (take place os) ++ rules_of (drop place os) =
    ap rules_of (sym (take-append-drop place os)) ∙ rules_append (take place os) (drop place os) begins in
    let all : All IsRule (rules_of (take place os) ++ rules_of (drop place os)) = subst (All IsRule) whole rules.1 in (
      (begins_take os place rules.0, all_left IsRule (rules_of (take place os)) (rules_of (drop place os)) all),
      (begins, all_right IsRule (rules_of (take place os)) (rules_of (drop place os)) all),
    )

-- ---- rules with the verdict of what is gone on at

also_put : (other : Leaf) (t : Bool) (o : Open) (rules : List (List Open)) → other ≡ leaf.Verdict o.answer
    → All (λ rule. other ≡ leaf.Verdict (answer_of rule)) rules → All (λ rule. other ≡ leaf.Verdict (answer_of rule)) (put_first t o rules)
also_put other true o rules is all = All-cons (λ rule. other ≡ leaf.Verdict (answer_of rule)) (o ∷ []) rules is all
also_put other false o [] is all = All-cons (λ rule. other ≡ leaf.Verdict (answer_of rule)) (o ∷ []) [] is all
also_put other false o (rule ∷ rules) is all =
    All-cons (λ rule. other ≡ leaf.Verdict (answer_of rule)) (o ∷ rule) rules is (All-tail (λ rule. other ≡ leaf.Verdict (answer_of rule)) rule rules all)

also_rules : (other : Leaf) (os : List Open) → All (λ (o : Open). other ≡ leaf.Verdict o.answer) os
    → All (λ rule. other ≡ leaf.Verdict (answer_of rule)) (rules_of os)
also_rules other [] all = All-nil (λ rule. other ≡ leaf.Verdict (answer_of rule))
also_rules other (o ∷ os) all =
    also_put other (begins_here os) o (rules_of os) (All-head (λ (p : Open). other ≡ leaf.Verdict p.answer) o os all)
    (also_rules other os (All-tail (λ (p : Open). other ≡ leaf.Verdict p.answer) o os all))

pub also_found : (blocks : List Block) (os : List Open) (other : Leaf) → IsBefore (length blocks) other
    → All (λ (o : Open). other ≡ leaf.Verdict o.answer) os → IsFound blocks os other other
also_found blocks os other before all = record {
  before = before;
  stands = λ r rec clear v come. elim come [
    | inl met ↦
        let same : other ≡ leaf.Verdict (answer_of met.1) =
        subst (λ rule. other ≡ leaf.Verdict (answer_of rule)) met.3 (also_rules other os all met.0 met.1 met.2) in
        let is : other ≡ leaf.Verdict v = same ∙ ap leaf.Verdict (let both = met.4 in both.1) in
        subst (Decides blocks r v) (sym is) by_verdict
    | inr none ↦ none.1
  ];
}

-- ---- what is known

pub known_found : (blocks : List Block) (known : Known) (os : List Open) (other : Leaf) → KnownStands blocks known
    → AreSame known.asked.items os → known.other ≡ other → IsFound blocks os other known.leaf
known_found blocks known os other stands same alike =
    let back = are_same_back known.asked.items os same in
    record {
      before = stands.before;
      stands = λ r rec clear v come.
          stands.stands r rec (clear_same os known.asked.items r back clear) v
          (elim come [
            | inl met ↦ inl (met_same os known.asked.items r v back met)
            | inr none ↦ inr (
              λ w met. none.0 w (met_same known.asked.items os r w same met),
              subst (Decides blocks r v) (sym alike) none.1,
            )
          ]);
    }

-- ---- the rules of a call

pub met_decides : (blocks : List Block) (rules : List Placed) (default word : ℕ)
    → ((r : List ℕ) → IsRecord r → SomeHeld rules r word) → DecidesRules blocks rules default (leaf.Verdict word)
met_decides blocks rules default word held r rec clear v said =
    elim said [
      | inl has ↦ subst (λ n. Decides blocks r v (leaf.Verdict n)) (clear v word has (held r rec)) by_verdict
      | inr none ↦ absurd (none.0 word (held r rec))
    ]

pub open_decides : (blocks : List Block) (rules : List Placed) (default : ℕ) (os : List Open) (to : Leaf)
    → ((r : List ℕ) → IsRecord r → (w : ℕ) → SomeMet os r w ↔ (SomeHeld rules r w × (w ≢ default)))
    → IsFound blocks os (leaf.Verdict default) to → DecidesRules blocks rules default to
open_decides blocks rules default os to says found r rec clear v said =
    let clear_here : IsClearAt os r = λ a b x y. clear a b ((says r rec a).0 x).0 ((says r rec b).0 y).0 in
    let by_default : v ≡ default → Decides blocks r v (leaf.Verdict default) =
    λ e. subst (λ n. Decides blocks r v (leaf.Verdict n)) e by_verdict in
    found.stands r rec clear_here v
    (elim said [
      | inl has ↦ elim (cases_eq v default) [
        | inl e ↦ inr (λ w met. (let held = (says r rec w).0 met in held.1 (clear w v held.0 has ∙ e)), by_default e)
        | inr other ↦ inl ((says r rec v).1 (has, other))
      ]
      | inr none ↦ inr (λ w met. none.0 w ((says r rec w).0 met).0, by_default none.1)
    ])

-- ---- blocks that are taken out and put back

pub take_old : (old new : List Block) (n : ℕ) → HasMore old new → n ≡ length old → take n new ≡ old
take_old old new n g is =
    ap (take n) g.is ∙ take-append-le n old g.more (omega (arith, is)) ∙ take_all n old (omega (arith, is))

pub put_again : (old late third : List Block) (n : ℕ) → HasMore old late → HasMore old third → n ≡ length old → take n third ++ drop n late ≡ late
put_again old late third n g h is =
    ap (λ x. x ++ drop n late) (take_old old third n h is ∙ sym (take_old old late n g is)) ∙ take-append-drop n late

-- ---- what is known from now on

pub known_sound : (a b : Blocks) (known : Known) → AreSound a → b.blocks.items ≡ a.blocks.items → b.known.items ≡ a.known.items ++ known ∷ []
    → KnownStands a.blocks.items known → AreSound b
known_sound a b known sound is more own = record {
  blocks_are = subst AreBlocks (sym is) sound.blocks_are;
  stand = subst BlocksStand (sym is) sound.stand;
  known = subst (λ bs. All (KnownStands bs) b.known.items) (sym is)
      (subst (All (KnownStands a.blocks.items)) (sym more) (All-push (KnownStands a.blocks.items) a.known.items known sound.known own));
}
