-- What is left of rules, question by question and rule by rule.
use Rattle.std.proofs.Common.{◌≡◌, ◌↔◌, ℕ, zero, suc, ◌+◌, ◌-◌, ◌<◌, ◌≤◌, ◌⊎◌, ◌==◌, Bool, true, false, List, [], ◌∷◌, ◌++◌, length, Option, None, Some, drop, take}
use Rattle.std.proofs.Common.{refl, ap, sym, ◌∙◌, subst, arith, inl, inr, add-one, length-drop}
use Rattle.std.proofs.Math.Seq.{take-suc}
use Rattle.std.specs.Prelude.{IsTrue, if◌then◌else◌, slice_index_or}
use Rattle.std.specs.List.{All}
use Rattle.std.proofs.lemmas.Bool.{true≢false}
use Rattle.std.proofs.lemmas.List.{take-append-drop, take_all}
use Rattle.std.proofs.lemmas.List.Elements.{All-cons, All-head, All-nil, All-tail}
use Rattle.rule_compile.specs.declared.asked.Asker.{Asker}
use Rattle.rule_compile.specs.declared.asked.Open.{Open}
use Rattle.rule_compile.specs.declared.asked.Questions.{Questions}
use Rattle.rule_compile.specs.declared.question.Question.{Question}
use Rattle.rule_compile.specs.declared.question.Subject.{Subject}
use Rattle.rule_compile.specs.declared.question.Reply.TheVariants as reply
use Rattle.rule_compile.specs.Questions.{IsMet, bits}
use Rattle.rule_compile.specs.Rules.{IsRuleMet, SomeMet, begins_here, rules_of, answer_of}
use Rattle.rule_compile.specs.inner.Asked.{AreOf, Asks, IsAsked, IsLast, IsOf}
use Rattle.rule_compile.specs.inner.Left.{AreAlikeAt, AreRules, AsksFor, IsAddedLeft, IsAlikeAt, IsQuestion, IsRule, Weighs, WeighsLess, weight, weight_of}
use Rattle.rule_compile.proofs.AskedLaws.{added_met, added_rules, added_sure, asks_like, asks_nothing, asks_then, begun_last}
use Rattle.rule_compile.proofs.FindLaws.{all_left, all_right}
use Rattle.rule_compile.proofs.HeldLaws.{held_more}
use Rattle.rule_compile.proofs.RulesLaws.{GoesOn, any_cases, any_either, any_nil, met_either, met_left, met_one, met_right, rules_append, rules_one, weight_append}

-- ---- how much is left

weight_some : (low : Option ℕ) → 1 ≤ weight_of low
weight_some None = omega arith
weight_some (Some low) = omega arith

weight_take : (n : ℕ) (os : List Open) → weight (take n os) ≤ weight os
weight_take zero os = omega arith
weight_take (suc n) [] = omega arith
weight_take (suc n) (o ∷ os) = omega (arith, weight_take n os)

-- nothing is left of a question
pub weighs_none : (old new : List Open) (o : Open) (subject : Subject) → weight new ≤ weight old → Weighs old new (o ∷ []) subject
weighs_none old new o subject le =
    let some : 1 ≤ weight_of o.question.low = weight_some o.question.low in
    (omega (arith, le), λ asks. omega (arith, le, some))

-- or of the rule
pub weighs_failed : (old new : List Open) (n : ℕ) (o : Open) (subject : Subject) → new ≡ take n old → Weighs old new (o ∷ []) subject
weighs_failed old new n o subject is = weighs_none old new o subject (omega (arith, ap weight is, weight_take n old))

asked_weight : (failed : Bool) (old new : List Open) (p : Open) → new ≡ (if failed then old else old ++ p ∷ [])
    → weight new ≤ weight old + weight_of p.question.low
asked_weight true old new p is = omega (arith, ap weight is)
asked_weight false old new p is = omega (arith, ap weight is, weight_append old (p ∷ []))

own_subject : (o : Open) (subject : Subject) → AsksFor (o ∷ []) subject → o.question.subject ≡ subject
own_subject o subject asks =
    elim (any_cases (λ p. p.question.subject ≡ subject) o [] asks) [
      | inl here ↦ here
      | inr later ↦ absurd (any_nil (λ p. p.question.subject ≡ subject) later)
    ]

weighs_asked : (old new : List Open) (failed : Bool) (o p : Open) (subject : Subject)
    → new ≡ (if failed then old else old ++ p ∷ []) → WeighsLess o.question subject (reply.Open p.question)
    → Weighs old new (o ∷ []) subject
weighs_asked old new failed o p subject is less =
    let most : weight new ≤ weight old + weight_of p.question.low = asked_weight failed old new p is in
    (omega (arith, most, less.0), λ asks. omega (arith, most, less.1 (own_subject o subject asks)))

pub weighs_is_asked : (old new : Questions) (asker : Asker) (o : Open) (q : Question) (subject : Subject)
    → WeighsLess o.question subject (reply.Open q) → IsAsked old new asker o.answer q → Weighs old.asked.items new.asked.items (o ∷ []) subject
weighs_is_asked old new asker o q subject less is =
    let p : Open = record { begins = length old.asked.items == old.start; answer = o.answer; question = q; asker = asker } in
    weighs_asked old.asked.items new.asked.items old.failed o p subject is less

weighs_then : (a b c xs ys : List Open) (subject : Subject) → Weighs a b xs subject → Weighs b c ys subject → Weighs a c (xs ++ ys) subject
weighs_then a b c xs ys subject first next = (
  omega (arith, first.0, next.0, weight_append xs ys),
  λ asks. elim (any_either (λ p. p.question.subject ≡ subject) xs ys asks) [
    | inl front ↦ omega (arith, first.1 front, next.0, weight_append xs ys)
    | inr back ↦ omega (arith, first.0, next.1 back, weight_append xs ys)
  ],
)

pub weighs_first : (a b c : List Open) (o : Open) (os : List Open) (subject : Subject) → Weighs a b (o ∷ []) subject → Weighs b c os subject
    → Weighs a c (o ∷ os) subject
weighs_first a b c o os subject first next = weighs_then a b c (o ∷ []) os subject first next

pub weighs_nothing : (os : List Open) (subject : Subject) → Weighs os os [] subject
weighs_nothing os subject = (omega arith, λ asks. absurd (any_nil (λ p. p.question.subject ≡ subject) asks))

pub weighs_more : (a b c os : List Open) (k : ℕ) (o : Open) (subject : Subject) → k < length os → o ≡ slice_index_or os k o
    → Weighs a b (take k os) subject → Weighs b c (o ∷ []) subject → Weighs a c (take (k + 1) os) subject
weighs_more a b c os k o subject within is first next =
    let longer : take (k + 1) os ≡ take k os ++ o ∷ [] =
    ap (λ n. take n os) (add-one k) ∙ take-suc os k o within ∙ ap (λ x. take k os ++ x ∷ []) (sym is) in
    subst (λ xs. Weighs a c xs subject) (sym longer) (weighs_then a b c (take k os) (o ∷ []) subject first next)

-- ---- the questions of a rule

module _ (subject : Subject) (number : ℕ) where
  abbrev pub Looked : List Open → List ℕ → Type 0
  Looked os r = AreAlikeAt os subject number (bits subject r)

  abbrev pub LookedOne : Open → List ℕ → Type 0
  LookedOne o r = IsAlikeAt subject number (bits subject r) o

  pub none_asked : (q : Questions) (os : List Open) (word : ℕ) → IsLast word q → Asks q q word (Looked os) (λ r. IsRuleMet r [])
  none_asked q os word last =
      asks_nothing word (Looked os) q (λ r. IsRuleMet r []) last (λ r at. All-nil (λ o. IsMet o.question r))

  pub one_more : (a b c : Questions) (os : List Open) (k : ℕ) (o : Open) (word : ℕ) → k < length os → o ≡ slice_index_or os k o
      → All (IsOf word) os
      → (IsLast o.answer b → IsQuestion o.question → Asks b c o.answer (LookedOne o) (IsMet o.question))
      → Asks a b word (Looked os) (λ r. IsRuleMet r (take k os)) → Asks a c word (Looked os) (λ r. IsRuleMet r (take (k + 1) os))
  one_more a b c os k o word within is of step before =
      let own : IsOf word o = subst (IsOf word) (sym is) (of k o within) in
      let one : Asks b c word (LookedOne o) (IsMet o.question) =
      subst (λ w. IsLast w b → Asks b c w (LookedOne o) (IsMet o.question)) own.0 (λ last. step last own.1) before.last in
      let seen : (r : List ℕ) → Looked os r → LookedOne o r =
      λ r at. subst (IsAlikeAt subject number (bits subject r)) (sym is) (at k o within) in
      asks_like a c word (Looked os) (Looked os) (λ r. IsRuleMet r (take k os) × IsMet o.question r) (λ r. IsRuleMet r (take (k + 1) os))
      (λ r at. at) (λ r at. held_more (λ p. IsMet p.question r) os k o within is)
      (asks_then word (Looked os) a b c (λ r. IsRuleMet r (take k os)) (IsMet o.question) before
      (asks_like b c word (LookedOne o) (Looked os) (IsMet o.question) (IsMet o.question) seen (λ r at. (λ met. met, λ met. met)) one))

  module _ (begun asked new : Questions) (first : Open) (more : List Open) (of : AreOf first.answer (first ∷ more))
      (one : IsLast first.answer begun → IsQuestion first.question → Asks begun asked first.answer (LookedOne first) (IsMet first.question))
      (all : (word : ℕ) → IsLast word asked → All (IsOf word) more → Asks asked new word (Looked more) (λ r. IsRuleMet r more)) where
    pub rule_asked : IsLast first.answer begun → Asks begun new first.answer (Looked (first ∷ more)) (λ r. IsRuleMet r (first ∷ more))
    rule_asked last =
        let word : ℕ = first.answer in
        let own : IsOf word first = All-head (IsOf word) first more of.2 in
        let front : Asks begun asked word (LookedOne first) (IsMet first.question) = one last own.1 in
        let back : Asks asked new word (Looked more) (λ r. IsRuleMet r more) = all word front.last (All-tail (IsOf word) first more of.2) in
        let looked : List ℕ → Type 0 = Looked (first ∷ more) in
        asks_like begun new word looked looked (λ r. IsMet first.question r × IsRuleMet r more) (λ r. IsRuleMet r (first ∷ more)) (λ r at. at)
        (λ r at. (
          λ both. All-cons (λ p. IsMet p.question r) first more both.0 both.1,
          λ met. (All-head (λ p. IsMet p.question r) first more met, All-tail (λ p. IsMet p.question r) first more met),
        ))
        (asks_then word looked begun asked new (IsMet first.question) (λ r. IsRuleMet r more)
        (asks_like begun asked word (LookedOne first) looked (IsMet first.question) (IsMet first.question)
        (λ r at. All-head (IsAlikeAt subject number (bits subject r)) first more at) (λ r at. (λ met. met, λ met. met)) front)
        (asks_like asked new word (Looked more) looked (λ r. IsRuleMet r more) (λ r. IsRuleMet r more)
        (λ r at. All-tail (IsAlikeAt subject number (bits subject r)) first more at) (λ r at. (λ met. met, λ met. met)) back))

-- ---- one rule more

both_same : (os : List Open) (r : List ℕ) (w : ℕ) (P : Type 0) → SomeMet os r w ↔ P → (old : Type 0) → (old ⊎ P) ↔ (old ⊎ SomeMet os r w)
both_same os r w P like old = (
  λ h. elim h [
    | inl front ↦ inl front
    | inr back ↦ inr (like.1 back)
  ],
  λ h. elim h [
    | inl front ↦ inl front
    | inr back ↦ inr (like.0 back)
  ],
)

module _ (subject : Subject) (number : ℕ) (old begun asked new : Questions) (first : Open) (more : List Open)
    (same : begun.asked ≡ old.asked) (start : begun.start ≡ length old.asked.items) (fresh : begun.failed ≡ false)
    (one : IsLast first.answer begun → IsQuestion first.question
    → Asks begun asked first.answer (LookedOne subject number first) (IsMet first.question))
    (every : (word : ℕ) → IsLast word asked → All (IsOf word) more → Asks asked new word (Looked subject number more) (λ r. IsRuleMet r more))
    (of : AreOf first.answer (first ∷ more)) where
  abbrev looked : List ℕ → Type 0
  looked r = Looked subject number (first ∷ more) r

  abbrev met_whole : List ℕ → Type 0
  met_whole r = IsRuleMet r (first ∷ more)

  asks : Asks begun new first.answer looked met_whole
  asks = rule_asked subject number begun asked new first more of one every (begun_last old begun new first.answer met_whole same start fresh)

  pub rule_rules : AreRules old.asked.items → AreRules new.asked.items
  rule_rules = added_rules old begun new first.answer met_whole same start fresh looked asks

  pub rule_added : (sure : Bool) → (IsTrue sure ↔ ((new.failed ≡ false) × (length new.asked.items ≡ new.start)))
      → IsAddedLeft old.asked.items new.asked.items (first ∷ more) (Looked subject number (first ∷ more)) sure
  rule_added true is = added_sure old begun new first.answer met_whole same start fresh looked asks (is.0 refl)
  rule_added false is = λ r seen w.
      let P : Type 0 = IsRuleMet r (first ∷ more) × (first.answer ≡ w) in
      let met = added_met old begun new first.answer met_whole same start fresh looked asks (λ h. true≢false (sym (is.1 h))) r seen w in
      let like = both_same (first ∷ more) r w P (met_one first more r w of.1) (SomeMet old.asked.items r w) in
      (λ h. like.0 (met.0 h), λ h. met.1 (like.1 h))

-- a rule of which the first question is not met adds nothing
pub rule_out : (asked more : List Open) (first : Open) (looked : List ℕ → Type 0) → AreOf first.answer (first ∷ more)
    → ((r : List ℕ) → looked r → IsMet first.question r → ⊥) → IsAddedLeft asked asked (first ∷ more) looked false
rule_out asked more first looked of out = λ r at w. (
  λ met. inl met,
  λ h. elim h [
    | inl met ↦ met
    | inr own ↦ absurd (out r at (All-head (λ o. IsMet o.question r) first more ((met_one first more r w of.1).0 own).0))
  ],
)

-- ---- rules, one behind the other

-- some rules are behind: what is left of them, and what is still to come
pub record IsPart (rules coming asked : List Open) (subject : Subject) (number : ℕ) : Type 0 where
  pub come : AreRules coming
  pub are_asked : AreRules asked
  pub alike : (r : List ℕ) → Looked subject number rules r → Looked subject number coming r
  pub says : (r : List ℕ) → Looked subject number rules r → (w : ℕ) → SomeMet rules r w ↔ (SomeMet asked r w ⊎ SomeMet coming r w)
  pub most : weight asked + weight coming ≤ weight rules
  pub less : AsksFor rules subject → AsksFor coming subject ⊎ (weight asked + weight coming < weight rules)

none_met : (r : List ℕ) (w : ℕ) → SomeMet [] r w → ⊥
none_met r w h = any_nil (λ rule. IsRuleMet r rule × (answer_of rule ≡ w)) h

no_rules : AreRules []
no_rules = (refl, All-nil IsRule)

module _ (subject : Subject) (number : ℕ) where
  pub part_first : (rules : List Open) → AreRules rules → IsPart rules rules [] subject number
  part_first rules are = record {
    come = are;
    are_asked = no_rules;
    alike = λ r at. at;
    says = λ r at w. (
      λ met. inr met,
      λ h. elim h [
        | inl never ↦ absurd (none_met r w never)
        | inr met ↦ met
      ],
    );
    most = omega arith;
    less = λ asks. inl asks;
  }

  module _ (rules coming asked : List Open) (part : IsPart rules coming asked subject number) (first : Open) (more next : List Open)
      (is : coming ≡ (first ∷ more) ++ next) (goes_on : All GoesOn more) (begins : begins_here next ≡ true) where
    parts : rules_of coming ≡ (first ∷ more) ∷ rules_of next
    parts = ap rules_of is ∙ rules_append (first ∷ more) next begins ∙ ap (λ rs. rs ++ rules_of next) (rules_one first more goes_on)

    all : All IsRule ((first ∷ more) ∷ rules_of next)
    all = let are = part.come in subst (All IsRule) parts are.1

    pub first_rule : AreOf first.answer (first ∷ more)
    first_rule =
        let are = part.come in
        (ap begins_here (sym is) ∙ are.0, goes_on, All-head IsRule (first ∷ more) (rules_of next) all)

    alike_both : (r : List ℕ) → Looked subject number rules r → Looked subject number ((first ∷ more) ++ next) r
    alike_both r at = subst (λ os. Looked subject number os r) is (part.alike r at)

    alike_first : (r : List ℕ) → Looked subject number rules r → Looked subject number (first ∷ more) r
    alike_first r at = all_left (IsAlikeAt subject number (bits subject r)) (first ∷ more) next (alike_both r at)

    -- the first rule is met for sure
    pub part_met : IsAddedLeft asked asked (first ∷ more) (Looked subject number (first ∷ more)) true
        → (r : List ℕ) → Looked subject number rules r → SomeMet rules r first.answer
    part_met sure r at =
        let met : SomeMet (first ∷ more) r first.answer =
        (met_one first more r first.answer goes_on).1 (sure r (alike_first r at), refl) in
        (part.says r at first.answer).1
        (inr (subst (λ os. SomeMet os r first.answer) (sym is) (met_left (first ∷ more) next r first.answer begins met)))

    module _ (new : List Open) (are : AreRules new)
        (added : IsAddedLeft asked new (first ∷ more) (Looked subject number (first ∷ more)) false)
        (weighs : Weighs asked new (first ∷ more) subject) where
      says_next : (r : List ℕ) → Looked subject number rules r → (w : ℕ) → SomeMet rules r w ↔ (SomeMet new r w ⊎ SomeMet next r w)
      says_next r at w =
          let now = part.says r at w in
          let adds = added r (alike_first r at) w in (
            λ met. elim (now.0 met) [
              | inl front ↦ inl (adds.1 (inl front))
              | inr back ↦ elim (met_either (first ∷ more) next r w begins (subst (λ os. SomeMet os r w) is back)) [
                | inl own ↦ inl (adds.1 (inr own))
                | inr later ↦ inr later
              ]
            ],
            λ either. now.1 (elim either [
              | inl left ↦ elim (adds.0 left) [
                | inl front ↦ inl front
                | inr own ↦ inr (subst (λ os. SomeMet os r w) (sym is) (met_left (first ∷ more) next r w begins own))
              ]
              | inr later ↦ inr (subst (λ os. SomeMet os r w) (sym is) (met_right (first ∷ more) next r w begins later))
            ]),
          )

      split : weight coming ≡ weight (first ∷ more) + weight next
      split = ap weight is ∙ weight_append (first ∷ more) next

      less_next : AsksFor rules subject → AsksFor next subject ⊎ (weight new + weight next < weight rules)
      less_next asks =
          let most = part.most in
          elim (part.less asks) [
            | inl some ↦ elim (any_either (λ o. o.question.subject ≡ subject) (first ∷ more) next
                (subst (λ os. AsksFor os subject) is some)) [
                  | inl own ↦ (let fewer = weighs.1 own in inr (omega (arith, fewer, most, split)))
                  | inr later ↦ inl later
                ]
            | inr fewer ↦ inr (omega (arith, fewer, weighs.0, split))
          ]

      pub part_next : IsPart rules next new subject number
      part_next =
          let most = part.most in
          record {
            come = (begins, All-tail IsRule (first ∷ more) (rules_of next) all);
            are_asked = are;
            alike = λ r at. all_right (IsAlikeAt subject number (bits subject r)) (first ∷ more) next (alike_both r at);
            says = says_next;
            most = omega (arith, most, weighs.0, split);
            less = less_next;
          }

  module _ (rules asked : List Open) (part : IsPart rules [] asked subject number) where
    pub part_says : (r : List ℕ) → Looked subject number rules r → (w : ℕ) → SomeMet asked r w ↔ SomeMet rules r w
    part_says r at w =
        let says = part.says r at w in (
          λ met. says.1 (inl met),
          λ met. elim (says.0 met) [
            | inl front ↦ front
            | inr never ↦ absurd (none_met r w never)
          ],
        )

    pub part_less : AreRules asked × (AsksFor rules subject → weight asked < weight rules)
    part_less = (
      part.are_asked,
      λ asks. elim (part.less asks) [
        | inl none ↦ absurd (any_nil (λ o. o.question.subject ≡ subject) none)
        | inr fewer ↦ omega (arith, fewer)
      ],
    )

-- ---- the list, split behind its first rule

pub split_first : (coming others more next : List Open) (first : Open) (k : ℕ) → 1 ≤ length coming → first ≡ slice_index_or coming 0 first
    → others ≡ drop 1 coming → more ≡ take k others → next ≡ drop k others → coming ≡ (first ∷ more) ++ next
split_first [] others more next first k some is rest front back = absurd (omega (arith, some))
split_first (o ∷ os) others more next first k some is rest front back =
    let front_is : more ≡ take k os = front ∙ ap (take k) rest in
    let back_is : next ≡ drop k os = back ∙ ap (drop k) rest in
    let whole : os ≡ more ++ next =
    sym (take-append-drop k os) ∙ ap (λ xs. xs ++ drop k os) (sym front_is) ∙ ap (λ xs. more ++ xs) (sym back_is) in
    ap (λ x. x ∷ os) (sym is) ∙ ap (λ xs. first ∷ xs) whole

pub rest_is : (os : List Open) → take (length os - 1) (drop 1 os) ≡ drop 1 os
rest_is os = take_all (length os - 1) (drop 1 os) (omega (arith, length-drop 1 os))

pub none_come : (os : List Open) → length os < 1 → os ≡ []
none_come [] below = refl
none_come (o ∷ os) below = absurd (omega (arith, below))
