-- Rules of questions: lists of them one behind the other, one rule alone, and lists that ask the same.
use Rattle.std.proofs.Common.{◌≡◌, ◌↔◌, ℕ, zero, suc, ◌+◌, ◌<◌, ◌⊎◌, Bool, true, false, List, [], ◌∷◌, ◌++◌, length, refl, ap, sym, ◌∙◌, subst}
use Rattle.std.proofs.Common.{arith, inl, inr}
use Rattle.std.specs.Prelude.{slice_index_or}
use Rattle.std.specs.List.{All, AllZip, Any}
use Rattle.std.proofs.lemmas.List.Elements.{All-append, All-cons, All-head, All-nil, All-tail}
use Rattle.rule_compile.specs.declared.asked.Open.{Open}
use Rattle.rule_compile.specs.Questions.{IsMet}
use Rattle.rule_compile.specs.Rules.{IsClearAt, IsRuleMet, SomeMet, begins_here, put_first, rules_of, answer_of}
use Rattle.rule_compile.specs.inner.Left.{AreRules, AreSame, IsQuestion, IsRule, IsSame, weight, weight_of}

-- ---- some element of a list

module _ {A : Type 0} (P : A → Type 0) where
  pub any_nil : Any P [] → ⊥
  any_nil h = let never = h.2 in absurd (omega (arith, never))

  pub any_here : (x : A) (xs : List A) → P x → Any P (x ∷ xs)
  any_here x xs p = (0, x, omega arith, refl, p)

  pub any_later : (x : A) (xs : List A) → Any P xs → Any P (x ∷ xs)
  any_later x xs h = (suc h.0, h.1, omega (arith, h.2), h.3, h.4)

  cases_at : (x : A) (xs : List A) (k : ℕ) (y : A) → k < length (x ∷ xs) → slice_index_or (x ∷ xs) k y ≡ y → P y → P x ⊎ Any P xs
  cases_at x xs zero y lt is p = inl (subst P (sym is) p)
  cases_at x xs (suc k) y lt is p = inr (k, y, omega (arith, lt), is, p)

  pub any_cases : (x : A) (xs : List A) → Any P (x ∷ xs) → P x ⊎ Any P xs
  any_cases x xs h = cases_at x xs h.0 h.1 h.2 h.3 h.4

  pub any_left : (xs ys : List A) → Any P xs → Any P (xs ++ ys)
  any_left [] ys h = absurd (any_nil h)
  any_left (x ∷ xs) ys h =
      elim (any_cases x xs h) [
        | inl here ↦ any_here x (xs ++ ys) here
        | inr later ↦ any_later x (xs ++ ys) (any_left xs ys later)
      ]

  pub any_right : (xs ys : List A) → Any P ys → Any P (xs ++ ys)
  any_right [] ys h = h
  any_right (x ∷ xs) ys h = any_later x (xs ++ ys) (any_right xs ys h)

  pub any_either : (xs ys : List A) → Any P (xs ++ ys) → Any P xs ⊎ Any P ys
  any_either [] ys h = inr h
  any_either (x ∷ xs) ys h =
      elim (any_cases x (xs ++ ys) h) [
        | inl here ↦ inl (any_here x xs here)
        | inr later ↦ elim (any_either xs ys later) [
          | inl front ↦ inl (any_later x xs front)
          | inr back ↦ inr back
        ]
      ]

pub any_weaker : {A : Type 0} (P Q : A → Type 0) → ((x : A) → P x → Q x) → (xs : List A) → Any P xs → Any Q xs
any_weaker P Q f xs h = (h.0, h.1, h.2, h.3, f h.1 h.4)

-- what holds of one of two lists holds of the other
module _ {A : Type 0} (R : A → A → Type 0) (P Q : A → Type 0) (f : (x y : A) → R x y → P x → Q y) where
  pub any_zip : (xs ys : List A) → AllZip R xs ys → Any P xs → Any Q ys
  any_zip [] ys z h = absurd (any_nil P h)
  any_zip (x ∷ xs) [] z h = absurd z
  any_zip (x ∷ xs) (y ∷ ys) z h =
      elim (any_cases P x xs h) [
        | inl here ↦ any_here Q y ys (f x y z.0 here)
        | inr later ↦ any_later Q y ys (any_zip xs ys z.1 later)
      ]

  pub all_zip : (xs ys : List A) → AllZip R xs ys → All P xs → All Q ys
  all_zip [] [] z h = All-nil Q
  all_zip [] (y ∷ ys) z h = absurd z
  all_zip (x ∷ xs) [] z h = absurd z
  all_zip (x ∷ xs) (y ∷ ys) z h = All-cons Q y ys (f x y z.0 (All-head P x xs h)) (all_zip xs ys z.1 (All-tail P x xs h))

-- ---- lists of questions, one behind the other

put_before : (t : Bool) (o : Open) (rule : List Open) (xs ys : List (List Open))
    → put_first t o (rule ∷ xs ++ ys) ≡ put_first t o (rule ∷ xs) ++ ys
put_before true o rule xs ys = refl
put_before false o rule xs ys = refl

-- where something is asked there is a rule
abbrev HasFirst : List (List Open) → Type 0
HasFirst rules = (rule : List Open) × (rest : List (List Open)) × (rules ≡ rule ∷ rest)

put_some : (t : Bool) (o : Open) (rules : List (List Open)) → HasFirst (put_first t o rules)
put_some true o rules = (o ∷ [], rules, refl)
put_some false o [] = (o ∷ [], [], refl)
put_some false o (rule ∷ rules) = (o ∷ rule, rules, refl)

pub rules_some : (o : Open) (os : List Open) → HasFirst (rules_of (o ∷ os))
rules_some o os = put_some (begins_here os) o (rules_of os)

put_more : (t : Bool) (o : Open) (rules ys : List (List Open)) → HasFirst rules → put_first t o (rules ++ ys) ≡ put_first t o rules ++ ys
put_more t o rules ys first =
    subst (λ x. put_first t o (x ++ ys) ≡ put_first t o x ++ ys) (sym first.2) (put_before t o first.0 first.1 ys)

rules_more : (o : Open) (os more : List Open) → begins_here more ≡ true → rules_of (os ++ more) ≡ rules_of os ++ rules_of more
    → rules_of (o ∷ os ++ more) ≡ rules_of (o ∷ os) ++ rules_of more
rules_more o [] more begins before = ap (λ t. put_first t o (rules_of more)) begins
rules_more o (p ∷ os) more begins before =
    ap (put_first p.begins o) before ∙ put_more p.begins o (rules_of (p ∷ os)) (rules_of more) (rules_some p os)

pub rules_append : (os more : List Open) → begins_here more ≡ true → rules_of (os ++ more) ≡ rules_of os ++ rules_of more
rules_append [] more begins = refl
rules_append (o ∷ os) more begins = rules_more o os more begins (rules_append os more begins)

pub met_left : (os more : List Open) (r : List ℕ) (w : ℕ) → begins_here more ≡ true → SomeMet os r w → SomeMet (os ++ more) r w
met_left os more r w begins h =
    let P : List Open → Type 0 = λ rule. IsRuleMet r rule × (answer_of rule ≡ w) in
    subst (Any P) (sym (rules_append os more begins)) (any_left P (rules_of os) (rules_of more) h)

pub met_right : (os more : List Open) (r : List ℕ) (w : ℕ) → begins_here more ≡ true → SomeMet more r w → SomeMet (os ++ more) r w
met_right os more r w begins h =
    let P : List Open → Type 0 = λ rule. IsRuleMet r rule × (answer_of rule ≡ w) in
    subst (Any P) (sym (rules_append os more begins)) (any_right P (rules_of os) (rules_of more) h)

pub met_either : (os more : List Open) (r : List ℕ) (w : ℕ) → begins_here more ≡ true → SomeMet (os ++ more) r w
    → SomeMet os r w ⊎ SomeMet more r w
met_either os more r w begins h =
    let P : List Open → Type 0 = λ rule. IsRuleMet r rule × (answer_of rule ≡ w) in
    any_either P (rules_of os) (rules_of more) (subst (Any P) (rules_append os more begins) h)

pub begins_append : (os more : List Open) → begins_here os ≡ true → begins_here more ≡ true → begins_here (os ++ more) ≡ true
begins_append [] more first next = next
begins_append (o ∷ os) more first next = first

pub are_rules_append : (os more : List Open) → AreRules os → AreRules more → AreRules (os ++ more)
are_rules_append os more these those = (
  begins_append os more these.0 those.0,
  subst (All IsRule) (sym (rules_append os more those.0)) (All-append IsRule (rules_of os) (rules_of more) these.1 those.1),
)

pub weight_append : (os more : List Open) → weight (os ++ more) ≡ weight os + weight more
weight_append [] more = omega arith
weight_append (o ∷ os) more = omega (arith, weight_append os more)

-- ---- one rule alone

abbrev pub GoesOn : Open → Type 0
GoesOn o = o.begins ≡ false

one_more : (o : Open) (os : List Open) → begins_here os ≡ false → rules_of os ≡ os ∷ [] → rules_of (o ∷ os) ≡ (o ∷ os) ∷ []
one_more o os goes_on one = ap (λ t. put_first t o (rules_of os)) goes_on ∙ ap (put_first false o) one

pub rules_one : (o : Open) (os : List Open) → All GoesOn os → rules_of (o ∷ os) ≡ (o ∷ os) ∷ []
rules_one o [] h = refl
rules_one o (p ∷ os) h = one_more o (p ∷ os) (All-head GoesOn p os h) (rules_one p os (All-tail GoesOn p os h))

pub met_one : (o : Open) (os : List Open) (r : List ℕ) (w : ℕ) → All GoesOn os
    → SomeMet (o ∷ os) r w ↔ (IsRuleMet r (o ∷ os) × (o.answer ≡ w))
met_one o os r w h =
    let P : List Open → Type 0 = λ rule. IsRuleMet r rule × (answer_of rule ≡ w) in
    let one = rules_one o os h in (
      λ met. elim (any_cases P (o ∷ os) [] (subst (Any P) one met)) [
        | inl here ↦ here
        | inr later ↦ absurd (any_nil P later)
      ],
      λ met. subst (Any P) (sym one) (any_here P (o ∷ os) [] met),
    )

pub are_rules_one : (o : Open) (os : List Open) → o.begins ≡ true → All GoesOn os → IsRule (o ∷ os) → AreRules (o ∷ os)
are_rules_one o os begins h rule = (begins, subst (All IsRule) (sym (rules_one o os h)) (All-cons IsRule (o ∷ os) [] rule (All-nil IsRule)))

-- ---- lists that ask the same

same_back : (o p : Open) → IsSame o p → IsSame p o
same_back o p same = record { begins = sym same.begins; answer = sym same.answer; question = sym same.question }

pub are_same_back : (os ps : List Open) → AreSame os ps → AreSame ps os
are_same_back [] [] same = tt
are_same_back [] (p ∷ ps) same = absurd same
are_same_back (o ∷ os) [] same = absurd same
are_same_back (o ∷ os) (p ∷ ps) same = (same_back o p same.0, are_same_back os ps same.1)

-- lists as long, with the same at each place
pub same_at : (os ps : List Open) → length os ≡ length ps
    → ((k : ℕ) (d e : Open) → k < length os → IsSame (slice_index_or os k d) (slice_index_or ps k e)) → AreSame os ps
same_at [] [] long each = tt
same_at [] (p ∷ ps) long each = absurd (omega (arith, long))
same_at (o ∷ os) [] long each = absurd (omega (arith, long))
same_at (o ∷ os) (p ∷ ps) long each =
    (each 0 o p (omega arith), same_at os ps (omega (arith, long)) (λ k d e lt. each (suc k) d e (omega (arith, lt))))

same_begins : (os ps : List Open) → AreSame os ps → begins_here os ≡ begins_here ps
same_begins [] [] same = refl
same_begins [] (p ∷ ps) same = absurd same
same_begins (o ∷ os) [] same = absurd same
same_begins (o ∷ os) (p ∷ ps) same = let first = same.0 in first.begins

same_verdict : (os ps : List Open) → AreSame os ps → answer_of os ≡ answer_of ps
same_verdict [] [] same = refl
same_verdict [] (p ∷ ps) same = absurd same
same_verdict (o ∷ os) [] same = absurd same
same_verdict (o ∷ os) (p ∷ ps) same = let first = same.0 in first.answer

same_put : (t : Bool) (o p : Open) (xs ys : List (List Open)) → IsSame o p → AllZip AreSame xs ys
    → AllZip AreSame (put_first t o xs) (put_first t p ys)
same_put true o p xs ys same zip = ((same, tt), zip)
same_put false o p [] [] same zip = ((same, tt), tt)
same_put false o p [] (y ∷ ys) same zip = absurd zip
same_put false o p (x ∷ xs) [] same zip = absurd zip
same_put false o p (x ∷ xs) (y ∷ ys) same zip = ((same, zip.0), zip.1)

pub same_rules : (os ps : List Open) → AreSame os ps → AllZip AreSame (rules_of os) (rules_of ps)
same_rules [] [] same = tt
same_rules [] (p ∷ ps) same = absurd same
same_rules (o ∷ os) [] same = absurd same
same_rules (o ∷ os) (p ∷ ps) same =
    subst (λ t. AllZip AreSame (rules_of (o ∷ os)) (put_first t p (rules_of ps))) (same_begins os ps same.1)
    (same_put (begins_here os) o p (rules_of os) (rules_of ps) same.0 (same_rules os ps same.1))

-- what holds of the questions and verdicts of one list holds of those of the other
module _ (P : Open → Type 0) (kept : (o p : Open) → IsSame o p → P o → P p) where
  pub all_same : (os ps : List Open) → AreSame os ps → All P os → All P ps
  all_same [] [] same h = All-nil P
  all_same [] (p ∷ ps) same h = absurd same
  all_same (o ∷ os) [] same h = absurd same
  all_same (o ∷ os) (p ∷ ps) same h =
      All-cons P p ps (kept o p same.0 (All-head P o os h)) (all_same os ps same.1 (All-tail P o os h))

rule_met_same : (r : List ℕ) (os ps : List Open) → AreSame os ps → IsRuleMet r os → IsRuleMet r ps
rule_met_same r os ps same h = all_same (λ o. IsMet o.question r) (λ o p s met. subst (λ q. IsMet q r) s.question met) os ps same h

pub met_same : (os ps : List Open) (r : List ℕ) (w : ℕ) → AreSame os ps → SomeMet os r w → SomeMet ps r w
met_same os ps r w same h =
    let P : List Open → Type 0 = λ rule. IsRuleMet r rule × (answer_of rule ≡ w) in
    any_zip AreSame P P (λ x y s met. (rule_met_same r x y s met.0, sym (same_verdict x y s) ∙ met.1)) (rules_of os) (rules_of ps)
    (same_rules os ps same) h

pub clear_same : (os ps : List Open) (r : List ℕ) → AreSame os ps → IsClearAt os r → IsClearAt ps r
clear_same os ps r same clear v w first next =
    let back = are_same_back os ps same in
    clear v w (met_same ps os r v back first) (met_same ps os r w back next)

rule_same : (os ps : List Open) → AreSame os ps → IsRule os → IsRule ps
rule_same os ps same h =
    let P : Open → Type 0 = λ o. (o.answer ≡ answer_of ps) × IsQuestion o.question in
    let here : All P os = subst (λ w. All (λ o. (o.answer ≡ w) × IsQuestion o.question) os) (same_verdict os ps same) h in
    all_same P (λ o p s q. (sym s.answer ∙ q.0, subst IsQuestion s.question q.1)) os ps same here

pub are_rules_same : (os ps : List Open) → AreSame os ps → AreRules os → AreRules ps
are_rules_same os ps same rules = (
  sym (same_begins os ps same) ∙ rules.0,
  all_zip AreSame IsRule IsRule rule_same (rules_of os) (rules_of ps) (same_rules os ps same) rules.1,
)

pub weight_same : (os ps : List Open) → AreSame os ps → weight os ≡ weight ps
weight_same [] [] same = refl
weight_same [] (p ∷ ps) same = absurd same
weight_same (o ∷ os) [] same = absurd same
weight_same (o ∷ os) (p ∷ ps) same =
    let first = same.0 in
    omega (arith, ap (λ q. weight_of q.low) first.question, weight_same os ps same.1)
