-- Rules that are open once some arguments are known, and what a profile says by those that all arguments leave open.
use Rattle.std.proofs.Common.{◌≡◌, ℕ, ◌+◌, ◌==◌, ◌&&◌, ◌||◌, ◌++◌, inl, inr, Bool, true, false, not, cond, List, [], ◌∷◌, filter, refl, sym, ◌∙◌, ap, subst, arith}
use Rattle.std.specs.Prelude.{nat_lt, Some, None, Option, unwrap_or, if◌then◌else◌}
use Rattle.std.specs.Option.{option_map}
use Rattle.std.specs.List.{All, find, list_all, list_any}
use Rattle.std.proofs.lemmas.Bool.{cases_Bool, cases_order, eq-eqb, lt-ltb, le-ltb, ne_eqb, or_parts}
use Rattle.std.proofs.lemmas.List.Elements.{All-head, All-tail, All-cons, filter_agree}
use Rattle.call_record.specs.Words.{word}
use Rattle.machines.specs.Arch.{token_of}
use Rattle.machines.specs.Numbers.{has_call}
use Rattle.profile.specs.declared.conditions.Cond.{Cond}
use Rattle.profile.specs.declared.rules.Rule.{Rule}
use Rattle.profile.specs.Policy.{Policy, IsClear, Says}
use Rattle.profile.proofs.SaidLaws.{each_record_is_said_one_verdict}
use Rattle.profile.specs.Rule.{argument_of}
use Rattle.profile.specs.Said.{is_native, matches, meets, said}
use Rattle.differ.specs.Cells.{AreAlike}
use Rattle.differ.specs.declared.opened.Open.{Open}
use Rattle.differ.specs.OnCall.{IsOfCall, conditions_on, is_for, on_argument, rules_for, is_met_at, met_at}
use Rattle.differ.specs.inner.Open.{AreOpen, is_open, met_before, open_on}

-- ---- tests and filters

filter_filter : {X : Type 0} (p q : X → Bool) (xs : List X) → filter q (filter p xs) ≡ filter (λ x. p x && q x) xs
filter_filter p q [] = refl
filter_filter p q (x ∷ xs) = elim (cases_Bool (p x)) [
  | inl t ↦ rw t (elim (cases_Bool (q x)) [
    | inl tt' ↦ rw tt' (ap (λ ys. x ∷ ys) (filter_filter p q xs))
    | inr ff' ↦ rw ff' (filter_filter p q xs)
  ])
  | inr f ↦ rw f (filter_filter p q xs)
]

and_swap : (a b x y : Bool) → ((a && x) && (b && y)) ≡ ((a && b) && (x && y))
and_swap true true x y = refl
and_swap true false true y = refl
and_swap true false false y = refl
and_swap false b x y = refl

all_both : {X : Type 0} (p q : X → Bool) (xs : List X) → (list_all p xs && list_all q xs) ≡ list_all (λ x. p x && q x) xs
all_both p q [] = refl
all_both p q (x ∷ xs) = and_swap (p x) (q x) (list_all p xs) (list_all q xs) ∙ ap (λ b. (p x && q x) && b) (all_both p q xs)

all_agree : {X : Type 0} (p q : X → Bool) → ((x : X) → p x ≡ q x) → (xs : List X) → list_all p xs ≡ list_all q xs
all_agree p q h [] = refl
all_agree p q h (x ∷ xs) = ap (λ b. b && list_all p xs) (h x) ∙ ap (λ b. q x && b) (all_agree p q h xs)

and_assoc3 : (a b c : Bool) → ((a && b) && c) ≡ (a && (b && c))
and_assoc3 true b c = refl
and_assoc3 false b c = refl

-- ---- one argument more

and_true : (b : Bool) → (b && true) ≡ b
and_true true = refl
and_true false = refl

met_next : (j : ℕ) (r : List ℕ) (c : Cond) → (met_before j r c && met_at j (argument_of r j) c) ≡ met_before (j + 1) r c
met_next j r c = elim (cases_order c.index j) [
  | inl same ↦
      let now : nat_lt c.index j ≡ false = le-ltb c.index j (omega arith) in
      let next : nat_lt c.index (j + 1) ≡ true = lt-ltb c.index (j + 1) (omega arith) in
      let here : (c.index == j) ≡ true = eq-eqb c.index j same in
      rw (now, next, here) (ap (λ i. meets c (argument_of r i)) (sym same))
  | inr other ↦ elim other [
    | inl less ↦
        let now : nat_lt c.index j ≡ true = lt-ltb c.index j less in
        let next : nat_lt c.index (j + 1) ≡ true = lt-ltb c.index (j + 1) (omega arith) in
        let here : (c.index == j) ≡ false = ne_eqb c.index j (λ e. omega arith) in
        rw (now, next, here) (and_true (meets c (argument_of r c.index)))
    | inr more ↦
        let now : nat_lt c.index j ≡ false = le-ltb c.index j (omega arith) in
        let next : nat_lt c.index (j + 1) ≡ false = le-ltb c.index (j + 1) (omega arith) in
        let here : (c.index == j) ≡ false = ne_eqb c.index j (λ e. omega arith) in
        rw (now, next, here) refl
  ]
]

open_next : (token nr j : ℕ) (r : List ℕ) (rules : List Rule)
    → filter (is_met_at j (argument_of r j)) (filter (is_open token nr j r) rules) ≡ filter (is_open token nr (j + 1) r) rules
open_next token nr j r rules =
    filter_filter (is_open token nr j r) (is_met_at j (argument_of r j)) rules
    ∙ filter_agree _ _ (λ rule.
    and_assoc3 (is_for token nr rule) (list_all (met_before j r) rule.conds.items) (is_met_at j (argument_of r j) rule)
    ∙ ap (λ b. is_for token nr rule && b)
    (all_both (met_before j r) (met_at j (argument_of r j)) rule.conds.items ∙ all_agree _ _ (met_next j r) rule.conds.items)) rules

-- ---- numbers that are answered alike

pub all_left : {X : Type 0} (P : X → Type 0) (xs ys : List X) → All P (xs ++ ys) → All P xs
all_left P [] ys h = λ k d lt. absurd (omega arith)
all_left P (x ∷ xs) ys h = All-cons P x xs (All-head P x (xs ++ ys) h) (all_left P xs ys (All-tail P x (xs ++ ys) h))

pub all_right : {X : Type 0} (P : X → Type 0) (xs ys : List X) → All P (xs ++ ys) → All P ys
all_right P [] ys h = h
all_right P (x ∷ xs) ys h = all_right P xs ys (All-tail P x (xs ++ ys) h)

rule_alike : (j u v : ℕ) (cs : List Cond) → AreAlike (filter (λ c. c.index == j) cs) u v → list_all (met_at j u) cs ≡ list_all (met_at j v) cs
rule_alike j u v [] h = refl
rule_alike j u v (c ∷ cs) h = elim (cases_Bool (c.index == j)) [
  | inl here ↦
      let P : Cond → Type 0 = λ x. meets x u ≡ meets x v in
      let both : All P (c ∷ filter (λ x. x.index == j) cs) = subst (λ b. All P (cond b (c ∷ filter (λ x. x.index == j) cs) (filter (λ x. x.index == j) cs))) here h in
      rw here
      (ap (λ b. b && list_all (met_at j u) cs) (All-head P c (filter (λ x. x.index == j) cs) both)
      ∙ ap (λ b. meets c v && b) (rule_alike j u v cs (All-tail P c (filter (λ x. x.index == j) cs) both)))
  | inr other ↦
      let P : Cond → Type 0 = λ x. meets x u ≡ meets x v in
      let rest : All P (filter (λ x. x.index == j) cs) = subst (λ b. All P (cond b (c ∷ filter (λ x. x.index == j) cs) (filter (λ x. x.index == j) cs))) other h in
      rw other (rule_alike j u v cs rest)
]

rules_alike : (j u v : ℕ) (rules : List Rule) → AreAlike (conditions_on j rules) u v → filter (is_met_at j u) rules ≡ filter (is_met_at j v) rules
rules_alike j u v [] h = refl
rules_alike j u v (rule ∷ rules) h =
    let P : Cond → Type 0 = λ x. meets x u ≡ meets x v in
    let here : is_met_at j u rule ≡ is_met_at j v rule =
    rule_alike j u v rule.conds.items (all_left P (on_argument j rule) (conditions_on j rules) h) in
    let rest : filter (is_met_at j u) rules ≡ filter (is_met_at j v) rules =
    rules_alike j u v rules (all_right P (on_argument j rule) (conditions_on j rules) h) in
    ap (λ b. cond b (rule ∷ filter (is_met_at j u) rules) (filter (is_met_at j u) rules)) here
    ∙ ap (λ ys. cond (is_met_at j v rule) (rule ∷ ys) ys) rest

-- the rules that stay open where the next argument is answered as this number is
pub open_advance : (p q : Policy) (token nr j u : ℕ) (held next : Open) (r : List ℕ) → AreOpen p q token nr j held r
    → AreAlike (open_on j held) (argument_of r j) u → next.first.items ≡ filter (is_met_at j u) held.first.items
    → next.second.items ≡ filter (is_met_at j u) held.second.items → AreOpen p q token nr (j + 1) next r
open_advance p q token nr j u held next r o alike a b =
    let P : Cond → Type 0 = λ x. meets x (argument_of r j) ≡ meets x u in
    let one : filter (is_met_at j (argument_of r j)) held.first.items ≡ filter (is_met_at j u) held.first.items =
    rules_alike j (argument_of r j) u held.first.items
    (all_left P (conditions_on j held.first.items) (conditions_on j held.second.items) alike) in
    let other : filter (is_met_at j (argument_of r j)) held.second.items ≡ filter (is_met_at j u) held.second.items =
    rules_alike j (argument_of r j) u held.second.items
    (all_right P (conditions_on j held.first.items) (conditions_on j held.second.items) alike) in
    record {
      first = a ∙ sym one ∙ ap (filter (is_met_at j (argument_of r j))) o.first ∙ open_next token nr j r p.rules;
      second = b ∙ sym other ∙ ap (filter (is_met_at j (argument_of r j))) o.second ∙ open_next token nr j r q.rules;
    }

-- ---- all arguments

abbrev first_of : List Rule → Option Rule
first_of [] = None
first_of (x ∷ xs) = Some x

find_first : (test : Rule → Bool) (xs : List Rule) → find test xs ≡ first_of (filter test xs)
find_first test [] = refl
find_first test (x ∷ xs) = elim (cases_Bool (test x)) [
  | inl hit ↦ rw hit refl
  | inr miss ↦ rw miss (find_first test xs)
]

pub open_matches : (token nr : ℕ) (r : List ℕ) (rule : Rule) → IsOfCall token nr r → is_open token nr 6 r rule ≡ matches rule r
open_matches token nr r rule of =
    let conditions : list_all (met_before 6 r) rule.conds.items ≡ list_all (λ c. meets c (argument_of r c.index)) rule.conds.items =
    all_agree (met_before 6 r) (λ c. meets c (argument_of r c.index))
    (λ c. ap (λ b. not b || meets c (argument_of r c.index)) (lt-ltb c.index 6 c.in_range)) rule.conds.items in
    let head : is_for token nr rule ≡ ((word r 1 == token_of rule.arch) && (word r 0 == rule.nr)) =
    ap (λ t. (t == token_of rule.arch) && (nr == rule.nr)) (sym of.machine)
    ∙ ap (λ n. (word r 1 == token_of rule.arch) && (n == rule.nr)) (sym of.number) in
    ap (λ b. is_for token nr rule && b) conditions
    ∙ ap (λ b. b && list_all (λ c. meets c (argument_of r c.index)) rule.conds.items) head

found_by_open : (token nr : ℕ) (r : List ℕ) (rules : List Rule) → IsOfCall token nr r
    → find (λ rule. matches rule r) rules ≡ first_of (filter (is_open token nr 6 r) rules)
found_by_open token nr r rules of =
    find_first (λ rule. matches rule r) rules ∙ ap first_of (sym (filter_agree _ _ (λ rule. open_matches token nr r rule of) rules))

pub native_is : (p : Policy) (token nr : ℕ) (r : List ℕ) → IsOfCall token nr r → is_native p r ≡ list_any (has_call token nr) p.machines
native_is p token nr r of =
    ap (λ t. list_any (has_call t (word r 0)) p.machines) of.machine ∙ ap (λ n. list_any (has_call token n) p.machines) of.number

-- what a profile says by the rules that all arguments leave open
abbrev pub said_by : Policy → Bool → Option Rule → ℕ
said_by p native rule = if native then unwrap_or (option_map (λ x. x.word) rule) p.default_word else 0

pub said_same : (p : Policy) (token nr : ℕ) (r s : List ℕ) → IsOfCall token nr r → IsOfCall token nr s
    → filter (is_open token nr 6 r) p.rules ≡ filter (is_open token nr 6 s) p.rules → said p r ≡ said p s
said_same p token nr r s of_r of_s same =
    let rule : find (λ rule. matches rule r) p.rules ≡ find (λ rule. matches rule s) p.rules =
    found_by_open token nr r p.rules of_r ∙ ap first_of same ∙ sym (found_by_open token nr s p.rules of_s) in
    let native : is_native p r ≡ is_native p s = native_is p token nr r of_r ∙ sym (native_is p token nr s of_s) in
    ap (λ b. said_by p b (find (λ rule. matches rule r) p.rules)) native ∙ ap (λ f. said_by p (is_native p s) f) rule

-- what is said of one record is said of the other
pub says_moves : (p : Policy) (token nr v : ℕ) (r s : List ℕ) → IsClear p.rules → IsOfCall token nr r → IsOfCall token nr s
    → filter (is_open token nr 6 r) p.rules ≡ filter (is_open token nr 6 s) p.rules → Says p r v → Says p s v
says_moves p token nr v r s clear of_r of_s same says =
    let is : v ≡ said p r = (each_record_is_said_one_verdict p r v clear of_r.is_record).0 says in
    (each_record_is_said_one_verdict p s v clear of_s.is_record).1 (is ∙ said_same p token nr r s of_r of_s same)

-- ---- none known yet

all_true : {X : Type 0} (p : X → Bool) → ((x : X) → p x ≡ true) → (xs : List X) → list_all p xs ≡ true
all_true p h [] = refl
all_true p h (x ∷ xs) = ap (λ b. b && list_all p xs) (h x) ∙ all_true p h xs

open_none : (token nr : ℕ) (r : List ℕ) (rules : List Rule) → filter (is_open token nr 0 r) rules ≡ rules_for token nr rules
open_none token nr r rules = filter_agree _ _ (λ rule.
    ap (λ b. is_for token nr rule && b) (all_true (met_before 0 r) (λ c. ap (λ b. not b || meets c (argument_of r c.index)) (le-ltb c.index 0 (omega arith))) rule.conds.items)
    ∙ and_true (is_for token nr rule)) rules

pub open_first : (p q : Policy) (token nr : ℕ) (held : Open) (r : List ℕ) → held.first.items ≡ rules_for token nr p.rules
    → held.second.items ≡ rules_for token nr q.rules → AreOpen p q token nr 0 held r
open_first p q token nr held r a b = record {
  first = a ∙ sym (open_none token nr r p.rules);
  second = b ∙ sym (open_none token nr r q.rules);
}

-- ---- no rule

filter_none : {X : Type 0} (p q : X → Bool) (xs : List X) → list_any p xs ≡ false → filter (λ x. p x && q x) xs ≡ []
filter_none p q [] h = refl
filter_none p q (x ∷ xs) h =
    let parts = or_parts (p x) (list_any p xs) h in
    rw parts.0 (filter_none p q xs parts.1)

-- what a profile says where no rule is for the call
pub said_named : (p : Policy) (token nr : ℕ) (r : List ℕ) → IsOfCall token nr r → list_any (is_for token nr) p.rules ≡ false
    → said p r ≡ said_by p (list_any (has_call token nr) p.machines) None
said_named p token nr r of unnamed =
    let rule : find (λ rule. matches rule r) p.rules ≡ None =
    found_by_open token nr r p.rules of
    ∙ ap first_of (filter_none (is_for token nr) (λ rule. list_all (met_before 6 r) rule.conds.items) p.rules unnamed) in
    ap (λ b. said_by p b (find (λ rule. matches rule r) p.rules)) (native_is p token nr r of)
    ∙ ap (λ f. said_by p (list_any (has_call token nr) p.machines) f) rule
