-- A clear profile says one verdict of a record: that of the first rule that matches.
use Rattle.std.proofs.Common.{◌≡◌, ℕ, suc, ◌≤◌, ◌==◌, Bool, true, false, ◌⊎◌, inl, inr, List, [], ◌∷◌}
use Rattle.std.proofs.Common.{Some, None, bit_and, refl, sym, ◌∙◌, subst, arith}
use Rattle.std.specs.Bool.{Decides}
use Rattle.std.specs.List.{All, Contains, find, list_all}
use Rattle.std.specs.Prelude.{nat_le}
use Rattle.std.proofs.lemmas.Bool.Decides.{Decides-eqb, Decides-ltb, Decides-not, Decides-and}
use Rattle.std.proofs.lemmas.Bool.Decides.{Decides-by_and, Decides-like, not_from_Decides, nat_tests}
use Rattle.std.proofs.lemmas.List.Elements.{All-nil, All-cons, All-contains, All-weaker}
use Rattle.std.proofs.lemmas.Bool.{cases_Bool}
use Rattle.call_record.specs.Words.{IsRecord, word}
use Rattle.machines.specs.declared.arch.Arch.{Arch}
use Rattle.machines.specs.Arch.{token_of}
use Rattle.machines.specs.Numbers.{HasCall, IsWithin, has_call, is_within, own_numbers}
use Rattle.profile.specs.declared.conditions.Cond.{Cond}
use Rattle.profile.specs.declared.conditions.Op.{Op}
use Rattle.profile.specs.declared.conditions.Op.TheVariants.{Ne, Lt, Le, Eq, Ge, Gt, MaskedEq}
use Rattle.profile.specs.declared.rules.Rule.{Rule}
use Rattle.profile.specs.Operator.{Compares}
use Rattle.profile.specs.Condition.{Meets}
use Rattle.profile.specs.Rule.{argument_of, Matches}
use Rattle.profile.specs.Policy.{Policy, IsNative, IsClear, Says}
use Rattle.profile.specs.Said as spec
use Rattle.profile.proofs.MachineLaws.{Decides-any}

Decides-leb : (a b : ℕ) → Decides (nat_le a b) (a ≤ b)
Decides-leb a b = (λ h. grind (arith, nat_tests), λ h. grind (arith, nat_tests))

pub Decides-compares : (op : Op) (value datum u : ℕ) → Decides (spec.compares op value datum u) (Compares op value datum u)
Decides-compares Ne value datum u = Decides-not (u == value) (Decides-eqb u value)
Decides-compares Lt value datum u = Decides-ltb u value
Decides-compares Le value datum u = Decides-leb u value
Decides-compares Eq value datum u = Decides-eqb u value
Decides-compares Ge value datum u = Decides-leb value u
Decides-compares Gt value datum u = Decides-ltb value u
Decides-compares MaskedEq value datum u = Decides-eqb (bit_and u value) datum

pub Decides-matches : (rule : Rule) (r : List ℕ) → Decides (spec.matches rule r) (Matches rule r)
Decides-matches rule r =
    let p : Cond → Bool = λ c. spec.meets c (argument_of r c.index) in
    let P : Cond → Type 0 = λ c. Meets c (argument_of r c.index) in
    let each : (c : Cond) → Decides (p c) (P c) = λ c. Decides-compares c.op c.value c.datum (argument_of r c.index) in
    let machine = Decides-eqb (word r 1) (token_of rule.arch) in
    let number = Decides-eqb (word r 0) rule.nr in
    let conditions : Decides (list_all p rule.conds.items) (All P rule.conds.items) =
    Decides-by_and p P (list_all p) each refl (λ _ _. refl) rule.conds.items in
    let all = Decides-and _ _ (Decides-and _ _ machine number) conditions in
    Decides-like _ (λ (h, hold). record { machine = h.0; number = h.1; conditions = hold }) (λ m. ((m.machine, m.number), m.conditions)) all

pub Decides-has_call : (token nr : ℕ) (arch : Arch) → Decides (has_call token nr arch) (HasCall token nr arch)
Decides-has_call token nr arch =
    Decides-and _ _ (Decides-eqb (token_of arch) token)
    (Decides-any (is_within nr) (IsWithin nr)
    (λ numbers. Decides-and _ _ (Decides-leb numbers.first nr) (Decides-leb nr numbers.last)) (own_numbers arch))

pub Decides-is_native : (p : Policy) (r : List ℕ) → Decides (spec.is_native p r) (IsNative p r)
Decides-is_native p r =
    Decides-any (has_call (word r 1) (word r 0)) (HasCall (word r 1) (word r 0)) (Decides-has_call (word r 1) (word r 0)) p.machines

-- ---- the first rule that matches

-- the first element that passes, or none does
abbrev FindCases : (Rule → Bool) → List Rule → Type 0
FindCases test xs = ((x : Rule) × (find test xs ≡ Some x) × Contains xs x × (test x ≡ true)) ⊎
    ((find test xs ≡ None) × All (λ x. test x ≡ false) xs)

find_here : (test : Rule → Bool) (x : Rule) (xs : List Rule) → test x ≡ true → find test (x ∷ xs) ≡ Some x
find_here test x xs h = rw h refl

find_past : (test : Rule → Bool) (x : Rule) (xs : List Rule) → test x ≡ false → find test (x ∷ xs) ≡ find test xs
find_past test x xs h = rw h refl

find_cases : (test : Rule → Bool) (xs : List Rule) → FindCases test xs
find_cases test [] = inr (refl, All-nil (λ x. test x ≡ false))
find_cases test (x ∷ xs) =
    elim (cases_Bool (test x)) [
      | inl hit ↦ inl (x, find_here test x xs hit, (0, omega arith, refl), hit)
      | inr miss ↦ elim (find_cases test xs) [
        | inl some ↦ inl (some.0, find_past test x xs miss ∙ some.1, (suc some.2.0, omega (arith, some.2.1), some.2.2), some.3)
        | inr none ↦ inr (find_past test x xs miss ∙ none.0, All-cons (λ y. test y ≡ false) x xs miss none.1)
      ]
    ]

-- the value of `said` in each case
said_foreign : (p : Policy) (r : List ℕ) → spec.is_native p r ≡ false → spec.said p r ≡ 0
said_foreign p r h = rw h refl

said_found : (p : Policy) (r : List ℕ) (x : Rule) → spec.is_native p r ≡ true → find (λ rule. spec.matches rule r) p.rules ≡ Some x
    → spec.said p r ≡ x.word
said_found p r x h f = rw (h, f) refl

said_none : (p : Policy) (r : List ℕ) → spec.is_native p r ≡ true → find (λ rule. spec.matches rule r) p.rules ≡ None
    → spec.said p r ≡ p.default_word
said_none p r h f = rw (h, f) refl

-- what is said is said by the function
says_one : (p : Policy) (r : List ℕ) (v : ℕ) → Says p r v → v ≡ spec.said p r
says_one p r v s =
    let native = Decides-is_native p r in
    elim (cases_Bool (spec.is_native p r)) [
      | inr alien ↦ s.foreign (not_from_Decides _ native alien) ∙ sym (said_foreign p r alien)
      | inl is ↦ elim (find_cases (λ rule. spec.matches rule r) p.rules) [
        | inl (x, found, has, hit) ↦ s.matched (native.0 is) x has ((Decides-matches x r).0 hit) ∙ sym (said_found p r x is found)
        | inr (none, miss) ↦ s.unmatched (native.0 is)
            (All-weaker (λ rule. spec.matches rule r ≡ false) (λ rule. ¬ Matches rule r)
            (λ rule m. not_from_Decides _ (Decides-matches rule r) m) p.rules miss) ∙ sym (said_none p r is none)
      ]
    ]

-- the function says it
function_says : (p : Policy) (r : List ℕ) → IsClear p.rules → IsRecord r → Says p r (spec.said p r)
function_says p r clear is_r =
    let native = Decides-is_native p r in
    elim (cases_Bool (spec.is_native p r)) [
      | inr alien ↦ record {
        foreign = λ _. said_foreign p r alien;
        matched = λ n. absurd (not_from_Decides _ native alien n);
        unmatched = λ n. absurd (not_from_Decides _ native alien n);
      }
      | inl is ↦ elim (find_cases (λ rule. spec.matches rule r) p.rules) [
        | inl (x, found, has, hit) ↦
            let m : Matches x r = (Decides-matches x r).0 hit in record {
              foreign = λ alien. absurd (alien (native.0 is));
              matched = λ _ rule in-rules m'. said_found p r x is found ∙ clear r is_r x rule has in-rules m m';
              unmatched = λ _ none. absurd (All-contains (λ rule. ¬ Matches rule r) p.rules x none has m);
            }
        | inr (none, miss) ↦ record {
          foreign = λ alien. absurd (alien (native.0 is));
          matched = λ _ rule in-rules m'. absurd
              (not_from_Decides _ (Decides-matches rule r) (All-contains (λ y. spec.matches y r ≡ false) p.rules rule miss in-rules) m');
          unmatched = λ _ _. said_none p r is none;
        }
      ]
    ]

pub each_record_is_said_one_verdict : spec.EachRecordIsSaidOneVerdict
each_record_is_said_one_verdict p r v clear is_r = (says_one p r v, λ e. subst (Says p r) (sym e) (function_says p r clear is_r))
