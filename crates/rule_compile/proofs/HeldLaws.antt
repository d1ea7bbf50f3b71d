-- What a rule more says of the rules that hold of a record.
use Rattle.std.proofs.Common.{◌≡◌, ◌≢◌, ◌↔◌, ℕ, ◌+◌, ◌<◌, ◌⊎◌, Bool, true, false, List, [], ◌∷◌, ◌++◌, length, take, get_or}
use Rattle.std.proofs.Common.{refl, ap, sym, ◌∙◌, subst, arith, inl, inr}
use Rattle.std.specs.Prelude.{IsTrue}
use Rattle.std.specs.List.{All, Any}
use Rattle.std.proofs.lemmas.Bool.{false≢true}
use Rattle.std.proofs.lemmas.List.{get_or-take, length-take-le, take-take, take_more}
use Rattle.std.proofs.lemmas.List.Elements.{All-more, All-take}
use Rattle.call_record.specs.Words.{IsRecord, argument, word}
use Rattle.machines.specs.Arch.{token_of}
use Rattle.machines.specs.Width.{compared, is_narrow}
use Rattle.profile.specs.Condition.{Meets}
use Rattle.profile.specs.Rule.{argument_of}
use Rattle.rule_compile.specs.declared.asked.Open.{Open}
use Rattle.rule_compile.specs.declared.asked.Placed.{Placed}
use Rattle.rule_compile.specs.declared.asked.Questions.{Questions}
use Rattle.rule_compile.specs.Rules.{SomeMet}
use Rattle.rule_compile.specs.inner.Asked.{Asks, IsAdded}
use Rattle.rule_compile.specs.inner.Left.{AreHeld, SomeHeld}
use Rattle.rule_compile.proofs.AskedLaws.{added_met, added_sure}
use Rattle.rule_compile.proofs.RulesLaws.{any_cases, any_either, any_here, any_left, any_nil, any_right}

-- of a record of the rule's machine the conditions hold as the width of the record says
pub held_of_record : (placed : Placed) (r : List ℕ) → word r 1 ≡ token_of placed.rule.now.arch
    → AreHeld placed r ↔ All (λ c. Meets c (argument_of r c.index)) placed.rule.now.conds.items
held_of_record placed r machine =
    let P : ℕ → Type 0 = λ t. All (λ c. Meets c (compared (is_narrow t) (argument r c.index))) placed.rule.now.conds.items in
    (λ held. subst P (sym machine) held, λ all. subst P machine all)

-- the rule that is passed over has the default verdict
pub passed_over : (q : Questions) (placed : Placed) (default : ℕ) → placed.rule.now.word ≡ default → IsAdded q q placed default false
passed_over q placed default is r rec w = (
  λ met. inl met,
  λ either. elim either [
    | inl met ↦ met
    | inr has ↦ absurd (has.2 (sym has.1 ∙ is))
  ],
)

pub added : (old begun new : Questions) (placed : Placed) (default : ℕ) (met : Bool) → begun.asked ≡ old.asked
    → begun.start ≡ length old.asked.items → begun.failed ≡ false → placed.rule.now.word ≢ default
    → Asks begun new placed.rule.now.word IsRecord (AreHeld placed)
    → IsTrue met ↔ ((new.failed ≡ false) × (length new.asked.items ≡ new.start)) → IsAdded old new placed default met
added old begun new placed default true same start fresh other asks sure =
    added_sure old begun new placed.rule.now.word (AreHeld placed) same start fresh IsRecord asks (sure.0 refl)
added old begun new placed default false same start fresh other asks sure = λ r rec w.
    let says = added_met old begun new placed.rule.now.word (AreHeld placed) same start fresh IsRecord asks (λ h. false≢true (sure.1 h)) r rec w in (
      λ met. elim (says.0 met) [
        | inl before ↦ inl before
        | inr has ↦ inr (has.0, has.1, λ e. other (has.1 ∙ e))
      ],
      λ either. says.1 (elim either [
        | inl before ↦ inl before
        | inr has ↦ inr (has.0, has.1)
      ]),
    )

-- ---- the rules so far

pub none_so_far : (default : ℕ) (r : List ℕ) (w : ℕ) → SomeMet [] r w ↔ (SomeHeld [] r w × (w ≢ default))
none_so_far default r w = (
  λ met. absurd (let never = met.2 in omega (arith, never)),
  λ held. absurd (let some = held.0 in let never = some.2 in omega (arith, never)),
)

-- a rule more
pub one_so_far : (before after : List Open) (rules : List Placed) (i : ℕ) (placed : Placed) (default : ℕ) (r : List ℕ) (w : ℕ)
    → i < length rules → placed ≡ get_or rules i placed
    → SomeMet after r w ↔ (SomeMet before r w ⊎ (AreHeld placed r × (placed.rule.now.word ≡ w) × (w ≢ default)))
    → SomeMet before r w ↔ (SomeHeld (take i rules) r w × (w ≢ default))
    → SomeMet after r w ↔ (SomeHeld (take (i + 1) rules) r w × (w ≢ default))
one_so_far before after rules i placed default r w within is adds so_far =
    let P : Placed → Type 0 = λ p. AreHeld p r × (p.rule.now.word ≡ w) in
    let more : take (i + 1) rules ≡ take i rules ++ placed ∷ [] =
    take_more rules i placed within ∙ ap (λ p. take i rules ++ p ∷ []) (sym is) in (
      λ met. elim (adds.0 met) [
        | inl front ↦ (let held = so_far.0 front in
            (subst (Any P) (sym more) (any_left P (take i rules) (placed ∷ []) held.0), held.1))
        | inr has ↦ (subst (Any P) (sym more) (any_right P (take i rules) (placed ∷ []) (any_here P placed [] (has.0, has.1))), has.2)
      ],
      λ held. adds.1 (elim (any_either P (take i rules) (placed ∷ []) (subst (Any P) more held.0)) [
        | inl front ↦ inl (so_far.1 (front, held.1))
        | inr back ↦ elim (any_cases P placed [] back) [
          | inl here ↦ inr (here.0, here.1, held.1)
          | inr later ↦ absurd (any_nil P later)
        ]
      ]),
    )

-- what holds of the first elements, and of one more
pub held_more : {A : Type 0} (P : A → Type 0) (xs : List A) (i : ℕ) (x : A) → i < length xs → x ≡ get_or xs i x
    → (All P (take i xs) × P x) ↔ All P (take (i + 1) xs)
held_more P xs i x within is =
    let longer : i < length (take (i + 1) xs) = omega (arith, within, length-take-le (i + 1) xs (omega (arith, within))) in
    let at : get_or (take (i + 1) xs) i x ≡ x = get_or-take (i + 1) xs i x (omega arith) ∙ sym is in (
      λ both. All-more P xs i x within both.0 (subst P is both.1),
      λ all. (subst (All P) (take-take i (i + 1) xs (omega arith)) (All-take P i (take (i + 1) xs) all), subst P at (all i x longer)),
    )
