-- What more is asked for a rule, and what a rule more says.
use Rattle.std.proofs.Common.{◌≡◌, ◌≢◌, ◌↔◌, ℕ, ◌-◌, ◌≤◌, ◌⊎◌, ◌==◌, true, false, List, [], ◌∷◌, ◌++◌, length, take, drop}
use Rattle.std.proofs.Common.{refl, ap, sym, ◌∙◌, subst, arith, inl, inr, length-append, length-drop}
use Rattle.std.specs.Prelude.{Result, Ok, Err, OnOk}
use Rattle.std.specs.List.{All}
use Rattle.std.proofs.lemmas.Bool.{cases_Bool, cases_eq, eq-eqb, ne_eqb, true≢false}
use Rattle.std.proofs.lemmas.List.{drop-append-le, drop_all, length-take-le, take-append-drop, take-append-le, take-take, take_all}
use Rattle.std.proofs.lemmas.List.Elements.{All-cons, All-head, All-nil, All-push, All-tail, All-weaker}
use Rattle.rule_compile.specs.declared.asked.Open.{Open}
use Rattle.rule_compile.specs.declared.asked.Questions.{Questions}
use Rattle.rule_compile.specs.Questions.{IsMet}
use Rattle.rule_compile.specs.Rules.{IsRuleMet, SomeMet}
use Rattle.rule_compile.specs.inner.Left.{AreRules, IsQuestion}
use Rattle.rule_compile.specs.inner.Asked.{AreOf, Asks, IsLast, IsOf, MeetsLast, before_of, last_of}
use Rattle.rule_compile.proofs.RulesLaws.{GoesOn, are_rules_append, are_rules_one, met_either, met_left, met_one, met_right}

pub on_ok : {T E : Type 0} (res : Result T E) (P Q : Type 0) → (P → Q) → OnOk res P → OnOk res Q
on_ok (Ok x) P Q f h = f h
on_ok (Err e) P Q f h = tt

-- ---- one question more

all_parts : {A : Type 0} (P : A → Type 0) (xs : List A) (y : A) → All P (xs ++ y ∷ []) → All P xs × P y
all_parts P [] y h = (All-nil P, All-head P y [] h)
all_parts P (x ∷ xs) y h =
    let rest = all_parts P xs y (All-tail P x (xs ++ y ∷ []) h) in
    (All-cons P x xs (All-head P x (xs ++ y ∷ []) h) rest.0, rest.1)

at_end : (word : ℕ) (os : List Open) (p : Open) → AreOf word os → p.begins ≡ (length os == 0) → IsOf word p → AreOf word (os ++ p ∷ [])
at_end word [] p of begins is = (begins, All-nil GoesOn, All-cons (IsOf word) p [] is (All-nil (IsOf word)))
at_end word (o ∷ os) p of begins is =
    let later : p.begins ≡ false = begins ∙ ne_eqb (length (o ∷ os)) 0 (λ e. omega (arith, e)) in
    (of.0, All-push GoesOn os p of.1 later, All-push (IsOf word) (o ∷ os) p of.2 is)

same_test : (n s : ℕ) → s ≤ n → (n == s) ≡ (n - s == 0)
same_test n s within =
    elim (cases_eq n s) [
      | inl e ↦ eq-eqb n s e ∙ sym (eq-eqb (n - s) 0 (omega (arith, e)))
      | inr ne ↦ ne_eqb n s ne ∙ sym (ne_eqb (n - s) 0 (λ e. ne (omega (arith, e))))
    ]

module _ (word : ℕ) (looked : List ℕ → Type 0) where
  pub asks_nothing : (q : Questions) (P : List ℕ → Type 0) → IsLast word q → ((r : List ℕ) → looked r → P r) → Asks q q word looked P
  asks_nothing q P last always = record {
    start = refl;
    before = refl;
    last = last;
    says = λ r seen. (λ met. (met, always r seen), λ both. both.0);
  }

  -- a rule that failed goes on to fail
  pub asks_failed : (q : Questions) (P : List ℕ → Type 0) → IsLast word q → q.failed ≡ true → Asks q q word looked P
  asks_failed q P last failed = record {
    start = refl;
    before = refl;
    last = last;
    says = λ r seen. (λ met. absurd (true≢false (sym failed ∙ met.0)), λ both. both.0);
  }

  pub asks_never : (old new : Questions) (P : List ℕ → Type 0) → IsLast word old → new.asked.items ≡ take old.start old.asked.items
      → new.start ≡ old.start → new.failed ≡ true → ((r : List ℕ) → looked r → P r → ⊥) → Asks old new word looked P
  asks_never old new P last items start failed never =
      let short : length new.asked.items ≡ new.start =
      ap (λ xs. length xs) items ∙ length-take-le old.start old.asked.items last.within ∙ sym start in
      let none : last_of new ≡ [] = drop_all new.start new.asked.items (omega (arith, short)) in
      record {
        start = start;
        before = ap (λ n. take n new.asked.items) start ∙ ap (take old.start) items
            ∙ take-take old.start old.start old.asked.items (omega arith);
        last = record { within = omega (arith, short); nothing = λ f. short; rule = subst (AreOf word) (sym none) tt };
        says = λ r seen. (λ met. absurd (true≢false (sym failed ∙ met.0)), λ both. absurd (never r seen both.1));
      }

  pub asks_one : (old new : Questions) (o : Open) → IsLast word old → old.failed ≡ false → new.start ≡ old.start
      → new.failed ≡ old.failed → new.asked.items ≡ old.asked.items ++ o ∷ [] → o.begins ≡ (length old.asked.items == old.start)
      → IsOf word o → Asks old new word looked (IsMet o.question)
  asks_one old new o last goes start failed items begins is =
      let within = last.within in
      let more : last_of new ≡ last_of old ++ o ∷ [] =
      ap (λ n. drop n new.asked.items) start ∙ ap (drop old.start) items ∙ drop-append-le old.start old.asked.items (o ∷ []) within in
      let first : o.begins ≡ (length (last_of old) == 0) =
      begins ∙ same_test (length old.asked.items) old.start within
      ∙ ap (λ n. n == 0) (sym (length-drop old.start old.asked.items)) in
      record {
        start = start;
        before = ap (λ n. take n new.asked.items) start ∙ ap (take old.start) items
            ∙ take-append-le old.start old.asked.items (o ∷ []) within;
        last = record {
          within = omega (arith, within, start, ap (λ xs. length xs) items, length-append old.asked.items (o ∷ []));
          nothing = λ f. absurd (true≢false (sym f ∙ failed ∙ goes));
          rule = subst (AreOf word) (sym more) (at_end word (last_of old) o last.rule first is);
        };
        says = λ r seen. (
          λ met. (let parts = all_parts (λ p. IsMet p.question r) (last_of old) o (subst (IsRuleMet r) more met.1) in
              ((goes, parts.0), parts.1)),
          λ both. (
            failed ∙ goes,
            subst (IsRuleMet r) (sym more) (All-push (λ p. IsMet p.question r) (last_of old) o both.0.1 both.1),
          ),
        );
      }

  pub asks_then : (a b c : Questions) (P Q : List ℕ → Type 0) → Asks a b word looked P → Asks b c word looked Q
      → Asks a c word looked (λ r. P r × Q r)
  asks_then a b c P Q first next = record {
    start = next.start ∙ first.start;
    before = next.before ∙ first.before;
    last = next.last;
    says = λ r seen. (
      λ met. (let later = (next.says r seen).0 met in
          let front = (first.says r seen).0 later.0 in
          (front.0, (front.1, later.1))),
      λ both. (next.says r seen).1 ((first.says r seen).1 (both.0, both.1.0), both.1.1),
    );
  }

-- the same of a property that is alike
pub asks_like : (old new : Questions) (word : ℕ) (looked seen P Q : List ℕ → Type 0) → ((r : List ℕ) → seen r → looked r)
    → ((r : List ℕ) → seen r → P r ↔ Q r) → Asks old new word looked P → Asks old new word seen Q
asks_like old new word looked seen P Q all like asks = record {
  start = asks.start;
  before = asks.before;
  last = asks.last;
  says = λ r at. (
    λ met. (let both = (asks.says r (all r at)).0 met in (both.0, (like r at).0 both.1)),
    λ both. (asks.says r (all r at)).1 (both.0, (like r at).1 both.1),
  );
}

-- ---- one rule more

are_rules_of : (word : ℕ) (os : List Open) → AreOf word os → AreRules os
are_rules_of word [] of = (refl, λ k d lt. absurd (omega (arith, lt)))
are_rules_of word (o ∷ os) of =
    let first = All-head (IsOf word) o os of.2 in
    are_rules_one o os of.0 of.1
    (All-weaker (IsOf word) (λ p. (p.answer ≡ o.answer) × IsQuestion p.question) (λ p is. (is.0 ∙ sym first.0, is.1)) (o ∷ os) of.2)

met_last : (word : ℕ) (os : List Open) (r : List ℕ) (w : ℕ) → AreOf word os → SomeMet os r w → (os ≢ []) × IsRuleMet r os × (word ≡ w)
met_last word [] r w of h = absurd (let never = h.2 in omega (arith, never))
met_last word (o ∷ os) r w of h =
    let first = All-head (IsOf word) o os of.2 in
    let met = (met_one o os r w of.1).0 h in
    (λ e. (let long : length (o ∷ os) ≡ 0 = ap (λ xs. length xs) e in omega (arith, long)), met.0, sym first.0 ∙ met.1)

met_rule : (word : ℕ) (os : List Open) (r : List ℕ) (w : ℕ) → AreOf word os → os ≢ [] → IsRuleMet r os → word ≡ w → SomeMet os r w
met_rule word [] r w of some met is = absurd (some refl)
met_rule word (o ∷ os) r w of some met is =
    let first = All-head (IsOf word) o os of.2 in
    (met_one o os r w of.1).1 (met, first.0 ∙ is)

module _ (old begun new : Questions) (word : ℕ) (P : List ℕ → Type 0) (same : begun.asked ≡ old.asked)
    (start : begun.start ≡ length old.asked.items) (fresh : begun.failed ≡ false) where
  behind : begun.start ≡ length begun.asked.items
  behind = start ∙ ap (λ a. length a.items) (sym same)

  none : last_of begun ≡ []
  none = drop_all begun.start begun.asked.items (omega (arith, behind))

  pub begun_last : IsLast word begun
  begun_last = record {
    within = omega (arith, behind);
    nothing = λ f. sym behind;
    rule = subst (AreOf word) (sym none) tt;
  }

  module _ (looked : List ℕ → Type 0) (asks : Asks begun new word looked P) where
    whole : new.asked.items ≡ old.asked.items ++ last_of new
    whole =
        let front : before_of begun ≡ old.asked.items = take_all begun.start begun.asked.items (omega (arith, behind)) ∙ ap (λ a. a.items) same in
        sym (take-append-drop new.start new.asked.items) ∙ ap (λ xs. xs ++ last_of new) (asks.before ∙ front)

    meets : (r : List ℕ) → looked r → MeetsLast new r ↔ P r
    meets r seen = (
      λ met. ((asks.says r seen).0 met).1,
      λ p. (asks.says r seen).1 ((fresh, subst (IsRuleMet r) (sym none) (All-nil (λ o. IsMet o.question r))), p),
    )

    -- where nothing is asked each record has the property
    pub added_sure : (new.failed ≡ false) × (length new.asked.items ≡ new.start) → (r : List ℕ) → looked r → P r
    added_sure sure r seen =
        let empty : last_of new ≡ [] = drop_all new.start new.asked.items (omega (arith, sure.1)) in
        (meets r seen).0 (sure.0, subst (IsRuleMet r) (sym empty) (All-nil (λ o. IsMet o.question r)))

    last_rules : AreRules (last_of new)
    last_rules = are_rules_of word (last_of new) asks.last.rule

    pub added_rules : AreRules old.asked.items → AreRules new.asked.items
    added_rules rules = subst AreRules (sym whole) (are_rules_append old.asked.items (last_of new) rules last_rules)

    module _ (unsure : ((new.failed ≡ false) × (length new.asked.items ≡ new.start)) → ⊥) (r : List ℕ) (seen : looked r) (w : ℕ) where
      some_left : new.failed ≡ false → last_of new ≢ []
      some_left goes e =
          let short : length new.asked.items - new.start ≡ 0 = sym (length-drop new.start new.asked.items) ∙ ap (λ xs. length xs) e in
          unsure (goes, omega (arith, short, asks.last.within))

      goes_on : last_of new ≢ [] → new.failed ≡ false
      goes_on some =
          elim (cases_Bool new.failed) [
            | inl failed ↦ absurd (some (drop_all new.start new.asked.items (omega (arith, asks.last.nothing failed))))
            | inr goes ↦ goes
          ]

      pub added_met : SomeMet new.asked.items r w ↔ (SomeMet old.asked.items r w ⊎ (P r × (word ≡ w)))
      added_met = (
        λ met. elim (met_either old.asked.items (last_of new) r w last_rules.0 (subst (λ os. SomeMet os r w) whole met)) [
          | inl front ↦ inl front
          | inr back ↦ (let parts = met_last word (last_of new) r w asks.last.rule back in
              inr ((meets r seen).0 (goes_on parts.0, parts.1), parts.2))
        ],
        λ either. subst (λ os. SomeMet os r w) (sym whole) (elim either [
          | inl front ↦ met_left old.asked.items (last_of new) r w last_rules.0 front
          | inr has ↦ (let met = (meets r seen).1 has.0 in
              met_right old.asked.items (last_of new) r w last_rules.0
              (met_rule word (last_of new) r w asks.last.rule (some_left met.0) met.1 has.1))
        ]),
      )
