-- The rules for a number, as they are gathered, and what they decide.
use Rattle.std.proofs.Common.{◌≡◌, ℕ, ◌+◌, ◌<◌, ◌≤◌, List, [], ◌∷◌, ◌++◌, length, get_or, inl, inr, ap, sym, ◌∙◌, refl, subst, arith, length-append}
use Rattle.std.specs.Prelude.{Err, IfOk, IfSome, None, Ok, Option, Result, Some, slice_get, slice_index}
use Rattle.std.specs.List.{All, Any, Contains}
use Rattle.std.specs.List.Sorted.{IsPermutation}
use Rattle.std.specs.Option.{IsSomeAnd}
use Rattle.std.proofs.lemmas.Bool.{cases_eq}
use Rattle.std.proofs.lemmas.List.{get_or_append_left, get_or_default}
use Rattle.std.proofs.lemmas.Option.{get_or_from_slice_get, same_Some, slice_get-get_or}
use Rattle.std.proofs.lemmas.List.Elements.{All-append, All-cons, All-contains, All-head, All-nil, All-weaker}
use Rattle.std.proofs.lemmas.List.Sorted.{All-permutation, Contains-permutation}
use Rattle.std.proofs.Math.Seq.{get_or-append_seam}
use Rattle.call_record.specs.Words.{IsRecord}
use Rattle.machines.specs.Arch.{token_of}
use Rattle.profile.specs.declared.rules.Rule.{Rule}
use Rattle.profile.specs.Condition.{Meets}
use Rattle.profile.specs.Latest.{IsLatest, StandsAt}
use Rattle.profile.specs.Rule.{Matches, argument_of}
use Rattle.profile.proofs.Walks.{height}
use Rattle.rule_compile.specs.declared.asked.Placed.{Placed}
use Rattle.rule_compile.specs.declared.outline.Block.{Block}
use Rattle.rule_compile.specs.declared.ranges.Leaf.{Leaf}
use Rattle.rule_compile.specs.declared.ranges.Leaf.TheVariants.{Verdict}
use Rattle.rule_compile.specs.Decides.{Decides, by_verdict}
use Rattle.rule_compile.specs.inner.Left.{SomeHeld}
use Rattle.rule_compile.specs.inner.Numbers.{AreUnconditional, IsFor, LeafFor, ruled, unruled}
use Rattle.rule_compile.specs.inner.Stands.{AreThose, AreThoseBehind, DecidesNumber, DecidesRules, HaveNoCondition, IsClearOn, IsLeafOf, IsSaidBy}
use Rattle.rule_compile.specs.inner.Stands.{SaysNumber, by_default, by_rule}
use Rattle.rule_compile.proofs.HeldLaws.{held_of_record}
use Rattle.rule_compile.proofs.SaysLaws.{said_one, says_default, says_unconditional}

any_left : {X : Type 0} (P : X → Type 0) (xs ys : List X) → Any P xs → Any P (xs ++ ys)
any_left P xs ys (k, x, inside, at, p) =
    (k, x, omega (arith, inside, length-append xs ys), get_or_append_left xs ys x k inside ∙ at, p)

any_last : {X : Type 0} (P : X → Type 0) (xs : List X) (x : X) → P x → Any P (xs ++ x ∷ [])
any_last P xs x p = (length xs, x, omega (arith, length-append xs (x ∷ [])), get_or-append_seam xs x [] x, p)

module _ (rules : List Rule) (token nr : ℕ) where
  pub those_none : (next : Option ℕ) → IsLatest rules token nr (length rules) next → AreThoseBehind rules token nr next []
  those_none next latest = record {
    those = All-nil (λ (placed : Placed). Contains rules placed.rule.now × IsFor token nr placed.rule.now);
    places = All-nil (λ (placed : Placed). slice_get rules placed.place ≡ Some placed.rule.now);
    stands = latest.stands;
    left = λ k at. inl (latest.greatest k at);
  }

  -- the next place is one of a rule
  pub behind_within : (next : Option ℕ) (place : ℕ) (own : List Placed) → AreThoseBehind rules token nr next own → next ≡ Some place
      → place < length rules
  behind_within next place own behind is =
      let at : StandsAt rules token nr (length rules) place =
      subst (λ (o : Option ℕ). IfSome o (StandsAt rules token nr (length rules))) is behind.stands in
      at.before

  -- the rule at the next place is for the number
  module _ (place : ℕ) (own : List Placed) (placed : Placed) (behind : AreThoseBehind rules token nr (Some place) own)
      (at : slice_get rules place ≡ Some placed.rule.now) where
    here : StandsAt rules token nr (length rules) place
    here = behind.stands

    same : here.rule ≡ placed.rule.now
    same = same_Some here.rule placed.rule.now (sym here.at ∙ at)

    fits : IsFor token nr placed.rule.now
    fits = subst (IsFor token nr) same (here.is_for.machine, here.is_for.number)

    latest_for : (more : Option ℕ) → ((x : Rule) → slice_get rules place ≡ Some x → IsLatest rules (token_of x.arch) x.nr place more)
        → IsLatest rules token nr place more
    latest_for more earlier =
        subst (λ n. IsLatest rules token n place more) here.is_for.number
        (subst (λ t. IsLatest rules t here.rule.nr place more) here.is_for.machine (earlier here.rule here.at))

    earlier_stands : (more : Option ℕ) → IfSome more (StandsAt rules token nr place) → IfSome more (StandsAt rules token nr (length rules))
    earlier_stands None is = tt
    earlier_stands (Some k) is = record {
      rule = is.rule;
      before = omega (arith, is.before, here.before);
      at = is.at;
      is_for = is.is_for;
    }

    those_more : All (λ (placed : Placed). Contains rules placed.rule.now × IsFor token nr placed.rule.now) (own ++ placed ∷ [])
    those_more =
        let P : Placed → Type 0 = λ placed. Contains rules placed.rule.now × IsFor token nr placed.rule.now in
        let has : Contains rules placed.rule.now = (place, here.before, get_or_from_slice_get rules place placed.rule.now placed.rule.now at) in
        All-append P own (placed ∷ []) behind.those (All-cons P placed [] (has, fits) (All-nil P))

    places_more : placed.place ≡ place → All (λ (placed : Placed). slice_get rules placed.place ≡ Some placed.rule.now) (own ++ placed ∷ [])
    places_more is =
        let P : Placed → Type 0 = λ placed. slice_get rules placed.place ≡ Some placed.rule.now in
        All-append P own (placed ∷ []) behind.places (All-cons P placed [] (ap (slice_get rules) is ∙ at) (All-nil P))

    pub those_next : placed.place ≡ place → (more : Option ℕ)
        → ((x : Rule) → slice_get rules place ≡ Some x → IsLatest rules (token_of x.arch) x.nr place more)
        → AreThoseBehind rules token nr more (own ++ placed ∷ [])
    those_next is more earlier =
        let latest = latest_for more earlier in
        record {
          those = those_more;
          places = places_more is;
          stands = earlier_stands more latest.stands;
          left = λ k other.
              let P : Placed → Type 0 = λ placed. placed.rule.now ≡ other.rule in
              elim (behind.left k other) [
                | inr any ↦ inr (any_left P own (placed ∷ []) any)
                | inl before ↦ elim (cases_eq k place) [
                  | inl e ↦ inr (any_last P own placed
                      (same_Some placed.rule.now other.rule (sym at ∙ ap (slice_get rules) (sym e) ∙ other.at)))
                  | inr not ↦ inl (latest.greatest k (record {
                    rule = other.rule;
                    before = omega (arith, before, not);
                    at = other.at;
                    is_for = other.is_for;
                  }))
                ]
              ];
        }

  pub those_down : (place : ℕ) (own : List Placed) → AreThoseBehind rules token nr (Some place) own → (more : Option ℕ)
      → ((x : Rule) → slice_get rules place ≡ Some x → IsLatest rules (token_of x.arch) x.nr place more) → height more < place + 1
  those_down place own behind more earlier =
      let here : StandsAt rules token nr (length rules) place = behind.stands in
      let latest : IsLatest rules (token_of here.rule.arch) here.rule.nr place more = earlier here.rule here.at in
      down (token_of here.rule.arch) here.rule.nr place more latest.stands
    where
      down : (t n place : ℕ) (more : Option ℕ) → IfSome more (StandsAt rules t n place) → height more < place + 1
      down t n place None is = omega arith
      down t n place (Some k) is = omega (arith, is.before)

  -- all of them, in another order
  pub those_turned : (next : Option ℕ) (own turned : List Placed) → next ≡ None → AreThoseBehind rules token nr next own → IsPermutation own turned
      → AreThose rules token nr turned
  those_turned next own turned none behind moves = record {
    those = All-permutation (λ (placed : Placed). Contains rules placed.rule.now × IsFor token nr placed.rule.now) own turned moves behind.those;
    places = All-permutation (λ (placed : Placed). slice_get rules placed.place ≡ Some placed.rule.now) own turned moves behind.places;
    all = λ rule has fits.
        let at : StandsAt rules token nr (length rules) has.0 = record {
          rule = rule;
          before = has.1;
          at = slice_get-get_or rules has.0 rule has.1 ∙ ap Some has.2;
          is_for = record { machine = fits.0; number = fits.1 };
        } in
        elim (behind.left has.0 at) [
          | inl more ↦ absurd (subst (λ (o : Option ℕ). IsSomeAnd o (λ place. has.0 ≤ place)) none more)
          | inr (k, placed, inside, is, e) ↦
              let moved = Contains-permutation own turned placed moves (k, inside, is) in
              (moved.0, placed, moved.1, moved.2, e)
        ];
  }

-- ---- what decides the number by them

module _ (rules : List Rule) (token nr default : ℕ) (own : List Placed) (those : AreThose rules token nr own) where
  one_of : (placed : Placed) → Contains own placed → Contains rules placed.rule.now × IsFor token nr placed.rule.now
  one_of placed has =
      All-contains (λ (placed : Placed). Contains rules placed.rule.now × IsFor token nr placed.rule.now) own placed those.those has

  pub leaf_says : (to : Leaf) → IsLeafOf own default to → (word : ℕ) × (to ≡ Verdict word) × SaysNumber rules token nr default word
  leaf_says to (by_rule placed has none is) =
      let of = one_of placed has in
      (placed.rule.now.word, is, says_unconditional rules token nr default placed.rule.now of.0 of.1 none)
  leaf_says to (by_default all is) = (
    default,
    is,
    says_default rules token nr default
        (λ rule has fits.
        let one = those.all rule has fits in
        let e : one.1.rule.now ≡ rule = one.4 in
        sym (ap (λ (x : Rule). x.word) e)
        ∙ All-contains (λ (placed : Placed). placed.rule.now.word ≡ default) own one.1 all (one.0, one.2, one.3)),
  )

  pub without_conditions : AreUnconditional rules → HaveNoCondition own
  without_conditions none =
      All-weaker (λ (placed : Placed). Contains rules placed.rule.now × IsFor token nr placed.rule.now)
      (λ placed. placed.rule.now.conds.items ≡ [])
      (λ placed is. All-contains (λ (rule : Rule). rule.conds.items ≡ []) rules placed.rule.now none is.0) own those.those

pub leaf_for : (rules : List Rule) (token nr default : ℕ) (own : List Placed) → AreThose rules token nr own → (to : Leaf)
    → IsLeafOf own default to → LeafFor rules token nr default to
leaf_for rules token nr default own those to (by_rule placed has none is) =
    let of = one_of rules token nr default own those placed has in
    ruled placed.rule.now of.0 of.1 is
leaf_for rules token nr default [] those to (by_default all is) =
    unruled
    (λ k d inside fits.
    let one = those.all (get_or rules k d) (k, inside, sym (get_or_default rules k d (get_or rules k d) inside)) fits in
    absurd (omega (arith, one.2)))
    is
leaf_for rules token nr default (x ∷ xs) those to (by_default all is) =
    let of = one_of rules token nr default (x ∷ xs) those x (0, omega arith, refl) in
    ruled x.rule.now of.0 of.1 (is ∙ ap Verdict (sym (All-head (λ (placed : Placed). placed.rule.now.word ≡ default) x xs all)))

-- ---- what they decide

module _ (rules : List Rule) (token nr default : ℕ) (own : List Placed) (those : AreThose rules token nr own) (r : List ℕ)
    (at : slice_index r 1 ≡ token) (number : slice_index r 0 ≡ nr) where
  pub held_matches : (w : ℕ) → SomeHeld own r w → (rule : Rule) × Contains rules rule × Matches rule r × (rule.word ≡ w)
  held_matches w (k, placed, inside, is, (held, word)) =
      let of_those = All-contains (λ (placed : Placed). Contains rules placed.rule.now × IsFor token nr placed.rule.now) own placed those.those
      (k, inside, is) in
      let machine : slice_index r 1 ≡ token_of placed.rule.now.arch = at ∙ sym of_those.1.0 in (
        placed.rule.now,
        of_those.0,
        record {
          machine = machine;
          number = number ∙ sym of_those.1.1;
          conditions = (held_of_record placed r machine).0 held;
        },
        word,
      )

  matches_held : (rule : Rule) → Contains rules rule → Matches rule r → SomeHeld own r rule.word
  matches_held rule has m =
      let one = those.all rule has (sym m.machine ∙ at, sym m.number ∙ number) in
      let e : one.1.rule.now ≡ rule = one.4 in
      let machine : slice_index r 1 ≡ token_of one.1.rule.now.arch = m.machine ∙ ap (λ (y : Rule). token_of y.arch) (sym e) in (
        one.0,
        one.1,
        one.2,
        one.3,
        (
          (held_of_record one.1 r machine).1
              (subst (λ (y : Rule). All (λ c. Meets c (argument_of r c.index)) y.conds.items) (sym e) m.conditions),
          ap (λ (y : Rule). y.word) e,
        ),
      )

  pub by_those : (blocks : List Block) (leaf : Leaf) → IsRecord r → DecidesRules blocks own default leaf → IsClearOn rules r → (v : ℕ)
      → IsSaidBy rules default r v → Decides blocks r v leaf
  by_those blocks leaf is_r decides clear v said =
      decides r is_r
      (λ a b held_a held_b.
      let one = held_matches a held_a in
      let other = held_matches b held_b in
      sym one.3 ∙ clear one.0 other.0 one.1 other.1 one.2 other.2 ∙ other.3)
      v
      (elim said [
        | inl (rule, has, m, is) ↦ inl (subst (SomeHeld own r) is (matches_held rule has m))
        | inr (none, is) ↦ inr (
          (λ w held. let one = held_matches w held in All-contains (λ rule. Matches rule r → ⊥) rules one.0 none one.1 one.2),
          is,
        )
      ])

pub decides_those : (rules : List Rule) (token nr default : ℕ) (own : List Placed) (blocks : List Block) (leaf : Leaf)
    → AreThose rules token nr own → DecidesRules blocks own default leaf → DecidesNumber rules token nr default blocks leaf
decides_those rules token nr default own blocks leaf those decides r is_r at number clear v said =
    by_those rules token nr default own those r at number blocks leaf is_r decides clear v said

-- one verdict decides them all
pub decides_verdict : (rules : List Rule) (token nr default word : ℕ) (blocks : List Block) → SaysNumber rules token nr default word
    → DecidesNumber rules token nr default blocks (Verdict word)
decides_verdict rules token nr default word blocks says r is_r at number clear v said =
    let e : v ≡ word = said_one rules default v word r clear said (says r is_r at number clear) in
    subst (λ w. Decides blocks r w (Verdict word)) (sym e) by_verdict

pub if_ok : {T E : Type 0} (r : Result T E) (P Q : T → Type 0) → IfOk r P → ((x : T) → P x → Q x) → IfOk r Q
if_ok (Ok x) P Q is f = f x is
if_ok (Err e) P Q is f = tt
