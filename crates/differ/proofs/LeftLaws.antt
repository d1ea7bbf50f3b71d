-- What is left of profiles, and what it says.
use Rattle.std.proofs.Common.{◌≡◌, ◌≢◌, ℕ, zero, suc, ◌+◌, ◌*◌, ◌^◌, ◌<◌, ◌≤◌, ◌&&◌, ◌||◌, ◌==◌, Bool, true, false, inl, inr, List, [], ◌∷◌, ◌++◌, take, drop, length, get_or, set, refl, sym, ◌∙◌, ap, arith, subst}
use Rattle.std.specs.Prelude.{if◌then◌else◌}
use Rattle.std.specs.List.{list_all, list_any}
use Rattle.std.proofs.lemmas.Bool.{cases_Bool, cases_eq, cases_lt, eq-eqb, eqb-false, or_parts}
use Rattle.std.proofs.lemmas.List.{get_or-set_same, get_or-set_other, get_or_default, take_more}
use Rattle.differ.specs.Asked.{answers, holds}
use Rattle.differ.specs.Direction.{tells}
use Rattle.differ.specs.declared.asked.Ask.{Ask}
use Rattle.differ.specs.declared.direction.Direction.{Direction}
use Rattle.differ.specs.declared.left.Part.{Part}
use Rattle.differ.specs.declared.left.Rest.{Rest}
use Rattle.differ.specs.declared.left.Side.{Side}
use Rattle.differ.specs.Left.{AreNeverUnlike, AreUnlikeAt, AreWithin, IsRaised, IsWithout, are_met, has_part_on, holds_of, side_says, verdict}

-- ---- one more

and_true : (b : Bool) → (b && true) ≡ b
and_true true = refl
and_true false = refl

and_assoc : (a b c : Bool) → ((a && b) && c) ≡ (a && (b && c))
and_assoc true b c = refl
and_assoc false b c = refl

pub met_push : (parts : List Part) (part : Part) (a : ℕ → ℕ) → are_met (parts ++ part ∷ []) a ≡ (are_met parts a && holds_of a part)
met_push [] part a = and_true (holds_of a part)
met_push (p ∷ parts) part a = ap (λ b. holds_of a p && b) (met_push parts part a) ∙ sym (and_assoc (holds_of a p) (are_met parts a) (holds_of a part))

pub verdict_push : (last : ℕ) (rules : List Rest) (rest : Rest) (a : ℕ → ℕ)
    → verdict last (rules ++ rest ∷ []) a ≡ (if are_met rest.parts.items a then rest.word else verdict last rules a)
verdict_push last [] rest a = refl
verdict_push last (x ∷ rules) rest a = verdict_push (if are_met x.parts.items a then x.word else last) rules rest a

-- the next one of a list
pub met_next : (parts : List Part) (i : ℕ) (part : Part) (a : ℕ → ℕ) → i < length parts → part ≡ get_or parts i part
    → are_met (take (i + 1) parts) a ≡ (are_met (take i parts) a && holds_of a part)
met_next parts i part a lt is =
    ap (λ ps. are_met ps a) (take_more parts i part lt) ∙ met_push (take i parts) (get_or parts i part) a
    ∙ ap (λ p. are_met (take i parts) a && holds_of a p) (sym is)

pub verdict_next : (last : ℕ) (rules : List Rest) (i : ℕ) (rest : Rest) (a : ℕ → ℕ) → i < length rules → rest ≡ get_or rules i rest
    → verdict last (take (i + 1) rules) a ≡ (if are_met rest.parts.items a then rest.word else verdict last (take i rules) a)
verdict_next last rules i rest a lt is =
    ap (λ rs. verdict last rs a) (take_more rules i rest lt) ∙ verdict_push last (take i rules) (get_or rules i rest) a
    ∙ ap (λ (x : Rest). if are_met x.parts.items a then x.word else verdict last (take i rules) a) (sym is)

pub met_next_at : (parts : List Part) (i : ℕ) (a : ℕ → ℕ) → i < length parts → (d : Part)
    → are_met (take (i + 1) parts) a ≡ (are_met (take i parts) a && holds_of a (get_or parts i d))
met_next_at parts i a lt d = ap (λ ps. are_met ps a) (take_more parts i d lt) ∙ met_push (take i parts) (get_or parts i d) a

pub met_kept : (parts : List Part) (i : ℕ) (a : ℕ → ℕ) (new old : Bool) → i < length parts → (d : Part)
    → new ≡ (old && holds_of a (get_or parts i d)) → old ≡ are_met (take i parts) a → new ≡ are_met (take (i + 1) parts) a
met_kept parts i a new old lt d is before =
    is ∙ ap (λ m. m && holds_of a (get_or parts i d)) before ∙ sym (met_next_at parts i a lt d)

-- one of a list is not met
pub met_none : (parts : List Part) (i : ℕ) (part : Part) (a : ℕ → ℕ) → i < length parts → part ≡ get_or parts i part
    → holds_of a part ≡ false → are_met parts a ≡ false
met_none [] i part a lt is none = absurd (omega (arith, lt))
met_none (p ∷ parts) zero part a lt is none =
    let here : holds_of a p ≡ false = ap (λ x. holds_of a x) (sym is) ∙ none in
    ap (λ b. b && are_met parts a) here
met_none (p ∷ parts) (suc i) part a lt is none = elim (cases_Bool (holds_of a p)) [
  | inl met ↦ ap (λ b. b && are_met parts a) met ∙ met_none parts i part a (omega (arith, lt)) is none
  | inr unmet ↦ ap (λ b. b && are_met parts a) unmet
]

pub met_none_at : (parts : List Part) (i : ℕ) (a : ℕ → ℕ) → i < length parts → (d : Part) → holds_of a (get_or parts i d) ≡ false
    → are_met parts a ≡ false
met_none_at parts i a lt d none =
    met_none parts i (get_or parts i d) a lt (get_or_default parts i d (get_or parts i d) lt) none

-- ---- the same arguments

met_agree : (parts : List Part) (a b : ℕ → ℕ) → ((i : ℕ) → a i ≡ b i) → are_met parts a ≡ are_met parts b
met_agree [] a b same = refl
met_agree (p ∷ parts) a b same =
    ap (λ u. holds p.ask u && are_met parts a) (same p.index) ∙ ap (λ x. holds_of b p && x) (met_agree parts a b same)

pub verdict_agree : (last : ℕ) (rules : List Rest) (a b : ℕ → ℕ) → ((i : ℕ) → a i ≡ b i) → verdict last rules a ≡ verdict last rules b
verdict_agree last [] a b same = refl
verdict_agree last (x ∷ rules) a b same =
    ap (λ m. verdict (if m then x.word else last) rules a) (met_agree x.parts.items a b same)
    ∙ verdict_agree (if are_met x.parts.items b then x.word else last) rules a b same

-- ---- without an argument

met_without : (parts : List Part) (index : ℕ) (a b : ℕ → ℕ) → list_any (λ part. part.index == index) parts ≡ false
    → ((i : ℕ) → i ≢ index → b i ≡ a i) → are_met parts b ≡ are_met parts a
met_without [] index a b none same = refl
met_without (p ∷ parts) index a b none same =
    let both = or_parts (p.index == index) (list_any (λ part. part.index == index) parts) none in
    ap (λ u. holds p.ask u && are_met parts b) (same p.index (eqb-false p.index index both.0))
    ∙ ap (λ x. holds_of a p && x) (met_without parts index a b both.1 same)

pub verdict_without : (last : ℕ) (rules : List Rest) (index : ℕ) (a b : ℕ → ℕ) → list_any (has_part_on index) rules ≡ false
    → ((i : ℕ) → i ≢ index → b i ≡ a i) → verdict last rules b ≡ verdict last rules a
verdict_without last [] index a b none same = refl
verdict_without last (x ∷ rules) index a b none same =
    let both = or_parts (has_part_on index x) (list_any (has_part_on index) rules) none in
    ap (λ m. verdict (if m then x.word else last) rules b) (met_without x.parts.items index a b both.0 same)
    ∙ verdict_without (if are_met x.parts.items a then x.word else last) rules index a b both.1 same

-- an argument is 0 where no bit of it is left
pub none_left : (index rest : ℕ) (a b : ℕ → ℕ) → IsWithout index rest a b → rest ≡ 0 → (i : ℕ) → b i ≡ a i
none_left index rest a b without none i =
    let small : a index < 2 ^ 0 = subst (λ k. a index < 2 ^ k) none without.small in
    elim (cases_eq i index) [
      | inl here ↦ subst (λ j. b j ≡ a j) (sym here) (without.here ∙ (let e : 0 ≡ a index = omega arith in e))
      | inr other ↦ without.others i other
    ]
