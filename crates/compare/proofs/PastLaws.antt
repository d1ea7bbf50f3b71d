-- What gets past a profile or is stopped by it, as lines tell it.
use Rattle.std.proofs.Common.{◌≡◌, ◌≢◌, ℕ, inl, inr, true, false, List, [], ◌∷◌, refl, ap, ◌∙◌, sym}
use Rattle.std.proofs.Common.{◌==◌, ◌&&◌, ◌||◌, ◌⊎◌, subst}
use Rattle.std.proofs.lemmas.Bool.{and_parts, both_ways, cases_Bool, eq-eqb, eqb-true}
use Rattle.std.proofs.lemmas.List.Elements.{All-head, All-tail}
use Rattle.std.specs.List.{All, list_any}
use Rattle.machines.specs.declared.arch.Family.{Family}
use Rattle.differ.specs.declared.direction.Direction.{Direction}
use Rattle.differ.specs.declared.named.Call.{Call}
use Rattle.differ.specs.Named.{is_named}
use Rattle.profile.specs.Policy.{Policy}
use Rattle.widths.specs.Crowded.{AreCrowded}
use Rattle.widths.specs.Past.{AreAllPast, AreLikeOnCall, IsUnlike, is_past_of}
use Rattle.widths.specs.declared.unread_bits.calls.AllPast.{AllPast}
use Rattle.widths.specs.declared.unread_bits.past.Past.{Past}
use Rattle.compare.specs.Complete.{is_crowded}
use Rattle.compare.specs.Hints.{IsLeftOpen}
use Rattle.compare.specs.Past.{ArePast, IsUndecided}
use Rattle.compare.specs.declared.search.Crowded.{Crowded}

-- one of some calls
pub some_is_unlike : (p : Policy) (d : Direction) (list : List Past) → All (IsUnlike p d) list → (list ≢ []) → (past : Past) × IsUnlike p d past
some_is_unlike p d [] all some = absurd (some refl)
some_is_unlike p d (x ∷ xs) all some = (x, All-head (IsUnlike p d) x xs all)

-- one of some calls that are not decided
some_crowded : (family : Family) (p : Policy) (list : List Crowded) → All (IsUndecided family p) list → (list ≢ [])
    → (token : ℕ) × (nr : ℕ) × AreCrowded p token nr
some_crowded family p [] all some = absurd (some refl)
some_crowded family p (x ∷ xs) all some = (x.token, x.nr, (All-head (IsUndecided family p) x xs all).is)

-- a call that is among those that are not decided
crowded_is : (family : Family) (p : Policy) (list : List Crowded) (t n : ℕ) → All (IsUndecided family p) list
    → list_any (is_crowded t n) list ≡ true → AreCrowded p t n
crowded_is family p [] t n all h = absurd (both_ways false refl h)
crowded_is family p (x ∷ xs) t n all h = elim (cases_Bool (is_crowded t n x)) [
  | inl here ↦
      let parts = and_parts (t == x.token) (n == x.nr) here in
      let token : t ≡ x.token = eqb-true t x.token parts.0 in
      let nr : n ≡ x.nr = eqb-true n x.nr parts.1 in
      subst (λ a. AreCrowded p a n) (sym token)
      (subst (λ b. AreCrowded p x.token b) (sym nr) (All-head (IsUndecided family p) x xs all).is)
  | inr other ↦
      crowded_is family p xs t n (All-tail (IsUndecided family p) x xs all)
      (subst (λ b. (b || list_any (is_crowded t n) xs) ≡ true) other h)
]

none_or_open : (family : Family) (p : Policy) (d : Direction) (list : List Past) (crowded : List Crowded) (t n : ℕ) → All (IsUndecided family p) crowded
    → list ≡ [] → AreLikeOnCall p t n d ⊎ ((list_any (is_past_of t n) list ≡ true) ⊎ (list_any (is_crowded t n) crowded ≡ true))
    → AreLikeOnCall p t n d ⊎ AreCrowded p t n
none_or_open family p d list crowded t n undecided none h = elim h [
  | inl like ↦ inl like
  | inr other ↦ elim other [
    | inl told ↦ absurd (both_ways false refl (ap (list_any (is_past_of t n)) (sym none) ∙ told))
    | inr more ↦ inr (crowded_is family p crowded t n undecided more)
  ]
]

-- where calls are not decided and no other has an unlike record
pub left_open : (family : Family) (p : Policy) (d : Direction) (list : List Past) (crowded : List Crowded) → ArePast family p d list crowded → list ≡ []
    → (crowded ≢ []) → IsLeftOpen p d
left_open family p d list crowded are none some = record {
  undecided = some_crowded family p crowded are.are_crowded some;
  others = λ t n on. none_or_open family p d list crowded t n are.are_crowded none (are.complete t n on);
}

-- the crowded calls are named
abbrev pub AreNamed : List Call → List Crowded → Type 0
AreNamed calls crowded = (t n : ℕ) → is_named calls t n ≡ true → list_any (is_crowded t n) crowded ≡ true

self_named : (x : Call) (xs : List Call) → is_named (x ∷ xs) x.token x.nr ≡ true
self_named x xs = rw (eq-eqb x.token x.token refl, eq-eqb x.nr x.nr refl) refl

-- where none is named there is none
none_named : (calls : List Call) (crowded : List Crowded) → AreNamed calls crowded → crowded ≡ [] → calls ≡ []
none_named [] crowded named none = refl
none_named (x ∷ xs) crowded named none =
    absurd (both_ways false refl (ap (list_any (is_crowded x.token x.nr)) (sym none) ∙ named x.token x.nr (self_named x xs)))

pub past_are : (family : Family) (p : Policy) (d : Direction) (all : AllPast) (crowded : List Crowded) → AreAllPast p d all
    → All (IsUndecided family p) crowded → AreNamed all.crowded.items crowded → ArePast family p d all.found.items crowded
past_are family p d all crowded is undecided named = record {
  past = is.told.found;
  are_crowded = undecided;
  complete = λ t n on. elim (is.complete t n on) [
    | inl none ↦ inl none
    | inr other ↦ elim other [
      | inl told ↦ inr (inl told)
      | inr more ↦ inr (inr (named t n more))
    ]
  ];
  others = λ none free. is.others none (none_named all.crowded.items crowded named free);
}
