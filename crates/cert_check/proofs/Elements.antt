-- Elements of a list.
use Rattle.std.proofs.Common.{◌≡◌, ℕ, zero, suc, ◌<◌, Bool, List, [], ◌∷◌, length, Option, Some, None, refl, sym, subst, arith}
use Rattle.std.specs.Prelude.{slice_get, All, Contains, IsTrue, ◌↔◌}
use Rattle.std.specs.Option.{IsSomeAnd}
use Rattle.std.proofs.lemmas.List.Elements.{All-contains_itself, All-weaker, All-nil, All-cons, All-head, All-tail}
use Rattle.std.proofs.lemmas.Option.{slice_get_within, get_or_from_slice_get}

-- what holds of each element
pub each_of : {X : Type 0} (P : X → Type 0) (xs : List X) → ((x : X) → Contains xs x → P x) → All P xs
each_of P xs h = All-weaker (Contains xs) P (λ x has. h x has) xs (All-contains_itself xs)

-- what stands at a place is an element
pub contains_at : {X : Type 0} (xs : List X) (k : ℕ) (x : X) → slice_get xs k ≡ Some x → Contains xs x
contains_at xs k x at = (k, slice_get_within xs k x at, get_or_from_slice_get xs k x x at)

-- at each place below the length something stands
pub element_at : {X : Type 0} (xs : List X) (place : ℕ) → place < length xs → (x : X) × (slice_get xs place ≡ Some x)
element_at [] place h = absurd (omega (arith, h))
element_at (x ∷ xs) zero h = (x, refl)
element_at (x ∷ xs) (suc place) h = element_at xs place (omega arith)

-- one element, and two
pub all_one : {X : Type 0} (P : X → Type 0) (x : X) (b : Bool) → (IsTrue b ↔ P x) → (IsTrue b ↔ All P (x ∷ []))
all_one P x b h = (λ t. All-cons P x [] (h.0 t) (All-nil P), λ all. h.1 (All-head P x [] all))

pub all_two : {X : Type 0} (P : X → Type 0) (x y : X) (b : Bool) → P x → (IsTrue b ↔ P y) → (IsTrue b ↔ All P (x ∷ y ∷ []))
all_two P x y b first h =
    (λ t. All-cons P x (y ∷ []) first (All-cons P y [] (h.0 t) (All-nil P)), λ all. h.1 (All-head P y [] (All-tail P x (y ∷ []) all)))

pub all_none : {X : Type 0} (P : X → Type 0) (x : X) (xs : List X) (b : Bool) → (IsTrue b → ⊥) → (P x → ⊥) → (IsTrue b ↔ All P (x ∷ xs))
all_none P x xs b untrue never = (λ t. absurd (untrue t), λ all. absurd (never (All-head P x xs all)))

-- where it holds of the first element, it holds of all where it holds of the rest
pub all_but_first : {X : Type 0} (P : X → Type 0) (x : X) (all rest : List X) → all ≡ x ∷ rest → P x → All P all ↔ All P rest
all_but_first P x all rest is first =
    (λ h. All-tail P x rest (subst (All P) is h), λ h. subst (All P) (sym is) (All-cons P x rest first h))

-- what holds of what is there, if something is
pub of_some : {X : Type 0} (P : X → Type 0) (o : Option X) → IsSomeAnd o P → (x : X) × (o ≡ Some x) × P x
of_some P None h = absurd h
of_some P (Some x) h = (x, refl, h)

pub some_of : {X : Type 0} (P : X → Type 0) (o : Option X) (x : X) → o ≡ Some x → P x → IsSomeAnd o P
some_of {X = X} P o x is h = subst (λ (it : Option X). IsSomeAnd it P) (sym is) h
