-- Some element of a list has it.
use Rattle.std.proofs.Common.{◌≡◌, ℕ, zero, suc, ◌<◌, ◌⊎◌, inl, inr, List, [], ◌∷◌, ◌++◌, length, get_or, map, refl, sym, ap, subst, arith}
use Rattle.std.specs.Prelude.{◌↔◌}
use Rattle.std.specs.List.{All, Contains}
use Rattle.std.proofs.lemmas.List.Elements.{Contains-append_left, Contains-append_right, Contains-append_cases, All-contains}
use Rattle.widths.specs.Narrowed.{Has}

pub Has-left : {A : Type 0} (P : A → Type 0) (xs ys : List A) → Has P xs → Has P (xs ++ ys)
Has-left P xs ys (x, has, p) = (x, Contains-append_left xs ys x has, p)

pub Has-right : {A : Type 0} (P : A → Type 0) (xs ys : List A) → Has P ys → Has P (xs ++ ys)
Has-right P xs ys (x, has, p) = (x, Contains-append_right xs ys x has, p)

pub Has-cases : {A : Type 0} (P : A → Type 0) (xs ys : List A) → Has P (xs ++ ys) → Has P xs ⊎ Has P ys
Has-cases P xs ys (x, has, p) =
    elim (Contains-append_cases xs ys x has) [ inl left ↦ inl (x, left, p) | inr right ↦ inr (x, right, p) ]

pub Has-nil : {A : Type 0} (P : A → Type 0) → Has P [] → ⊥
Has-nil P (x, (k, lt, at), p) = omega (arith, lt)

pub Has-one : {A : Type 0} (P : A → Type 0) (x : A) → P x → Has P (x ∷ [])
Has-one P x p = (x, (0, omega arith, refl), p)

one_at : {A : Type 0} (P : A → Type 0) (x y : A) (k : ℕ) → k < length (x ∷ []) → get_or (x ∷ []) k y ≡ y → P y → P x
one_at P x y zero lt at p = subst P (sym at) p
one_at P x y (suc k) lt at p = absurd (omega (arith, lt))

pub one-Has : {A : Type 0} (P : A → Type 0) (x : A) → Has P (x ∷ []) → P x
one-Has P x (y, (k, lt, at), p) = one_at P x y k lt at p

pub Has-head : {A : Type 0} (P : A → Type 0) (x : A) (xs : List A) → P x → Has P (x ∷ xs)
Has-head P x xs p = (x, (0, omega arith, refl), p)

pub Has-tail : {A : Type 0} (P : A → Type 0) (x : A) (xs : List A) → Has P xs → Has P (x ∷ xs)
Has-tail P x xs h = Has-right P (x ∷ []) xs h

pub Has-first : {A : Type 0} (P : A → Type 0) (x : A) (xs : List A) → Has P (x ∷ xs) → P x ⊎ Has P xs
Has-first P x xs h =
    elim (Has-cases P (x ∷ []) xs h) [ inl here ↦ inl (one-Has P x here) | inr later ↦ inr later ]

pub Has-like : {A : Type 0} (P Q : A → Type 0) (xs : List A) → ((x : A) → Contains xs x → P x → Q x) → Has P xs → Has Q xs
Has-like P Q xs f (x, has, p) = (x, has, f x has p)

-- of what a function makes of the elements
pub Has-map : {A B : Type 0} (P : B → Type 0) (f : A → B) (xs : List A) → Has (λ x. P (f x)) xs → Has P (map f xs)
Has-map P f [] h = absurd (Has-nil (λ x. P (f x)) h)
Has-map P f (x ∷ xs) h =
    elim (Has-first (λ y. P (f y)) x xs h) [
      | inl here ↦ Has-head P (f x) (map f xs) here
      | inr later ↦ Has-tail P (f x) (map f xs) (Has-map P f xs later)
    ]

pub map-Has : {A B : Type 0} (P : B → Type 0) (f : A → B) (xs : List A) → Has P (map f xs) → Has (λ x. P (f x)) xs
map-Has P f [] h = absurd (Has-nil P h)
map-Has P f (x ∷ xs) h =
    elim (Has-first P (f x) (map f xs) h) [
      | inl here ↦ Has-head (λ y. P (f y)) x xs here
      | inr later ↦ Has-tail (λ y. P (f y)) x xs (map-Has P f xs later)
    ]
