-- A list of literals is its first one and the rest.
use Rattle.std.proofs.Common.{◌≡◌, zero, suc, List, [], ◌∷◌, ◌++◌, sym, subst, arith, inl, inr, ◌⊎◌}
use Rattle.std.specs.Prelude.{All, Contains}
use Rattle.std.proofs.lemmas.List.Elements.{All-cons, All-head, All-nil, All-tail}
use Rattle.cert_state.specs.declared.literal.Lit.{Lit}

pub first_or_later : (l x : Lit) (rest : List Lit) → Contains (l ∷ rest) x → (l ≡ x) ⊎ Contains rest x
first_or_later l x rest (zero, lt, is) = inl is
first_or_later l x rest (suc i, lt, is) = inr (i, omega arith, is)

module _ (l : Lit) (before rest : List Lit) (e : before ≡ l ∷ rest) where
  pub contains_split : (x : Lit) → Contains before x → (l ≡ x) ⊎ Contains rest x
  contains_split x has = first_or_later l x rest (subst (λ ls. Contains ls x) e has)

  pub contains_here : (x : Lit) → l ≡ x → Contains before x
  contains_here x is = subst (λ ls. Contains ls x) (sym e) (0, omega arith, is)

  pub contains_later : (x : Lit) → Contains rest x → Contains before x
  contains_later x has = subst (λ ls. Contains ls x) (sym e) (suc has.0, omega (arith, has.1), has.2)

-- what holds of each literal of two lists in a row holds of each of the second
pub all_after : (P : Lit → Type 0) (xs ys : List Lit) → All P (xs ++ ys) → All P ys
all_after P [] ys h = h
all_after P (x ∷ xs) ys h = all_after P xs ys (All-tail P x (xs ++ ys) h)

-- and of each of the first
pub all_before : (P : Lit → Type 0) (xs ys : List Lit) → All P (xs ++ ys) → All P xs
all_before P [] ys h = All-nil P
all_before P (x ∷ xs) ys h = All-cons P x xs (All-head P x (xs ++ ys) h) (all_before P xs ys (All-tail P x (xs ++ ys) h))

-- what one more literal adds to a list is that literal
pub contains_more : (l x : Lit) (ls : List Lit) → Contains (ls ++ l ∷ []) x → Contains ls x ⊎ (l ≡ x)
contains_more l x [] has = elim (first_or_later l x [] has) [ inl is ↦ inr is | inr later ↦ absurd (omega (arith, later.1)) ]
contains_more l x (k ∷ ls) has = elim (first_or_later k x (ls ++ l ∷ []) has) [
  | inl is ↦ inl (0, omega arith, is)
  | inr later ↦
      elim (contains_more l x ls later) [ inl among ↦ inl (suc among.0, omega (arith, among.1), among.2) | inr is ↦ inr is ]
]
