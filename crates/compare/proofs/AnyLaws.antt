-- Some element of a list of one, or of a list of which each one became another.
use Rattle.std.proofs.Common.{List, [], ◌∷◌, inl, inr}
use Rattle.std.specs.Prelude.{map}
use Rattle.std.specs.List.{Any}
use Rattle.rule_compile.proofs.RulesLaws.{any_cases, any_here, any_later, any_nil}

-- a list of one
module _ {A : Type 0} (P : A → Type 0) where
  pub any_one : (x : A) → Any P (x ∷ []) → P x
  any_one x h = elim (any_cases P x [] h) [ inl here ↦ here | inr later ↦ absurd (any_nil P later) ]

  pub one_any : (x : A) → P x → Any P (x ∷ [])
  one_any x p = any_here P x [] p

-- some element of a list in which each one became another
module _ {A B : Type 0} (P : A → Type 0) (Q : B → Type 0) (f : A → B) where
  pub any_mapped : ((x : A) → P x → Q (f x)) → (xs : List A) → Any P xs → Any Q (map f xs)
  any_mapped g [] h = absurd (any_nil P h)
  any_mapped g (x ∷ xs) h =
      elim (any_cases P x xs h) [
        | inl here ↦ any_here Q (f x) (map f xs) (g x here)
        | inr later ↦ any_later Q (f x) (map f xs) (any_mapped g xs later)
      ]

  pub mapped_any : ((x : A) → Q (f x) → P x) → (xs : List A) → Any Q (map f xs) → Any P xs
  mapped_any g [] h = absurd (any_nil Q h)
  mapped_any g (x ∷ xs) h =
      elim (any_cases Q (f x) (map f xs) h) [
        | inl here ↦ any_here P x xs (g x here)
        | inr later ↦ any_later P x xs (mapped_any g xs later)
      ]
