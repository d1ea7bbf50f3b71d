-- The first machine of which it is not told whether a call is its. Also, what is said of an answer that is there or not.
use Rattle.std.proofs.Common.{◌≡◌, ℕ, ◌<◌, List, length, get_or, sym, ap, ◌∙◌, subst, refl}
use Rattle.std.specs.Prelude.{Option, Some, None, IfSome, MatchOption, slice_index_or}
use Rattle.std.proofs.lemmas.Option.{get_or_from_slice_get, slice_get-get_or}
use Rattle.machines.specs.declared.arch.Arch.{Arch}
use Rattle.machines.specs.Arch.{token_of}
use Rattle.cert_state.specs.declared.literal.Lit.{Lit}
use Rattle.cert_state.specs.declared.literal.Lit.TheVariants.{Bits, NotBits}
use Rattle.cert_state.specs.Literals.{all_bits}
use Rattle.certify.specs.inner.Apart.{IsFirstOpen, IsTold}

pub match_option : {A : Type 0} (o : Option A) (N M : Type 0) (P Q : A → Type 0) → MatchOption o N P → (N → M) → ((a : A) → P a → Q a)
    → MatchOption o M Q
match_option None N M P Q is none some = none is
match_option (Some a) N M P Q is none some = some a is

pub match_some : {A : Type 0} (o : Option A) (N : Type 0) (P Q : A → Type 0) → (o ≡ None → ⊥) → IfSome o P → ((a : A) → P a → Q a)
    → MatchOption o N Q
match_some None N P Q never is some = absurd (never refl)
match_some (Some a) N P Q never is some = some a is

pub first_open : (known : List Lit) (machines : List Arch) (k : ℕ) (d : Arch) (token : ℕ) → k < length machines
    → token ≡ token_of (slice_index_or machines k d)
    → ((j : ℕ) (e : Arch) → j < k → IsTold known (token_of (slice_index_or machines j e))) → (IsTold known token → ⊥)
    → (one other : Lit) → one ≡ Bits 1 all_bits token → other ≡ NotBits 1 all_bits token → IsFirstOpen known machines one other
first_open known machines k d token low is before never one other one_is other_is = record {
  at = k;
  arch = get_or machines k d;
  there = slice_get-get_or machines k d low;
  before = λ j a less there. subst (λ b. IsTold known (token_of b)) (get_or_from_slice_get machines j a a there) (before j a less);
  not_told = λ told. never (subst (IsTold known) (sym is) told);
  one_is = one_is ∙ ap (Bits 1 all_bits) is;
  other_is = other_is ∙ ap (NotBits 1 all_bits) is;
}
