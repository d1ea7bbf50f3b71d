-- The test whether a call is a machine's.
use Rattle.std.proofs.Common.{◌≡◌, ℕ, zero, suc, ◌<◌, ◌≤◌, Bool, true, false, List, [], ◌∷◌, length, refl, sym, arith}
use Rattle.std.specs.Prelude.{◌↔◌, IsTrue, nat_le}
use Rattle.std.specs.Bool.{Decides}
use Rattle.std.specs.List.{Any, HoldsAt, list_any}
use Rattle.std.proofs.lemmas.Bool.Decides.{Decides-by_or, Decides-like, Decides-and, Decides-eqb, nat_tests}
use Rattle.std.proofs.lemmas.List.Elements.{at_read}
use Rattle.machines.specs.declared.arch.Arch.{Arch}
use Rattle.machines.specs.Arch.{token_of}
use Rattle.machines.specs.Numbers.{HasCall, IsWithin, has_call, is_within, own_numbers}

-- what holds at a place holds of some element
any_at : {X : Type 0} (P : X → Type 0) (xs : List X) (k : ℕ) → k < length xs → HoldsAt P xs k → Any P xs
any_at P [] k lt h = absurd (omega arith)
any_at P (x ∷ xs) zero lt h = (0, x, omega arith, refl, h x)
any_at P (x ∷ xs) (suc k) lt h =
    let rest : Any P xs = any_at P xs k (omega arith) h in
    (suc rest.0, rest.1, omega (arith, rest.2), rest.3, rest.4)

at_any : {X : Type 0} (P : X → Type 0) (xs : List X) → Any P xs → (k : ℕ) × (k < length xs) × HoldsAt P xs k
at_any P xs (k, x, lt, at, h) = (k, lt, at_read xs P k x lt (sym at) h)

Decides-any : {X : Type 0} (t : X → Bool) (T : X → Type 0) → ((x : X) → Decides (t x) (T x)) → (xs : List X)
    → Decides (list_any t xs) (Any T xs)
Decides-any t T each xs =
    Decides-like (list_any t xs) (λ (k, lt, h). any_at T xs k lt h) (at_any T xs)
    (Decides-by_or t T (list_any t) each refl (λ _ _. refl) xs)

Decides-leb : (a b : ℕ) → Decides (nat_le a b) (a ≤ b)
Decides-leb a b = (λ h. grind (arith, nat_tests), λ h. grind (arith, nat_tests))

pub Decides-has_call : (token nr : ℕ) (arch : Arch) → Decides (has_call token nr arch) (HasCall token nr arch)
Decides-has_call token nr arch =
    Decides-and _ _ (Decides-eqb (token_of arch) token)
    (Decides-any (is_within nr) (IsWithin nr)
    (λ numbers. Decides-and _ _ (Decides-leb numbers.first nr) (Decides-leb nr numbers.last)) (own_numbers arch))

-- two answers that tell whether one fact holds are the same
pub same_answer : (a b : Bool) (P : Type 0) → (IsTrue a ↔ P) → Decides b P → a ≡ b
same_answer true b P told decided = sym (decided.1 (told.0 refl))
same_answer false true P told decided = told.1 (decided.0 refl)
same_answer false false P told decided = refl
