-- Writes in turn.
use Rattle.std.proofs.Common.{◌≡◌, ℕ, zero, suc, List, [], ◌++◌, refl, ap, sym, ◌∙◌, arith, append_assoc}
use Rattle.std.proofs.lemmas.List.{append-nil}
use Rattle.std.specs.Prelude.{Option, Some, None, ◌==◌, if◌then◌else◌}
use Rattle.std.specs.Io.KnownBytes.{Appends, Keeps}
use Rattle.std.proofs.lemmas.Bool.Decides.{nat_tests}
use Rattle.texts.specs.Failures.{Failures, HasFailed, NoneFailed, one_more}

pub Appends-then : (a b c : Option (List ℕ)) (xs ys zs : List ℕ) → zs ≡ xs ++ ys → Appends a b xs → Appends b c ys → Appends a c zs
Appends-then None b c xs ys zs e h g = tt
Appends-then (Some ps) None c xs ys zs e h g = absurd h
Appends-then (Some ps) (Some bs) None xs ys zs e h g = absurd g
Appends-then (Some ps) (Some bs) (Some cs) xs ys zs e h g = g ∙ (ap (λ t. t ++ ys) h ∙ (append_assoc ps xs ys ∙ ap (λ t. ps ++ t) (sym e)))

pub Appends-kept : (a b c : Option (List ℕ)) (xs : List ℕ) → Appends a b xs → Keeps b c → Appends a c xs
Appends-kept None b c xs h g = tt
Appends-kept (Some ps) None c xs h g = absurd h
Appends-kept (Some ps) (Some bs) None xs h g = absurd g
Appends-kept (Some ps) (Some bs) (Some cs) xs h g = g ∙ h

pub Appends-none : (a : Option (List ℕ)) → Appends a a []
Appends-none None = tt
Appends-none (Some ps) = sym (append-nil ps)

-- the first failure
pub has_failed : (old mid new : Failures) → NoneFailed old mid → HasFailed mid new → HasFailed old new
has_failed old mid new e h = (h.0 ∙ ap one_more e, h.1)

pub no_failure : (n x y : ℕ) → (n ≡ 0 → ⊥) → (if n == 0 then x else y) ≡ y
no_failure zero x y h = absurd (h refl)
no_failure (suc n) x y h = grind (arith, nat_tests)
