-- Texts that are written part by part.
use Rattle.std.proofs.Common.{◌≡◌, ◌≤◌, ℕ, List, [], ◌∷◌, ◌++◌, ap, append_assoc, arith, codes, inr, length, refl, ◌∙◌}
use Rattle.std.specs.Prelude.{Bool, false, IfOk, Result, Ok, Err}
use Rattle.std.specs.declared.alloc.AllocError.{AllocError}
use Rattle.machines.specs.declared.arch.Arch.{Arch}
use Rattle.compare.specs.Told.{IsCompared}
use Rattle.wording.specs.Told.{was_refused}
use Rattle.wording.specs.declared.told.Told.{Told}
use Rattle.cli.specs.Compared.{TellsCompared, TellsSides, side_rest}

-- two parts behind what was there
pub appended : (old first second between new value : List ℕ) → between ≡ old ++ first → new ≡ between ++ value → value ≡ second
    → new ≡ old ++ (first ++ second)
appended old first second between new value e f same =
    f ∙ ap (λ t. t ++ value) e ∙ append_assoc old first value ∙ ap (λ t. old ++ (first ++ t)) same

-- what stands behind a bundle that has something
pub some_rest : (lines : List ℕ) → 1 ≤ length lines → codes " bundle has\n" ++ lines ≡ side_rest lines
some_rest [] some = absurd (omega (arith, some))
some_rest (byte ∷ bytes) some = refl

-- two bundles are compared, and what stands beside their profiles is told
pub told_beside : (atmost : Bool) (native : Arch) (first second : List ℕ) (inner : Told) (result : Result Told AllocError)
    → IsCompared atmost native first second inner → was_refused inner.end ≡ false
    → IfOk result (TellsSides atmost native first second inner) → IfOk result (TellsCompared atmost native first second)
told_beside atmost native first second inner (Ok told) is none sides = record { inner = inner; is = is; text = inr (none, sides) }
told_beside atmost native first second inner (Err e) is none sides = tt
