-- What is not done tells nothing of what is written.
use Rattle.std.proofs.Common.{◌≡◌, ℕ, List, true, false, sym, ◌∙◌}
use Rattle.std.specs.Prelude.{Result, Ok, Err, IfOk}
use Rattle.machines.specs.declared.arch.Arch.{Arch}
use Rattle.wording.specs.Told.{was_done}
use Rattle.wording.specs.declared.told.Told.{Told}
use Rattle.widths.specs.declared.told.Narrowing.{Narrowing}
use Rattle.widths.specs.Narrow.{IsWritten, IsTold, IsNarrow}

false_true : false ≡ true → ⊥
false_true e = cc

pub not_done : (native : Arch) (bundle : List ℕ) (told : Told) → was_done told.end ≡ false → IsTold native bundle told
not_done native bundle told no-done done = absurd (false_true (sym no-done ∙ done))

pub none_done : {E : Type 0} (native : Arch) (bundle : List ℕ) (r : Result Told E) → IfOk r (λ told. was_done told.end ≡ false) → IfOk r (IsTold native bundle)
none_done native bundle (Ok told) h = not_done native bundle told h
none_done native bundle (Err e) h = h

pub none_narrowed : {E : Type 0} (native : Arch) (bundle : List ℕ) (r : Result Narrowing E) → IfOk r (λ n. was_done n.told.end ≡ false)
    → IfOk r (IsNarrow native bundle)
none_narrowed native bundle (Ok n) h = not_done native bundle n.told h
none_narrowed native bundle (Err e) h = h
