-- Two answers that tell whether one fact holds.
use Rattle.std.proofs.Common.{◌≡◌, Bool, true, false, refl, sym}
use Rattle.std.specs.Prelude.{◌↔◌, IsTrue}
use Rattle.std.specs.Bool.{Decides}

-- they are the same
pub same_answer : (a b : Bool) (P : Type 0) → (IsTrue a ↔ P) → Decides b P → a ≡ b
same_answer true b P told decided = sym (decided.1 (told.0 refl))
same_answer false true P told decided = told.1 (decided.0 refl)
same_answer false false P told decided = refl
