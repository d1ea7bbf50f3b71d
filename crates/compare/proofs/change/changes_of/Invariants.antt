-- Each change so far is one, where all are differences, and what was looked at is told.
use Rattle.std.proofs.Common.{◌≡◌, ℕ, true, take}
use Rattle.std.specs.List.{All, list_any}
use Rattle.machines.specs.declared.arch.Family.{Family}
use Rattle.profile.specs.Policy.{Policy}
use Rattle.differ.specs.declared.direction.Direction.{Direction}
use Rattle.compare.specs.Complete.{is_on, told_of}
use Rattle.compare.specs.Difference.{IsChange, IsDifference}
use Rattle.compare.proofs.change.changes_of.Given as goal

abbrev pub invariant-loop-found : goal.invariant-loop-found
invariant-loop-found l = record {
  told : (t n : ℕ) (d : Direction) → list_any (is_on t n d) (take l.found-index l.list) ≡ true → list_any (is_on t n d) (told_of l.changes.items) ≡ true;
  are : (family : Family) (p q : Policy) → All (IsDifference family p q) l.list → All (IsChange family p q) l.changes.items;
}
