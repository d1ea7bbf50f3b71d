-- The places that are left have the id that is left.
use Rattle.std.proofs.Common.{◌≡◌}
use Rattle.std.specs.Prelude.{drop}
use Rattle.lifecycle.specs.Listed.{known_in}
use Rattle.lifecycle.proofs.Places.{name_in}
use Rattle.lifecycle.proofs.register.Register.name_at.Given as goal

abbrev pub invariant-loop-place : goal.invariant-loop-place
invariant-loop-place l =
    name_in (known_in l.self) (drop l.place-index l.place-items) l.left ≡ name_in (known_in l.self) l.place-items l.i
