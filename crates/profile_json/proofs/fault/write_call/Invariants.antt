use Rattle.std.proofs.Common.{◌≡◌, ℕ, List, ◌++◌, length}
use Rattle.std.specs.Prelude.{codes}
use Rattle.std.specs.Fmt.{HasWritten, IsPlainFormatter}
use Rattle.std.specs.Str.{IsUtf8}
use Rattle.std.specs.Str.Iter.{chars_rest}
use Rattle.profile_json.specs.CallName.{printed}
use Rattle.profile_json.proofs.fault.write_call.Given as goal

abbrev pub invariant-loop-c : goal.invariant-loop-c
invariant-loop-c g l = IsPlainFormatter l.fn.f → (done : List ℕ) × HasWritten g.W.Write.write_str_gives l.fn.f done l.f
    × (done ++ printed (chars_rest l.left) ≡ codes " " ++ printed l.fn.name) × IsUtf8 (chars_rest l.left)

abbrev pub decreases-loop-c : goal.decreases-loop-c
decreases-loop-c g l = length (chars_rest l.left)
