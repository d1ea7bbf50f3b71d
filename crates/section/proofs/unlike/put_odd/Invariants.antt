-- What is told, and what is to be told of the members that are left, is all.
use Rattle.std.proofs.Common.{◌≡◌, ◌++◌, drop, map}
use Rattle.section.specs.Unlike.{odd_lines}
use Rattle.section.proofs.unlike.put_odd.Given as goal

abbrev pub invariant-loop-member : goal.invariant-loop-member
invariant-loop-member l =
    l.lines.items ++ odd_lines l.place (map (λ m. m.0.now) (drop l.member-index l.members))
    ≡ l.fn.lines.items ++ odd_lines l.place (map (λ m. m.0.now) l.members)
