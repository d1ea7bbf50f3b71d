-- What is told, and what is to be told of the members that are left, is all.
use Rattle.std.proofs.Common.{◌≡◌, ◌++◌, drop, map}
use Rattle.section.specs.Unread.{unread_lines}
use Rattle.section.proofs.unread.put_unread.Given as goal

abbrev pub invariant-loop-member : goal.invariant-loop-member
invariant-loop-member l =
    let known = map (λ k. k.now) l.known in
    l.lines.items ++ unread_lines known l.place (map (λ m. m.0.now) (drop l.member-index l.members))
    ≡ l.fn.lines.items ++ unread_lines known l.place (map (λ m. m.0.now) l.members)
