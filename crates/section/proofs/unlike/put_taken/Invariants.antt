-- What is told, and what is to be told of the keys that are left, is all.
use Rattle.std.proofs.Common.{◌≡◌, ◌++◌, drop, map}
use Rattle.section.specs.Unlike.{taken_lines}
use Rattle.section.proofs.unlike.put_taken.Given as goal

abbrev pub invariant-loop-key : goal.invariant-loop-key
invariant-loop-key l =
    let keys = map (λ m. m.0.now) l.members in
    l.lines.items ++ taken_lines (map (λ k. k.now) (drop l.key-index l.known)) l.place keys
    ≡ l.fn.lines.items ++ taken_lines (map (λ k. k.now) l.known) l.place keys
