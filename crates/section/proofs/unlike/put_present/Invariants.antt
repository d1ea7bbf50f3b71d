-- What is told, and what is to be told of the keys that are left, is all.
use Rattle.std.proofs.Common.{◌≡◌, ◌++◌, drop, map}
use Rattle.section.specs.Unlike.{present_lines}
use Rattle.section.proofs.unlike.put_present.Given as goal

abbrev pub invariant-loop-key : goal.invariant-loop-key
invariant-loop-key l =
    let keys = map (λ m. m.0.now) l.members in
    l.lines.items ++ present_lines l.what (map (λ k. k.now) (drop l.key-index l.keys)) l.place keys
    ≡ l.fn.lines.items ++ present_lines l.what (map (λ k. k.now) l.keys) l.place keys
