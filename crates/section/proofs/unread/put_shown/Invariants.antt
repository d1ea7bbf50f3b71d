-- What is told, and what is to be told of the bytes that are left, is all.
use Rattle.std.proofs.Common.{◌≡◌, ◌++◌, drop}
use Rattle.section.specs.Unread.{shown}
use Rattle.section.proofs.unread.put_shown.Given as goal

abbrev pub invariant-loop-byte : goal.invariant-loop-byte
invariant-loop-byte l = l.lines.items ++ shown (drop l.byte-index l.key) ≡ l.fn.lines.items ++ shown l.key
