-- The bytes so far are shown.
use Rattle.std.proofs.Common.{◌≡◌, ◌++◌, take}
use Rattle.page.specs.Shown.{shown}
use Rattle.page.proofs.putting.put_text.Given as goal

abbrev pub invariant-loop-byte : goal.invariant-loop-byte
invariant-loop-byte l = l.page.items ≡ l.fn.page.items ++ shown (take l.byte-index l.text)
