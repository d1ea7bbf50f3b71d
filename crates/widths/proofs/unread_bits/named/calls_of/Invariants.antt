use Rattle.std.proofs.Common.{◌≡◌, ℕ, true, take}
use Rattle.std.specs.List.{list_any}
use Rattle.differ.specs.OnCall.{is_for}
use Rattle.differ.specs.Named.{is_named}
use Rattle.widths.proofs.unread_bits.named.calls_of.Given as goal

abbrev pub invariant-loop-rule : goal.invariant-loop-rule
invariant-loop-rule l = (t n : ℕ) → list_any (is_for t n) (take l.rule-index l.rules) ≡ true → is_named l.list.items t n ≡ true
