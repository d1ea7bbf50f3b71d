use Rattle.std.proofs.Common.{◌≡◌, ℕ, true, take}
use Rattle.std.specs.List.{list_any}
use Rattle.differ.specs.OnCall.{is_for}
use Rattle.differ.specs.Named.{is_named}
use Rattle.differ.proofs.named.add_rules.Given as goal

abbrev pub invariant-loop-rule : goal.invariant-loop-rule
invariant-loop-rule l = record {
  added : (t n : ℕ) → list_any (is_for t n) (take l.rule-index l.rules) ≡ true → is_named l.list.items t n ≡ true;
  stay : (t n : ℕ) → is_named l.initial.list.items t n ≡ true → is_named l.list.items t n ≡ true;
}
