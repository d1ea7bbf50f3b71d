use Rattle.rule_compile.specs.inner.Runs.{AreIn}
use Rattle.rule_compile.proofs.shared.write_all.Given as goal

abbrev pub invariant-loop-numbers : goal.invariant-loop-numbers
invariant-loop-numbers l =
    AreIn l.code l.written.items × ((goal.iterator-loop-numbers).can_next l.numbers-iterator
    × (goal.iterator-loop-numbers).is_finite l.numbers-iterator)
