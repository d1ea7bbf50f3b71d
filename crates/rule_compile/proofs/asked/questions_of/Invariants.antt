use Rattle.std.specs.Prelude.{◌≢◌, ◌↔◌, ℕ, List, take}
use Rattle.call_record.specs.Words.{IsRecord}
use Rattle.rule_compile.specs.Rules.{SomeMet}
use Rattle.rule_compile.specs.inner.Left.{AreRules, SomeHeld}
use Rattle.rule_compile.proofs.asked.questions_of.Given as goal

abbrev pub invariant-loop-placed : goal.invariant-loop-placed
invariant-loop-placed l = record {
  left : AreRules l.questions.asked.items;
  says : (r : List ℕ) → IsRecord r → (w : ℕ)
      → SomeMet l.questions.asked.items r w ↔ (SomeHeld (take l.placed-index l.rules) r w × (w ≢ l.default));
}
