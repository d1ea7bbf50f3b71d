use Rattle.std.proofs.Common.{◌≡◌, ◌≤◌, ◌+◌, ◌*◌, ◌-◌, length}
use Rattle.cert_form.specs.Reading.{ones}
use Rattle.cert_form.specs.inner.Standing.{AreStatedThere}
use Rattle.cert_form.proofs.chained.judge_values.Given as goal

abbrev pub invariant-loop : goal.invariant-loop
invariant-loop l = record {
  whole : AreStatedThere l.bytes l.at l.left (16 - l.counter) → AreStatedThere l.bytes l.from l.bits 16;
  place : l.at + 6 * ones l.left (16 - l.counter) ≡ l.from + 6 * ones l.bits 16;
  after : l.from ≤ l.at;
  room : l.at ≤ length l.bytes;
}
