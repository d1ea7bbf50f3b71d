use Rattle.std.proofs.Common.{◌<◌, ◌≤◌, ◌+◌, ◌*◌, ℕ, length}
use Rattle.cert_form.specs.inner.Standing.{IsEntryThere}
use Rattle.cert_form.proofs.chained.judge_entries.Given as goal

abbrev pub invariant-loop-j : goal.invariant-loop-j
invariant-loop-j l = record {
  sound : (k : ℕ) → k < l.j → IsEntryThere l.bytes k;
  room : 16 + 14 * l.j ≤ length l.bytes;
}
