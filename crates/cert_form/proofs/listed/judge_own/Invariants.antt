use Rattle.std.proofs.Common.{◌<◌, ◌≤◌, ◌+◌, ◌*◌, ℕ, length}
use Rattle.cert_form.specs.inner.Standing.{IsLiteralThere}
use Rattle.cert_form.proofs.listed.judge_own.Given as goal

abbrev pub invariant-loop-k : goal.invariant-loop-k
invariant-loop-k l = record {
  sound : (j : ℕ) → j < l.k → IsLiteralThere l.bytes (l.at + 17 + 10 * j);
  room : l.at + 17 + 10 * l.k ≤ length l.bytes;
}
