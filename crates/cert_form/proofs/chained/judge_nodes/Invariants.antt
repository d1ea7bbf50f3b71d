use Rattle.std.proofs.Common.{◌≡◌, ◌≤◌, length}
use Rattle.cert_form.specs.Reading.{place_of}
use Rattle.cert_form.specs.inner.Standing.{AreChainedThere}
use Rattle.cert_form.proofs.chained.judge_nodes.Given as goal

abbrev pub invariant-loop-i : goal.invariant-loop-i
invariant-loop-i l = record {
  sound : AreChainedThere l.bytes l.i;
  place : l.at ≡ place_of l.bytes l.i;
  room : l.at ≤ length l.bytes;
}
