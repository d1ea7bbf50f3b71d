use Rattle.std.proofs.Common.{◌≡◌, ◌≤◌, length}
use Rattle.cert_form.specs.Reading.{place_of}
use Rattle.cert_form.specs.inner.Standing.{AreListedThere}
use Rattle.cert_form.proofs.listed.judge_all.Given as goal

abbrev pub invariant-loop : goal.invariant-loop
invariant-loop l = record {
  sound : AreListedThere l.bytes l.own.items l.counter;
  place : l.at ≡ place_of l.bytes l.counter;
  room : l.at ≤ length l.bytes;
}
