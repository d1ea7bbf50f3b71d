use Rattle.std.proofs.Common.{◌≤◌, ◌-◌, length, take}
use Rattle.std.specs.Io.KnownBytes.{Appends}
use Rattle.texts.specs.Failures.{NoneFailed}
use Rattle.texts.proofs.streams.sink.write_all.Given as goal

abbrev pub invariant-write : goal.invariant-write
invariant-write g l = record {
  within : l.out ≤ length l.bytes;
  written : Appends (g.S.Sink.held l.fn.sink) (g.S.Sink.held l.sink) (take l.out l.bytes);
  failures : NoneFailed (g.S.Sink.failures l.fn.sink) (g.S.Sink.failures l.sink);
}

abbrev pub decreases-write : goal.decreases-write
decreases-write g l = length l.bytes - l.out
