-- What has come was answered, and nothing failed.
use Rattle.std.proofs.Common.{◌≡◌}
use Rattle.texts.specs.Failures.{NoneFailed}
use Rattle.session.specs.inner.Lines.{HasCome}
use Rattle.session.specs.inner.Progress.{standing_of}
use Rattle.session.proofs.run.take_all.Given as goal

abbrev pub invariant-byte : goal.invariant-byte
invariant-byte g l = record {
  come : HasCome l.fn.progress.session.bundles (standing_of l.progress) (g.I.Source.left l.fn.source) (g.I.Source.left l.source) (g.O.Sink.held l.fn.sink) (g.O.Sink.held l.sink);
  bundles : l.progress.session.bundles ≡ l.fn.progress.session.bundles;
  given : NoneFailed (g.I.Source.failures l.fn.source) (g.I.Source.failures l.source);
  taken : NoneFailed (g.O.Sink.failures l.fn.sink) (g.O.Sink.failures l.sink);
}

abbrev pub decreases-byte : goal.decreases-byte
decreases-byte g l = g.I.Source.calls l.source
