-- What the source has given is the text, and no read has failed.
use Rattle.std.proofs.Common.{◌≡◌}
use Rattle.std.specs.Io.KnownBytes.{Consumes}
use Rattle.cli.proofs.auditing.read_all.Given as goal

abbrev pub invariant-part : goal.invariant-part
invariant-part g l =
    Consumes (g.I.Source.left l.fn.input) (g.I.Source.left l.input) l.text.items
    × ((g.I.Source.failures l.input).count ≡ (g.I.Source.failures l.fn.input).count)

abbrev pub decreases-part : goal.decreases-part
decreases-part g l = g.I.Source.calls l.input
