-- Standard input, read to its end.
use Rattle.texts.specs.Failures.{Failures, HasFailed}
use Rattle.cli.specs.declared.stops.Stop.{Stop}
use Rattle.cli.specs.declared.stops.Stop.TheVariants.{OutOfMemory, Read}

-- why it is not read to its end: just one read failed, the last; or memory is wanting
abbrev pub StopsInput : Failures → Failures → Stop → Type 0
StopsInput old new (Read line) = HasFailed old new
StopsInput old new OutOfMemory = Unit {0}
StopsInput old new other = ⊥
