-- Which misuse a fault of clap is.
use Rattle.clap.specs.declared.error.ErrorKind.{ErrorKind}
use Rattle.clap.specs.declared.error.ErrorKind.TheVariants as kind
use Rattle.command_line.specs.declared.reading.Misuse.{Misuse}
use Rattle.command_line.specs.declared.reading.Misuse.TheVariants.{Usage, OutOfMemory}

abbrev pub misuse_by : ErrorKind → Misuse
misuse_by kind.OutOfMemory = OutOfMemory
misuse_by _ = Usage
