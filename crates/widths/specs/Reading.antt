-- How many of the lowest bits of an argument count as read: an upper bound.
use Rattle.std.specs.Prelude.{ℕ}
use Rattle.widths.specs.declared.arguments.reading.Reading.{Reading}
use Rattle.widths.specs.declared.arguments.reading.Reading.TheVariants.{NotTaken, Bits16, Bits32, Bits64, Pointer}

abbrev pub bits_of : Reading → ℕ
bits_of Bits16 = 16
bits_of Bits32 = 32
bits_of Bits64 = 64
bits_of Pointer = 64
bits_of NotTaken = 64
