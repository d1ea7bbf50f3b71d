-- How a fault of writing is told: by number and name, and how many bytes were written.
use Rattle.std.specs.Prelude.{ℕ, List, ◌++◌, codes}
use Rattle.std.specs.Fmt.{decimal}
use Rattle.texts.specs.Labels.{label_text}
use Rattle.texts.specs.declared.streams.fault.WriteFault.{WriteFault}
use Rattle.texts.specs.declared.streams.fault.WriteFault.TheVariants.{Write, OutOfMemory}

abbrev pub label_of : WriteFault → ℕ × List ℕ
label_of (Write out) = (1, codes "Write")
label_of OutOfMemory = (9, codes "OutOfMemory")

-- the text that says it
abbrev pub text_of : WriteFault → List ℕ
text_of (Write out) = label_text (label_of (Write out)) ++ codes " " ++ decimal out
text_of OutOfMemory = label_text (label_of OutOfMemory)
