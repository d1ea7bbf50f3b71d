-- How a fault of reading a file is told: by its number and its name.
use Rattle.std.specs.Prelude.{ℕ, List, codes}
use Rattle.texts.specs.Labels.{label_text}
use Rattle.cli.specs.declared.fault.FileFault.{FileFault}
use Rattle.cli.specs.declared.fault.FileFault.TheVariants.{CannotRead, OutOfMemory}

abbrev pub label_of : FileFault → ℕ × List ℕ
label_of CannotRead = (1, codes "CannotRead")
label_of OutOfMemory = (9, codes "OutOfMemory")

-- the text that says it
abbrev pub text_of : FileFault → List ℕ
text_of fault = label_text (label_of fault)
