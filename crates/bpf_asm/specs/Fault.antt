-- How it is told why a text is no listing: by a number and a name, and by the line.
use Rattle.std.specs.Prelude.{ℕ, List, [], ◌++◌, codes}
use Rattle.std.specs.Fmt.{decimal}
use Rattle.texts.specs.Labels.{label_text}
use Rattle.bpf_asm.specs.declared.fault.AsmError.{AsmError}
use Rattle.bpf_asm.specs.declared.fault.AsmError.TheVariants.{Line, OutOfMemory}
use Rattle.bpf_asm.specs.declared.fault.LineFault.TheVariants.{UnknownWord, BadNumber, TooLong, BadLine}

abbrev pub label_of : AsmError → ℕ × List ℕ
label_of (Line line UnknownWord) = (1, codes "UnknownWord")
label_of (Line line BadNumber) = (2, codes "BadNumber")
label_of (Line line TooLong) = (3, codes "TooLong")
label_of (Line line BadLine) = (4, codes "BadLine")
label_of OutOfMemory = (9, codes "OutOfMemory")

-- where it stands
abbrev pub place_of : AsmError → List ℕ
place_of (Line line fault) = codes " line " ++ decimal line
place_of OutOfMemory = []

-- the text that says it
abbrev pub text_of : AsmError → List ℕ
text_of error = label_text (label_of error) ++ place_of error
