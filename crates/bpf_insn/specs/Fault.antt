-- How a fault of `view` is told: by its number and its name.
use Rattle.std.specs.Prelude.{ℕ, List, ◌++◌, codes}
use Rattle.std.specs.Fmt.{decimal}
use Rattle.bpf_insn.specs.declared.fault.ViewError.{ViewError}
use Rattle.bpf_insn.specs.declared.fault.ViewError.TheVariants.{NotMultipleOf8, Empty, TooLong}

abbrev pub label_of : ViewError → ℕ × List ℕ
label_of NotMultipleOf8 = (1, codes "NotMultipleOf8")
label_of Empty = (2, codes "Empty")
label_of TooLong = (3, codes "TooLong")

-- the text that says it
abbrev pub text_of : ViewError → List ℕ
text_of fault = decimal (label_of fault).0 ++ codes " " ++ (label_of fault).1
