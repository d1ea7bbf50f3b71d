-- How the faults of the compiler are told: by number and name.
use Rattle.std.specs.Prelude.{ℕ, List, ◌++◌, codes}
use Rattle.std.specs.Fmt.{decimal}
use Rattle.rule_compile.specs.declared.fault.CompileError.{CompileError}
use Rattle.rule_compile.specs.declared.fault.CompileError.TheVariants.{TooLong, OutOfMemory}

abbrev pub label_of : CompileError → ℕ × List ℕ
label_of TooLong = (1, codes "TooLong")
label_of OutOfMemory = (9, codes "OutOfMemory")

-- the text that says it
abbrev pub text_of : CompileError → List ℕ
text_of fault = decimal (label_of fault).0 ++ codes " " ++ (label_of fault).1
