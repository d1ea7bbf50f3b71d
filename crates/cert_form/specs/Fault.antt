-- How a fault is told: by its number and its name.
use Rattle.std.specs.Prelude.{ℕ, List, ◌++◌, codes}
use Rattle.std.specs.Fmt.{decimal}
use Rattle.cert_form.specs.declared.fault.FormError.{FormError}
use Rattle.cert_form.specs.declared.fault.FormError.TheVariants.{BadMagic, BadVersion, Truncated, BadNode, BadCount, Trailing, OutOfMemory}

abbrev pub label_of : FormError → ℕ × List ℕ
label_of BadMagic = (1, codes "BadMagic")
label_of BadVersion = (2, codes "BadVersion")
label_of Truncated = (3, codes "Truncated")
label_of BadNode = (4, codes "BadNode")
label_of BadCount = (5, codes "BadCount")
label_of Trailing = (6, codes "Trailing")
label_of OutOfMemory = (9, codes "OutOfMemory")

-- the text that says it
abbrev pub text_of : FormError → List ℕ
text_of fault = decimal (label_of fault).0 ++ codes " " ++ (label_of fault).1
