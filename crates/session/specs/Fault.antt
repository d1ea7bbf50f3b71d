-- How a fault of a script is told: by number and name, and by the line or the count of bytes.
use Rattle.std.specs.Prelude.{ℕ, List, ◌++◌, codes}
use Rattle.std.specs.Fmt.{decimal}
use Rattle.texts.specs.Labels.{label_text}
use Rattle.session.specs.declared.fault.ScriptFault.{ScriptFault}
use Rattle.session.specs.declared.fault.ScriptFault.TheVariants.{Read, Write, Memory}

abbrev pub label_of : ScriptFault → ℕ × List ℕ
label_of (Read line) = (1, codes "Read")
label_of (Write out) = (2, codes "Write")
label_of (Memory line) = (3, codes "Memory")

abbrev pub place_of : ScriptFault → List ℕ
place_of (Read line) = codes "line " ++ decimal line
place_of (Write out) = decimal out
place_of (Memory line) = codes "line " ++ decimal line

-- the text that says it
abbrev pub text_of : ScriptFault → List ℕ
text_of fault = label_text (label_of fault) ++ codes " " ++ place_of fault
