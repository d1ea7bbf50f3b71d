-- How an error of `check` is told: by its number, its name, and the fault or the node.
use Rattle.std.specs.Prelude.{ℕ, List, [], ◌++◌, codes}
use Rattle.std.specs.Fmt.{decimal}
use Rattle.bpf_insn.specs.Fault.{text_of as view_text}
use Rattle.kernel_check.specs.Fault.{text_of as kernel_text}
use Rattle.cert_form.specs.Fault.{text_of as form_text}
use Rattle.cert_check.specs.declared.fault.CheckError.{CheckError}
use Rattle.cert_check.specs.declared.fault.CheckError.TheVariants.{View, Kernel, Form, Root, Edge, Entail, Return, Split, OutOfMemory}

abbrev pub label_of : CheckError → ℕ × List ℕ
label_of (View fault) = (1, codes "View")
label_of (Kernel refused) = (2, codes "Kernel")
label_of (Form fault) = (3, codes "Form")
label_of Root = (4, codes "Root")
label_of (Edge i) = (5, codes "Edge")
label_of (Entail i) = (6, codes "Entail")
label_of (Return i) = (7, codes "Return")
label_of (Split i) = (8, codes "Split")
label_of OutOfMemory = (9, codes "OutOfMemory")

-- what is told of the fault or of the place, after a space
abbrev pub rest_of : CheckError → List ℕ
rest_of (View fault) = codes " " ++ view_text fault
rest_of (Kernel refused) = codes " " ++ kernel_text refused
rest_of (Form fault) = codes " " ++ form_text fault
rest_of Root = []
rest_of (Edge i) = codes " node " ++ decimal i
rest_of (Entail i) = codes " node " ++ decimal i
rest_of (Return i) = codes " node " ++ decimal i
rest_of (Split i) = codes " node " ++ decimal i
rest_of OutOfMemory = []

-- the text that says it
abbrev pub text_of : CheckError → List ℕ
text_of error = decimal (label_of error).0 ++ codes " " ++ (label_of error).1 ++ rest_of error
