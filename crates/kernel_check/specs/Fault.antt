-- How a refusal is told: by the number and the name of its cause, and the position where it stands.
use Rattle.std.specs.Prelude.{ℕ, List, ◌++◌, codes}
use Rattle.std.specs.Fmt.{decimal}
use Rattle.kernel_check.specs.declared.fault.Cause.{Cause}
use Rattle.kernel_check.specs.declared.fault.Cause.TheVariants.{Code, Load, Shift, Target, End, Scratch}
use Rattle.kernel_check.specs.declared.fault.Refused.{Refused}

abbrev pub label_of : Cause → ℕ × List ℕ
label_of Code = (1, codes "Code")
label_of Load = (2, codes "Load")
label_of Shift = (3, codes "Shift")
label_of Target = (4, codes "Target")
label_of End = (5, codes "End")
label_of Scratch = (6, codes "Scratch")

abbrev pub number_of : Cause → ℕ
number_of cause = (label_of cause).0

-- the text that says a cause
abbrev pub cause_text_of : Cause → List ℕ
cause_text_of cause = decimal (number_of cause) ++ codes " " ++ (label_of cause).1

-- the text that says a refusal
abbrev pub text_of : Refused → List ℕ
text_of refused = cause_text_of refused.cause ++ codes " pc " ++ decimal refused.pc
