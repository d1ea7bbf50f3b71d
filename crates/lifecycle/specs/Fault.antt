-- How a refusal is told: by its number and its name, and by the verdict that denied the start.
use Rattle.std.specs.Prelude.{ℕ, List, [], ◌++◌, codes}
use Rattle.std.specs.Fmt.{decimal}
use Rattle.call_record.specs.Text as verdict
use Rattle.lifecycle.specs.declared.fault.Refusal.{Refusal}
use Rattle.lifecycle.specs.declared.fault.Refusal.TheVariants.{IdTaken, NoContainer, NotCreated, NotAlive, NotStopped, BadSignal}
use Rattle.lifecycle.specs.declared.fault.Refusal.TheVariants.{StartDenied, BadId}

abbrev pub label_of : Refusal → ℕ × List ℕ
label_of IdTaken = (1, codes "IdTaken")
label_of NoContainer = (2, codes "NoContainer")
label_of NotCreated = (3, codes "NotCreated")
label_of NotAlive = (4, codes "NotAlive")
label_of NotStopped = (5, codes "NotStopped")
label_of BadSignal = (6, codes "BadSignal")
label_of (StartDenied v) = (7, codes "StartDenied")
label_of BadId = (8, codes "BadId")

-- the verdict, after a space
abbrev pub verdict_text : Refusal → List ℕ
verdict_text IdTaken = []
verdict_text NoContainer = []
verdict_text NotCreated = []
verdict_text NotAlive = []
verdict_text NotStopped = []
verdict_text BadSignal = []
verdict_text (StartDenied v) = codes " " ++ verdict.text_of v
verdict_text BadId = []

-- the text that says it
abbrev pub text_of : Refusal → List ℕ
text_of refusal = decimal (label_of refusal).0 ++ codes " " ++ (label_of refusal).1 ++ verdict_text refusal
