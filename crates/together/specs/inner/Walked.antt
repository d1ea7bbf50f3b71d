-- What is known of the records of a call by a walk through the bits of their arguments.
use Rattle.std.specs.Prelude.{◌≡◌, ℕ, ⊤, List}
use Rattle.profile.specs.Policy.{Policy}
use Rattle.profile.specs.Rule.{argument_of}
use Rattle.differ.specs.Left.{side_says}
use Rattle.differ.specs.OnCall.{IsOfCall}
use Rattle.differ.specs.declared.left.Side.{Side}
use Rattle.differ.specs.declared.named.Call.{Call}
use Rattle.together.specs.OnCall.{AgreesOnCall}
use Rattle.together.specs.Together.{IsUnlike, together}
use Rattle.together.specs.declared.walked.Walked as walked
use Rattle.together.specs.declared.walked.Walked.TheVariants.{Agrees, Unlike, Unknown}
use Rattle.together.specs.declared.way.Way.{Way}

-- a side says of each record of the call what counts
abbrev pub SaysAll : Way → List Policy → Call → Side → Type 0
SaysAll way ps call side = (r : List ℕ) → IsOfCall call.token call.nr r → side_says side (argument_of r) ≡ together way ps r

-- q says of each record of the call what counts, or of this one it does not
abbrev pub IsWalked : Way → List Policy → Policy → Call → walked.Walked → Type 0
IsWalked way ps q call Agrees = AgreesOnCall way ps q call.token call.nr
IsWalked way ps q call (Unlike found) = IsUnlike way ps q found
IsWalked way ps q call Unknown = ⊤
