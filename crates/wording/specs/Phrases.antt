-- How verdicts, conditions and calls are told.
use Rattle.std.specs.Prelude.{ℕ, ◌==◌, Bool, true, false, if◌then◌else◌, List, [], ◌∷◌, ◌++◌, Option, Some, None, find, codes}
use Rattle.std.specs.Fmt.{decimal, digits}
use Rattle.std.specs.List.{flat_map}
use Rattle.texts.specs.Lines.{line_feed}
use Rattle.machines.specs.declared.arch.Arch.{Arch}
use Rattle.machines.specs.declared.arch.Family.{Family}
use Rattle.machines.specs.Arch.{machines_of, token_of, machine_name}
use Rattle.call_tables.specs.Tables.{table_of}
use Rattle.machines.specs.Numbers.{has_call}
use Rattle.call_tables.specs.Table.{name_in}
use Rattle.call_record.specs.declared.layout.Record.{Record}
use Rattle.call_record.specs.Verdict.{action, datum, kill_process, kill_thread, trap, errno, user_notif, trace, log, allow}
use Rattle.call_record.specs.Text as verdict
use Rattle.profile.specs.declared.conditions.Cond.{Cond}
use Rattle.profile.specs.declared.conditions.Op.{Op}
use Rattle.profile.specs.declared.conditions.Op.TheVariants.{Ne, Lt, Le, Eq, Ge, Gt, MaskedEq}

-- small letters, no leading zero
abbrev pub hexadecimal : ℕ → List ℕ
hexadecimal n = codes "0x" ++ digits 16 false n

-- the name of a verdict's action (seccomp(2), the return values of a filter)
abbrev pub action_name : ℕ → List ℕ
action_name v =
    if action v == kill_process then codes "KILL_PROCESS"
    else if action v == kill_thread then codes "KILL_THREAD"
    else if action v == trap then codes "TRAP"
    else if action v == errno then codes "ERRNO"
    else if action v == user_notif then codes "USER_NOTIF"
    else if action v == trace then codes "TRACE"
    else if action v == log then codes "LOG"
    else if action v == allow then codes "ALLOW"
    else codes "UNKNOWN"

-- the action, and the data where they are not 0
abbrev pub action_text : ℕ → List ℕ
action_text v = if datum v == 0 then action_name v else action_name v ++ codes " " ++ decimal (datum v)

-- the sign of a comparison, and of the bits that a mask takes
abbrev pub sign_of : Op → List ℕ
sign_of Ne = codes "!="
sign_of Lt = codes "<"
sign_of Le = codes "<="
sign_of Eq = codes "=="
sign_of Ge = codes ">="
sign_of Gt = codes ">"
sign_of MaskedEq = codes "&"

abbrev pub is_masked : Op → Bool
is_masked Ne = false
is_masked Lt = false
is_masked Le = false
is_masked Eq = false
is_masked Ge = false
is_masked Gt = false
is_masked MaskedEq = true

-- an argument compared with a number, or the bits of it under a mask with a datum
abbrev pub condition_text : Cond → List ℕ
condition_text c =
    if is_masked c.op
    then codes "arg" ++ decimal c.index ++ codes " & " ++ hexadecimal c.value ++ codes " == " ++ hexadecimal c.datum
    else codes "arg" ++ decimal c.index ++ codes " " ++ sign_of c.op ++ codes " " ++ decimal c.value

-- the machine of a family that has a token
abbrev pub machine_of : Family → ℕ → Option Arch
machine_of family token = find (λ arch. token_of arch == token) (machines_of family)

-- that which has a call with the token and the number
abbrev pub owner_of : Family → ℕ → ℕ → Option Arch
owner_of family token nr = find (has_call token nr) (machines_of family)

abbrev pub or_else : Option Arch → Option Arch → Option Arch
or_else (Some arch) other = Some arch
or_else None other = other

-- that one, or else the machine that has the token: the chosen lists have no machine for the numbers of x32
abbrev pub machine_with : Family → ℕ → ℕ → Option Arch
machine_with family token nr = or_else (owner_of family token nr) (machine_of family token)

abbrev pub named_call : Option (List ℕ) → Arch → ℕ → List ℕ
named_call (Some name) arch nr =
    codes "call " ++ name ++ codes ", number " ++ decimal nr ++ codes " of " ++ machine_name arch ++ line_feed ∷ []
named_call None arch nr = codes "call " ++ decimal nr ++ codes " of " ++ machine_name arch ++ line_feed ∷ []

abbrev pub call_on : Option Arch → ℕ → ℕ → List ℕ
call_on (Some arch) token nr = named_call (name_in (table_of arch) nr) arch nr
call_on None token nr = codes "call " ++ decimal nr ++ codes " of " ++ hexadecimal token ++ line_feed ∷ []

-- the arguments, each in hexadecimal
abbrev pub arguments_text : List ℕ → List ℕ
arguments_text args = flat_map (λ a. codes " " ++ hexadecimal a) args

-- the line of a call, by the names of a family, and the line of its arguments
abbrev pub call_lines : Family → Record → List ℕ
call_lines family r = call_on (machine_with family r.arch r.nr) r.arch r.nr ++ codes "arguments" ++ arguments_text r.args ++ line_feed ∷ []

abbrev pub verdict_line : ℕ → List ℕ
verdict_line v = codes "verdict " ++ verdict.text_of v ++ codes " " ++ action_text v ++ line_feed ∷ []
