-- What a verdict says, and which of several is strictest (seccomp(2), the return values of a filter).
use Rattle.std.specs.Prelude.{ℕ, ◌==◌, min, Bool, not, ◌||◌, IsTrue, if◌then◌else◌, List, Option, Some, None}
use Rattle.std.specs.Prelude.{bit_and, unwrap_or, int_lt, find}
use Rattle.std.specs.List.{list_all}
use Rattle.std.specs.Int.{w32, cast_signed}

-- the actions, each with data 0
abbrev pub kill_process : ℕ
kill_process = 0x80000000

abbrev pub kill_thread : ℕ
kill_thread = 0x00000000

abbrev pub trap : ℕ
trap = 0x00030000

abbrev pub errno : ℕ
errno = 0x00050000

abbrev pub user_notif : ℕ
user_notif = 0x7fc00000

abbrev pub trace : ℕ
trace = 0x7ff00000

abbrev pub log : ℕ
log = 0x7ffc0000

abbrev pub allow : ℕ
allow = 0x7fff0000

-- the action of a verdict, and its data
abbrev pub action : ℕ → ℕ
action v = bit_and v 0xffff0000

abbrev pub datum : ℕ → ℕ
datum v = bit_and v 0xffff

-- the call is carried out
abbrev pub is_through : ℕ → Bool
is_through v = (action v == allow) || (action v == log)

abbrev pub Through : ℕ → Type 0
Through v = IsTrue (is_through v)

-- the error that the call answers with: the data, at most 4095, or ENOSYS (38) where no listener or tracer is there
abbrev pub errno_of : ℕ → Option ℕ
errno_of v =
    if action v == errno then Some (min (datum v) 4095)
    else if action v == trace then Some 38
    else if action v == user_notif then Some 38
    else None

-- an action is read as a signed number of 32 bits, and the least is strictest
abbrev pub is_stricter : ℕ → ℕ → Bool
is_stricter v w = int_lt (cast_signed w32 (action v)) (cast_signed w32 (action w))

-- the verdict is stricter than LOG, so the call is not carried out whatever other filters answer
abbrev pub IsRefusal : ℕ → Type 0
IsRefusal v = IsTrue (is_stricter v log)

-- no verdict of the list is stricter
abbrev pub is_least : List ℕ → ℕ → Bool
is_least ws v = list_all (λ w. not (is_stricter w v)) ws

-- the first of the strictest verdicts, and ALLOW with no data where each verdict allows
unfoldable pub strictest_of : List ℕ → ℕ
strictest_of ws =
    if list_all (λ w. action w == allow) ws
    then allow
    else unwrap_or (find (is_least ws) ws) allow
