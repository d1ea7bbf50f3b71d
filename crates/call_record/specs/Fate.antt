-- How far a verdict lets a call go (seccomp(2)): it is refused, left to a tracer or a listener, or let through.
use Rattle.std.specs.Prelude.{ℕ, Bool, ◌==◌, ◌||◌, if◌then◌else◌, nat_lt}
use Rattle.call_record.specs.Verdict.{action, is_through, trace, user_notif}
use Rattle.call_record.specs.declared.fate.Fate.{Fate}
use Rattle.call_record.specs.declared.fate.Fate.TheVariants.{Refused, Left, LetThrough}

-- a tracer or a listener decides on the call, and may let it through
abbrev pub is_left : ℕ → Bool
is_left v = (action v == trace) || (action v == user_notif)

abbrev pub fate_of : ℕ → Fate
fate_of v =
    if is_through v then LetThrough
    else if is_left v then Left
    else Refused

-- the steps that a call goes
abbrev pub steps : Fate → ℕ
steps Refused = 0
steps Left = 1
steps LetThrough = 2

-- a call with the first verdict goes further than one with the second
abbrev pub is_further : ℕ → ℕ → Bool
is_further v w = nat_lt (steps (fate_of w)) (steps (fate_of v))
