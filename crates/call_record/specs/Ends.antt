-- What ends by a verdict (seccomp(2): KILL_THREAD ends the thread, KILL_PROCESS and unknown actions the process).
use Rattle.std.specs.Prelude.{ℕ, ◌==◌, ◌||◌, if◌then◌else◌, is_some}
use Rattle.call_record.specs.Verdict.{action, errno_of, is_through, kill_thread}
use Rattle.call_record.specs.declared.effect.Ends.{Ends}
use Rattle.call_record.specs.declared.effect.Ends.TheVariants.{Nothing, Task, Group}

-- nothing where the call is carried out or answers an error, and else the task or its whole group
abbrev pub ends_of : ℕ → Ends
ends_of v =
    if is_through v || is_some (errno_of v) then Nothing
    else if action v == kill_thread then Task
    else Group
