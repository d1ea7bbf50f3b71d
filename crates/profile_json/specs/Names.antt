-- What the names of editions, actions, flags, operators, machines and calls stand for (OCI Runtime Specification 1.0.2 to 1.2.1,
-- config-linux, Seccomp).
use Rattle.std.specs.Prelude.{codes, ℕ, ◌+◌, List, [], ◌∷◌, ◌++◌, find, Bool, true, false, Option, Some, None, is_some, if◌then◌else◌}
use Rattle.std.specs.List.{list_any}
use Rattle.std.specs.Str.{bytes_eq}
use Rattle.call_record.specs.Verdict as verdict
use Rattle.machines.specs.declared.arch.Arch.{Arch}
use Rattle.machines.specs.declared.arch.Family.{Family}
use Rattle.machines.specs.declared.arch.Family.TheVariants.{Chosen, Whole}
use Rattle.machines.specs.Arch.{scmp_of, machines_of}
use Rattle.call_tables.specs.Tables.{table_of}
use Rattle.call_tables.specs.Table.{number_in}
use Rattle.profile.specs.declared.conditions.Op.{Op}
use Rattle.profile.specs.declared.conditions.Op.TheVariants as op
use Rattle.profile_json.specs.declared.action.Action.{Action}
use Rattle.profile_json.specs.declared.action.Action.TheVariants as action

-- the editions of the specification that are read
abbrev pub editions : Family → List (List ℕ)
editions Chosen = codes "1.0.2" ∷ codes "1.1.0" ∷ []
editions Whole = codes "1.0.2" ∷ codes "1.1.0" ∷ codes "1.2.0" ∷ codes "1.2.1" ∷ []

-- the value beside the first such name
abbrev pub named : {A : Type 0} → List (List ℕ × A) → List ℕ → Option A
named [] name = None
named (e ∷ es) name = if bytes_eq name e.0 then Some e.1 else named es name

-- the names of actions that each family reads
abbrev pub actions : List (List ℕ × Action)
actions =
    (codes "SCMP_ACT_KILL", action.KillThread) ∷
    (codes "SCMP_ACT_KILL_PROCESS", action.KillProcess) ∷
    (codes "SCMP_ACT_TRAP", action.Trap) ∷
    (codes "SCMP_ACT_ERRNO", action.Errno) ∷
    (codes "SCMP_ACT_TRACE", action.Trace) ∷
    (codes "SCMP_ACT_LOG", action.Log) ∷
    (codes "SCMP_ACT_ALLOW", action.Allow) ∷ []

-- those that only the machines of whole tables read
abbrev pub more_actions : List (List ℕ × Action)
more_actions =
    (codes "SCMP_ACT_KILL_THREAD", action.KillThread) ∷
    (codes "SCMP_ACT_NOTIFY", action.Notify) ∷ []

unfoldable pub action_named : Family → List ℕ → Option Action
action_named Chosen = named actions
action_named Whole = named (actions ++ more_actions)

-- an action's verdict without data
abbrev pub action_bits : Action → ℕ
action_bits action.KillThread = verdict.kill_thread
action_bits action.KillProcess = verdict.kill_process
action_bits action.Trap = verdict.trap
action_bits action.Errno = verdict.errno
action_bits action.Trace = verdict.trace
action_bits action.Log = verdict.log
action_bits action.Allow = verdict.allow
action_bits action.Notify = verdict.user_notif

-- the actions that take data from the text
abbrev pub takes_data : Action → Bool
takes_data action.KillThread = false
takes_data action.KillProcess = false
takes_data action.Trap = false
takes_data action.Errno = true
takes_data action.Trace = true
takes_data action.Log = false
takes_data action.Allow = false
takes_data action.Notify = false

-- the verdict of an action, with the data that ERRNO and TRACE take
abbrev pub verdict_of : Action → ℕ → ℕ
verdict_of a errno = if takes_data a then action_bits a + errno else action_bits a

-- the flags of seccomp(2) that may be listed
abbrev pub filter_flags : List (List ℕ)
filter_flags =
    codes "SECCOMP_FILTER_FLAG_TSYNC" ∷
    codes "SECCOMP_FILTER_FLAG_LOG" ∷
    codes "SECCOMP_FILTER_FLAG_SPEC_ALLOW" ∷
    codes "SECCOMP_FILTER_FLAG_WAIT_KILLABLE_RECV" ∷ []

unfoldable pub op_named : List ℕ → Option Op
op_named = named (
    (codes "SCMP_CMP_NE", op.Ne) ∷
    (codes "SCMP_CMP_LT", op.Lt) ∷
    (codes "SCMP_CMP_LE", op.Le) ∷
    (codes "SCMP_CMP_EQ", op.Eq) ∷
    (codes "SCMP_CMP_GE", op.Ge) ∷
    (codes "SCMP_CMP_GT", op.Gt) ∷
    (codes "SCMP_CMP_MASKED_EQ", op.MaskedEq) ∷ [])

-- the member of the native machine's family
unfoldable pub arch_named : Family → List ℕ → Option Arch
arch_named family name = find (λ arch. bytes_eq name (scmp_of arch)) (machines_of family)

-- the call stands in the table of some machine of the family, listed or not
abbrev pub is_known : Family → List ℕ → Bool
is_known family name = list_any (λ arch. is_some (number_in (table_of arch) name)) (machines_of family)

-- how many entries a bundle may have
abbrev pub most_entries : Family → ℕ
most_entries Chosen = 256
most_entries Whole = 1024

-- how many names an entry may have
abbrev pub most_names : Family → ℕ
most_names Chosen = 128
most_names Whole = 512
