-- The line of a reply, its line feed included.
use Rattle.std.specs.Prelude.{ℕ, List, [], ◌∷◌, ◌++◌, codes}
use Rattle.std.specs.Fmt.{decimal}
use Rattle.serde_json.specs.Data.{Data, string, object, no_members, member}
use Rattle.serde_json.specs.Written.{compact_text}
use Rattle.texts.specs.Lines.{line_feed}
use Rattle.call_record.specs.Text as verdict
use Rattle.processes.specs.declared.outcome.Outcome.{Outcome}
use Rattle.processes.specs.declared.outcome.Outcome.TheVariants.{Done, Failed, Absent, Denied, Answered, Declined, NoTask}
use Rattle.lifecycle.specs.Fault as refusal
use Rattle.lifecycle.specs.declared.command.Status.{Status}
use Rattle.lifecycle.specs.declared.command.Status.TheVariants.{Created, Running, Stopped}
use Rattle.lifecycle.specs.declared.command.Reply.{Reply}
use Rattle.lifecycle.specs.declared.command.Reply.TheVariants.{Accepted, Refused, Presented, IsIn}

-- what became of a call
abbrev pub outcome_text : Outcome → List ℕ
outcome_text (Done n) = codes "done " ++ decimal n
outcome_text (Failed errno) = codes "failed " ++ decimal errno
outcome_text Absent = codes "absent"
outcome_text (Denied v) = codes "denied " ++ verdict.text_of v
outcome_text (Answered n) = codes "answered " ++ decimal n
outcome_text (Declined errno) = codes "declined " ++ decimal errno
outcome_text NoTask = codes "no task"

-- the values of `status` (OCI Runtime Specification, Runtime and Lifecycle, State)
abbrev pub status_name : Status → List ℕ
status_name Created = codes "created"
status_name Running = codes "running"
status_name Stopped = codes "stopped"

-- the state of a container as JSON (the same section), without pid, bundle and annotations
abbrev pub state_of : List ℕ → Status → Data
state_of id status =
    object (member (codes "id") (string id)
    (member (codes "ociVersion") (string (codes "1.0.2"))
    (member (codes "status") (string (status_name status)) no_members)))

-- the reply to a command that names this container
abbrev pub reply_text : List ℕ → Reply → List ℕ
reply_text id Accepted = codes "ok"
reply_text id (Refused r) = codes "refused " ++ refusal.text_of r
reply_text id (Presented outcome) = outcome_text outcome
reply_text id (IsIn status) = compact_text (state_of id status)

abbrev pub reply_line : List ℕ → Reply → List ℕ
reply_line id reply = reply_text id reply ++ line_feed ∷ []

-- what is answered to a line that is no command, by its number
abbrev pub no_command_line : ℕ → List ℕ
no_command_line n = codes "line " ++ decimal n ++ codes " is no command" ++ line_feed ∷ []
