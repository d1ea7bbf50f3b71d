-- The answer to a script: a line for each of its lines.
use Rattle.std.specs.Prelude.{ℕ, ◌+◌, ◌-◌, ◌^◌, min, List, [], ◌∷◌, ◌++◌, Option, None, Some}
use Rattle.lifecycle.specs.declared.command.Reply.{Reply}
use Rattle.lifecycle.specs.Commands.{Command, id_of}
use Rattle.lifecycle.specs.Steps.{run}
use Rattle.lifecycle.specs.Worlds.{First}
use Rattle.session.specs.Replies.{no_command_line, reply_line}

-- a count of 64 bits, which stops at the greatest
abbrev pub counted : ℕ → ℕ
counted n = min n (2 ^ 64 - 1)

-- the commands of lines
abbrev pub commands_of : List (Option Command) → List Command
commands_of [] = []
commands_of (None ∷ lines) = commands_of lines
commands_of (Some c ∷ lines) = c ∷ commands_of lines

-- to each line that is a command the next reply, to any other that it is none; so many lines went before
abbrev pub answer_after : ℕ → List (Option Command) → List Reply → List ℕ
answer_after n [] replies = []
answer_after n (None ∷ lines) replies = no_command_line (counted (n + 1)) ++ answer_after (n + 1) lines replies
answer_after n (Some c ∷ lines) [] = []
answer_after n (Some c ∷ lines) (r ∷ replies) = reply_line (id_of c) r ++ answer_after (n + 1) lines replies

-- the replies are those of a run of the commands, in a world without containers
abbrev pub answer_of : First → List (Option Command) → List ℕ
answer_of F lines = answer_after 0 lines (run F (commands_of lines) []).0
