-- Lines of logs that are not read.
use Rattle.std.specs.Prelude.{ℕ, ◌==◌, ◌&&◌, ◌||◌, Bool, true, false, if◌then◌else◌, List, [], ◌∷◌, ◌++◌, Option, Some, None}
use Rattle.std.specs.Prelude.{codes, count_by, is_none, is_some, length}
use Rattle.std.specs.Fmt.{decimal}
use Rattle.std.specs.Str.{is_utf8}
use Rattle.texts.specs.Lines.{line_feed}
use Rattle.texts.specs.Splits.{behind, split_at}
use Rattle.machines.specs.declared.arch.Arch.{Arch}
use Rattle.wording.specs.Lines.{lines_of}
use Rattle.strace_logs.specs.Line.{shown_on}

-- what strace writes behind the number of a line that tells no call: the end of one, a signal, an exit
abbrev pub is_mark : List ℕ → Bool
is_mark text = is_some (behind (codes " <... ") text) || (is_some (behind (codes " --- ") text) || is_some (behind (codes " +++ ") text))

-- by what stands before and behind the first `]`; a line without one is empty
abbrev pub is_remark_by : Option (List ℕ × List ℕ) → List ℕ → Bool
is_remark_by (Some parts) line = is_mark parts.1
is_remark_by None line = length line == 0

-- the line tells no call, and strace writes such lines beside calls
abbrev pub is_remark : List ℕ → Bool
is_remark line = is_some (behind (codes "strace: ") line) || is_remark_by (split_at 93 line) line

-- the line tells no call, and strace writes no such line beside calls
abbrev pub is_unread_text : Arch → List ℕ → Bool
is_unread_text native line = if is_remark line then false else is_none (shown_on native line)

-- so is each line that is no UTF-8
unfoldable pub is_unread : Arch → List ℕ → Bool
is_unread native line = if is_utf8 line then is_unread_text native line else true

-- how many lines of a text are not read
abbrev pub count_unread : Arch → List ℕ → ℕ
count_unread native text = count_by (is_unread native) (lines_of text)

-- each line of each log is read
abbrev pub are_read : Arch → List (List ℕ × List ℕ) → Bool
are_read native [] = true
are_read native (log ∷ logs) = count_unread native log.1 == 0 && are_read native logs

-- how many lines of a log are not read, if there are some
abbrev pub unread_line : List ℕ → ℕ → List ℕ
unread_line name n = if n == 0 then [] else name ++ codes ": " ++ decimal n ++ codes " lines are not read" ++ line_feed ∷ []

abbrev pub unread_text : Arch → List (List ℕ × List ℕ) → List ℕ
unread_text native [] = []
unread_text native (log ∷ logs) = unread_line log.0 (count_unread native log.1) ++ unread_text native logs
