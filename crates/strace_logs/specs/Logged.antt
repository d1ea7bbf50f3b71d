-- The calls that logs show.
use Rattle.std.specs.Prelude.{ℕ, ◌+◌, ◌&&◌, Bool, nat_lt, if◌then◌else◌, List, [], ◌∷◌, ◌++◌, Option, Some, None, length, map}
use Rattle.std.specs.List.{flat_map, list_all}
use Rattle.machines.specs.declared.arch.Arch.{Arch}
use Rattle.strace_logs.specs.Line.{CallParts, shown_in, is_raw, words_of_call}
use Rattle.wording.specs.Lines.{lines_of}
use Rattle.strace_logs.specs.declared.logs.Log.{Log}

-- A call that a line of a log tells. It is its machine, its record, the name of the log, the number of the line, and the line.
pub record Logged : Type 0 where
  pub arch : Arch
  pub words : List ℕ
  pub log : List ℕ
  pub number : ℕ
  pub line : List ℕ

abbrev pub told_on : Option CallParts → List ℕ → ℕ → List ℕ → List Logged
told_on None log n line = []
told_on (Some call) log n line = record { arch = call.0; words = words_of_call call; log = log; number = n; line = line } ∷ []

-- the calls that lines tell, of which the first has this number
abbrev pub calls_from : Arch → List ℕ → ℕ → List (List ℕ) → List Logged
calls_from native log n [] = []
calls_from native log n (line ∷ lines) = told_on (shown_in native line) log n line ++ calls_from native log (n + 1) lines

-- a log is its name and its text; lines are counted from 1
abbrev pub calls_of : Arch → List ℕ × List ℕ → List Logged
calls_of native log = calls_from native log.0 1 (lines_of log.1)

abbrev pub are_raw : List Logged → Bool
are_raw calls = list_all (λ call. is_raw call.line) calls

-- it is one if a line tells a call, and all arguments that its calls write are numbers
abbrev pub is_log : Arch → List ℕ × List ℕ → Bool
is_log native log = nat_lt 0 (length (calls_of native log)) && are_raw (calls_of native log)

-- the name of the first that is none
abbrev pub first_none : Arch → List (List ℕ × List ℕ) → Option (List ℕ)
first_none native [] = None
first_none native (log ∷ logs) = if is_log native log then first_none native logs else Some log.0

-- the calls that logs show, one log after the other
abbrev pub calls_in : Arch → List (List ℕ × List ℕ) → List Logged
calls_in native logs = flat_map (calls_of native) logs

-- logs, wherever they lie in memory
abbrev pub parts_of : List Log → List (List ℕ × List ℕ)
parts_of logs = map (λ log. (log.name.now, log.text.now)) logs
