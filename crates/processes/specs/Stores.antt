-- What a store of filters says of the filters that a handle stands for.
use Rattle.std.specs.Prelude.{ℕ, ◌+◌, ◌==◌, Bool, true, false, List, [], ◌∷◌, Option, find, map, option_map, sum_by}
use Rattle.std.specs.List.{list_all}
use Rattle.call_record.specs.declared.layout.Record.{Record}
use Rattle.call_record.specs.Verdict.{action, user_notif}
use Rattle.bpf_insn.specs.declared.instruction.Insn.{Insn}
use Rattle.processes.specs.Tasks.{Filter, Process, program_judge}

-- there is a filter
abbrev pub has_filter : List Filter → Bool
has_filter [] = false
has_filter (f ∷ fs) = true

-- every task has a filter
abbrev pub is_rooted : List Process → Bool
is_rooted tasks = list_all (λ t. has_filter t.filters) tasks

-- the count of each with 4 more, in instructions: for how many they count beside a further filter
abbrev pub size_beside : List Filter → ℕ
size_beside fs = sum_by (λ f. f.judge.count + 4) fs

-- their load numbers
abbrev pub loads_in : List Filter → List ℕ
loads_in fs = map (λ f. f.load) fs

-- the filter's verdict notifies a listener
abbrev pub notifies : Record → Filter → Bool
notifies r f = action (f.judge.verdict r) == user_notif

-- the newest whose verdict does, by its load number
abbrev pub notifier : Record → List Filter → Option ℕ
notifier r fs = option_map (λ f. f.load) (find (notifies r) fs)

-- a program that was loaded under a number
abbrev pub program_filter : ℕ → List Insn → Filter
program_filter load program = record { load = load; judge = program_judge program }
