-- The filters that the code keeps for a task, the newest first.
use Rattle.std.specs.Prelude.{ℕ, ◌+◌, List, map, length, sum_by}
use Rattle.processes.specs.declared.filters.Loaded.{Loaded}
use Rattle.processes.specs.Tasks.{Filter, program_judge}

abbrev pub filter_of : Loaded → Filter
filter_of f = record { load = f.load; judge = program_judge f.program }

abbrev pub filters_of : List Loaded → List Filter
filters_of fs = map filter_of fs

-- the length of each with 4 more, counted in instructions
abbrev pub total_size : List Loaded → ℕ
total_size fs = sum_by (λ f. length f.program + 4) fs

abbrev pub loads_of : List Loaded → List ℕ
loads_of fs = map (λ f. f.load) fs
