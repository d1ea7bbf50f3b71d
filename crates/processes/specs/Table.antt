-- What a kernel has of each container.
use Rattle.std.specs.Prelude.{ℕ, List, Option, option_map}
use Rattle.indexmap.specs.IndexMap.{get_by}
use Rattle.processes.specs.declared.container.Container.{Container}
use Rattle.processes.specs.declared.store.Store.{Ghosts}
use Rattle.processes.specs.declared.table.Table.{Table}
use Rattle.processes.specs.Kept.{all_of}
use Rattle.processes.specs.Tasks.{Processes}
use Rattle.processes.specs.Views.{same_text}

-- a container's tasks and counts, with what its store says of filters
abbrev pub processes_of : {S H : Type 0} {g : Ghosts S H} → Container S H g → Processes
processes_of {S} {H} {g} c =
    record { native = c.native; tasks = all_of (g.filters_of c.store) c.tasks.items; made = c.made; loads = g.loads_of c.store }

abbrev pub table_of : {S H : Type 0} {g : Ghosts S H} → Table S H g → List ℕ → Option Processes
table_of t id = option_map processes_of (get_by (same_text id) t.containers)
