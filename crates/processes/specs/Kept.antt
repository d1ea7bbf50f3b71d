-- The tasks of a container, as a kernel keeps them: each with a handle of its filters.
use Rattle.std.specs.Prelude.{List, map}
use Rattle.processes.specs.declared.task.Task.{Task}
use Rattle.processes.specs.Tasks.{Filter, Process}

-- a task, with the filters that its handle stands for
abbrev pub process_of : {H : Type 0} → (H → List Filter) → Task H → Process
process_of seen t =
    record {
      number = t.number;
      group = t.group;
      parent = t.parent;
      images = t.images;
      end = t.end;
      filters = seen t.filters;
      listener = t.listener;
    }

abbrev pub all_of : {H : Type 0} → (H → List Filter) → List (Task H) → List Process
all_of seen tasks = map (process_of seen) tasks
