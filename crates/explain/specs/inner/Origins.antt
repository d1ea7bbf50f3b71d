-- Events of processes.
use Rattle.std.specs.Prelude.{ℕ, List, string_bytes}
use Rattle.explain.specs.declared.audited.event.Event.{Event}
use Rattle.explain.specs.declared.audited.origins.Origin.{Origin}

-- the event, and the process by its text
abbrev pub origin_of : Origin → Event × List ℕ
origin_of origin = (origin.event, string_bytes origin.process)
