-- The containers that are kept.
use Rattle.std.specs.Map.{lookup}
use Rattle.processes.specs.Views.{same_text}
use Rattle.lifecycle.specs.declared.register.Register.{Register}
use Rattle.lifecycle.specs.Entries.{Entries}
use Rattle.lifecycle.specs.Places.{Known, listed_by}

abbrev pub known_in : Register → Known
known_in r = λ id. lookup (same_text id) r.kept.entries

-- what is kept, by id, in order of creation
unfoldable pub listed : Register → Entries
listed r = listed_by (known_in r) r.order.items
