use Rattle.std.proofs.Common.{◌≡◌, map, take}
use Rattle.std.specs.Prelude.{string_bytes}
use Rattle.command_line.specs.Manual.{list_of}
use Rattle.command_line.specs.Table.{row}
use Rattle.command_line.proofs.pages.list.Given as goal

abbrev pub invariant-loop-entry : goal.invariant-loop-entry
invariant-loop-entry l = string_bytes l.told ≡ list_of (map row (take l.entry-index l.entries))
