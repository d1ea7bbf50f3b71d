-- The parts so far are in the box.
use Rattle.std.proofs.Common.{◌≡◌, ◌++◌, drop}
use Rattle.std.specs.List.{flat_map}
use Rattle.json_lines.specs.inner.Views.{texts}
use Rattle.page.specs.Graph.{instruction_text}
use Rattle.page.proofs.graph.put_parts.Given as goal

abbrev pub invariant-loop-part : goal.invariant-loop-part
invariant-loop-part l =
    l.page.items ++ flat_map instruction_text (texts (drop l.part-index l.parts))
    ≡ l.fn.page.items ++ flat_map instruction_text (texts l.parts)
