-- What the lines so far tell is added.
use Rattle.std.proofs.Common.{◌≡◌, ◌++◌, drop}
use Rattle.std.specs.List.{flat_map}
use Rattle.json_lines.specs.inner.Views.{texts}
use Rattle.page.specs.Graph.{line_text}
use Rattle.page.proofs.graph.put_lines.Given as goal

abbrev pub invariant-loop-line : goal.invariant-loop-line
invariant-loop-line l =
    l.page.items ++ flat_map (line_text l.mark) (texts (drop l.line-index l.lines))
    ≡ l.fn.page.items ++ flat_map (line_text l.mark) (texts l.lines)
