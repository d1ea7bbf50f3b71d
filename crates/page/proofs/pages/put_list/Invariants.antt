-- The lines so far are in the list.
use Rattle.std.proofs.Common.{◌≡◌, ◌++◌, drop}
use Rattle.std.specs.List.{flat_map}
use Rattle.json_lines.specs.inner.Views.{texts}
use Rattle.page.specs.Page.{change_text}
use Rattle.page.proofs.pages.put_list.Given as goal

abbrev pub invariant-loop-line : goal.invariant-loop-line
invariant-loop-line l =
    l.page.items ++ flat_map change_text (texts (drop l.line-index l.lines)) ≡ l.fn.page.items ++ flat_map change_text (texts l.lines)
