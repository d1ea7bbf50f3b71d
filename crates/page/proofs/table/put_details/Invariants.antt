-- The lines so far are in the cell.
use Rattle.std.proofs.Common.{◌≡◌, ◌++◌, drop, map}
use Rattle.std.specs.List.{flat_map}
use Rattle.json_lines.specs.inner.Tokens.{said}
use Rattle.json_lines.specs.inner.Views.{texts}
use Rattle.page.specs.Table.{detail_text}
use Rattle.page.proofs.table.put_details.Given as goal

abbrev pub invariant-loop-detail : goal.invariant-loop-detail
invariant-loop-detail l =
    l.page.items ++ flat_map detail_text (map said (texts (drop l.detail-index l.details)))
    ≡ l.fn.page.items ++ flat_map detail_text (map said (texts l.details))
