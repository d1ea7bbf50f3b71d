use Rattle.std.proofs.Common.{◌≡◌, map, sym, ap, ◌∙◌}
use Rattle.json.specs.Json.{array}
use Rattle.json.specs.Value.{value_view, items_view}
use Rattle.json.proofs.Trees.{view-Array}
use Rattle.section.specs.Members.{list_of}
use Rattle.section.proofs.Lists.{elements_of_view}
use Rattle.section.proofs.unread.list_of.Goals as goal

pub returns-in-Array : goal.returns-in-Array
returns-in-Array c =
    let list = c.in-Array.list in
    let seen : value_view c.args.value.now ≡ array (items_view list.items) = ap value_view c.in-Array.is ∙ view-Array list in
    ap (map value_view) c.as_slice.ensures.value ∙ sym (elements_of_view list.items) ∙ ap list_of (sym seen)
