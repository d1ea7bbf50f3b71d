use Rattle.std.proofs.Common.{◌≡◌, map, sym, ap, ◌∙◌}
use Rattle.json.specs.Json.{object}
use Rattle.json.specs.Value.{value_view, members_view}
use Rattle.json.proofs.Trees.{view-Object}
use Rattle.section.specs.Members.{keys_of}
use Rattle.section.proofs.Lists.{keys_of_view}
use Rattle.section.proofs.unread.members_of.Goals as goal

pub returns-in-Object : goal.returns-in-Object
returns-in-Object c =
    let members = c.in-Object.members in
    let seen : value_view c.args.value.now ≡ object (members_view members.items) = ap value_view c.in-Object.is ∙ view-Object members in
    ap (map (λ m. m.0.now)) c.as_slice.ensures.value ∙ sym (keys_of_view members.items) ∙ ap keys_of (sym seen)
