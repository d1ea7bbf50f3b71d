use Rattle.std.proofs.Common.{◌++◌, ◌∙◌, map, ap}
use Rattle.json.specs.Value.{value_view}
use Rattle.json.specs.Find.{get}
use Rattle.profile_json.specs.Keys as key
use Rattle.section.specs.Members.{list_of}
use Rattle.section.specs.Unread.{arguments_lines, entry_keys, entry_place, object_lines}
use Rattle.section.proofs.UnreadLaws.{behind_if, none_behind}
use Rattle.section.proofs.unread.put_entry.Goals as goal

pub returns-in-Some : goal.returns-in-Some
returns-in-Some c =
    let v = value_view c.args.value.now in
    let old = c.args.lines.now.items in
    let entry = c.args.entry in
    behind_if c.put_arguments.result old c.put_object.new.lines.items c.put_arguments.new.lines.items
    (object_lines entry_keys (entry_place entry) v) (arguments_lines entry 0 (map value_view c.list_of.result.now))
    (λ list. arguments_lines entry 0 (list_of list)) (get key.args v) (value_view c.in-Some.list.now)
    (c.in_ok-put_object.ensures ∙ ap (λ p. old ++ object_lines entry_keys p v) (c.deref.ensures ∙ c.in_ok-place.ensures))
    c.in-Some.ensures (ap (arguments_lines entry 0) c.list_of.ensures) c.put_arguments.ensures

pub returns : goal.returns
returns c =
    let v = value_view c.args.value.now in
    let old = c.args.lines.now.items in
    let entry = c.args.entry in
    none_behind old c.put_object.new.lines.items (object_lines entry_keys (entry_place entry) v)
    (λ list. arguments_lines entry 0 (list_of list)) (get key.args v)
    (c.in_ok-put_object.ensures ∙ ap (λ p. old ++ object_lines entry_keys p v) (c.deref.ensures ∙ c.in_ok-place.ensures))
    c.in-None.ensures
