use Rattle.std.proofs.Common.{◌++◌, ◌∙◌, map, ap}
use Rattle.json.specs.Value.{value_view}
use Rattle.json.specs.Find.{get}
use Rattle.profile_json.specs.Keys as key
use Rattle.section.specs.Members.{list_of}
use Rattle.section.specs.Unlike.{arguments_lines, entry_place, members_of_entry}
use Rattle.section.proofs.UnreadLaws.{behind_if, none_behind}
use Rattle.section.proofs.unlike.put_entry.Goals as goal

pub returns-in-Some : goal.returns-in-Some
returns-in-Some c =
    let v = value_view c.args.value.now in
    let old = c.args.lines.now.items in
    let entry = c.args.entry in
    let top = c.args.top.now in
    behind_if c.put_arguments.result old c.put_entry_members.new.lines.items c.put_arguments.new.lines.items
    (members_of_entry c.args.alone (entry_place top entry) v) (arguments_lines top entry 0 (map value_view c.list_of.result.now))
    (λ list. arguments_lines top entry 0 (list_of list)) (get key.args v) (value_view c.in-Some.list.now)
    (c.in_ok-put_entry_members.ensures ∙ ap (λ p. old ++ members_of_entry c.args.alone p v) (c.deref.ensures ∙ c.in_ok-place.ensures))
    c.in-Some.ensures (ap (arguments_lines top entry 0) c.list_of.ensures) c.put_arguments.ensures

pub returns : goal.returns
returns c =
    let v = value_view c.args.value.now in
    let old = c.args.lines.now.items in
    let entry = c.args.entry in
    let top = c.args.top.now in
    none_behind old c.put_entry_members.new.lines.items (members_of_entry c.args.alone (entry_place top entry) v)
    (λ list. arguments_lines top entry 0 (list_of list)) (get key.args v)
    (c.in_ok-put_entry_members.ensures ∙ ap (λ p. old ++ members_of_entry c.args.alone p v) (c.deref.ensures ∙ c.in_ok-place.ensures))
    c.in-None.ensures
