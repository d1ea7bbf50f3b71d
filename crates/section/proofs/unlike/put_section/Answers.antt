use Rattle.std.proofs.Common.{map, ap}
use Rattle.json.specs.Value.{value_view}
use Rattle.json.specs.Find.{get}
use Rattle.profile_json.specs.Keys as key
use Rattle.section.specs.Members.{list_of}
use Rattle.section.specs.Unlike.{entries_lines, members_of_section}
use Rattle.section.proofs.UnreadLaws.{behind_if, none_behind}
use Rattle.section.proofs.unlike.put_section.Goals as goal

pub returns-in-Some : goal.returns-in-Some
returns-in-Some c =
    let v = value_view c.args.value.now in
    behind_if c.put_entries.result c.args.lines.now.items c.put_section_members.new.lines.items c.put_entries.new.lines.items
    (members_of_section c.args.alone c.args.top.now v) (entries_lines c.args.alone c.args.top.now 0 (map value_view c.list_of.result.now))
    (λ list. entries_lines c.args.alone c.args.top.now 0 (list_of list)) (get key.syscalls v) (value_view c.in-Some.list.now)
    c.in_ok-put_section_members.ensures c.in-Some.ensures (ap (entries_lines c.args.alone c.args.top.now 0) c.list_of.ensures) c.put_entries.ensures

pub returns-in-None : goal.returns-in-None
returns-in-None c =
    let v = value_view c.args.value.now in
    none_behind c.args.lines.now.items c.put_section_members.new.lines.items (members_of_section c.args.alone c.args.top.now v)
    (λ list. entries_lines c.args.alone c.args.top.now 0 (list_of list)) (get key.syscalls v) c.in_ok-put_section_members.ensures c.in-None.ensures
