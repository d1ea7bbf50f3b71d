use Rattle.std.proofs.Common.{List, ℕ, []}
use Rattle.json.specs.Value.{value_view}
use Rattle.section.specs.Members.{keys_of}
use Rattle.section.specs.Unread.{bundle_keys}
use Rattle.section.specs.Unlike.{beside_linux, known_of_section, object_lines, present_lines}
use Rattle.section.proofs.UnreadLaws.{both_behind}
use Rattle.section.proofs.unlike.put_config_members.Goals as goal

pub returns : goal.returns
returns c =
    let v = value_view c.args.value.now in
    let place : List ℕ = [] in
    both_behind c.put_present.result c.args.lines.now.items c.put_object.new.lines.items c.put_present.new.lines.items
    (object_lines bundle_keys place v) (present_lines beside_linux known_of_section place (keys_of v)) c.in_ok-put_object.ensures c.put_present.ensures
