use Rattle.std.specs.Prelude.{codes}
use Rattle.json.specs.Value.{value_view}
use Rattle.section.specs.Unread.{object_lines, others_lines, told_keys}
use Rattle.section.proofs.UnreadLaws.{both_behind}
use Rattle.section.proofs.unread.put_members.Goals as goal

pub returns : goal.returns
returns c =
    let v = value_view c.args.value.now in
    both_behind c.put_others.result c.args.lines.now.items c.put_object.new.lines.items c.put_others.new.lines.items
    (object_lines told_keys (codes "linux.seccomp.") v) (others_lines v) c.in_ok-put_object.ensures c.put_others.ensures
