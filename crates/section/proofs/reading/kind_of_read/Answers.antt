use Rattle.std.proofs.Common.{◌≡◌, ◌==◌, length, true, false, rules}
use Rattle.section.proofs.UnlikeLaws.{alike_kind, unlike_kind}
use Rattle.section.proofs.reading.kind_of_read.Goals as goal

pub returns-then-is_empty : goal.returns-then-is_empty
returns-then-is_empty c =
    let none : (length c.in_ok-unlike.unlike.items == 0) ≡ true = search rules in
    alike_kind c.args.bytes.now c.in_ok-unlike.unlike.items c.in_ok-unlike.ensures none c.kind_of_alike.result c.kind_of_alike.ensures

pub returns : goal.returns
returns c =
    let some : (length c.in_ok-unlike.unlike.items == 0) ≡ false = search rules in
    unlike_kind c.args.bytes.now c.in_ok-unlike.unlike.items c.in_ok-unlike.ensures some
