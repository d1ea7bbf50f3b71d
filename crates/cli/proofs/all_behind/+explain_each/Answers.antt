use Rattle.std.proofs.Common.{◌-◌, drop, length, take}
use Rattle.cli.proofs.AllBehindLaws.{each_told, parts}
use Rattle.cli.proofs.all_behind.+explain_each.Goals as goal

pub returns-in-len1-up : goal.returns-in-len1-up
returns-in-len1-up g t c =
    each_told g.E.Sink.held g.E.Sink.failures c.args.document.now.native c.args.document.now.bytes c.args.all.now
    (take (length c.args.all.now - 1) (drop 1 c.args.all.now))
    c.found-item.result c.args.err.now c.tell_why.new.err c.explain_each.new.err
    (parts c.args.all.now c.found-item.result c.in-len1-up.len_at_least c.found-item.is)
    c.tell_why.ensures c.explain_each.ensures
