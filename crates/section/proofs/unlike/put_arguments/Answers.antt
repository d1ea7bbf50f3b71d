use Rattle.std.proofs.Common.{refl}
use Rattle.section.specs.Unread.{argument_keys}
use Rattle.section.specs.Unlike.{argument_place, arguments_lines, object_lines}
use Rattle.section.proofs.UnlikeLaws.{one_more}
use Rattle.section.proofs.unlike.put_arguments.Goals as goal

pub loop-at-preserved : goal.loop-at-preserved
loop-at-preserved c =
    let top = c.args.top.now in
    let entry = c.args.entry in
    one_more (λ n j. object_lines argument_keys (argument_place top entry n) j) (arguments_lines top entry) (λ n j js. refl)
    c.loop-at.lines.items c.put_argument.new.lines.items _ c.args.values.now c.loop-at.at c.index-values-at.result
    c.loop-at-test.true c.index-values-at.is c.in_ok-put_argument.ensures c.loop-at.invariant
