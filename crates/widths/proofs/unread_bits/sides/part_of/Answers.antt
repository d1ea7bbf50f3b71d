use Rattle.std.proofs.Common.{ap, sym}
use Rattle.profile.specs.Said.{compares}
use Rattle.widths.proofs.unread_bits.sides.part_of.Goals as goal

pub returns : goal.returns
returns c = λ a b read.
    ap (compares c.args.cond.now.op c.args.cond.now.value c.args.cond.now.datum) (sym (read c.args.cond.now.index c.args.cond.now.in_range))
