use Rattle.std.proofs.Common.{arith}
use Rattle.std.proofs.lemmas.Nat.{pow_below}
use Rattle.widths.proofs.narrowing.patterns.turn_at.Goals as goal

pub overflow_sub-mask : goal.overflow_sub-mask
overflow_sub-mask c =
    let less = pow_below c.args.place c.args.bits c.requires.within in omega (arith, less, c.power_of_two-power.ensures, c.power_of_two.ensures)
