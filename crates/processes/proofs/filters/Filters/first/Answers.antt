use Rattle.std.proofs.Common.{◌≤◌, length, arith}
use Rattle.kernel_check.specs.Lent.{accepted_insns}
use Rattle.processes.proofs.filters.Filters.first.Goals as goal

pub in_front_of-requires : goal.in_front_of-requires
unfolding accepted_insns
in_front_of-requires c =
    let short : length (accepted_insns c.args.program.now) ≤ 4096 = c.args.program.now.accepted.limit in
    omega arith
