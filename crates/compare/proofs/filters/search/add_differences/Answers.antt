use Rattle.kernel_check.specs.Lent.{accepted_insns}
use Rattle.compare.proofs.filters.search.add_differences.Goals as goal

pub loop-number-preserved : goal.loop-number-preserved
loop-number-preserved c =
    c.in_ok-add.ensures c.args.family (accepted_insns c.args.old.now) (accepted_insns c.args.new.now) c.in_ok-searched.ensures c.loop-number.invariant
