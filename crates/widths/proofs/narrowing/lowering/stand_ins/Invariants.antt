use Rattle.std.proofs.Common.{take}
use Rattle.std.specs.List.{AllZip}
use Rattle.machines.specs.Arch.{token_of}
use Rattle.widths.specs.Lowered.{StandsFor}
use Rattle.widths.proofs.narrowing.lowering.stand_ins.Given as goal

abbrev pub invariant-loop-cond : goal.invariant-loop-cond
invariant-loop-cond l = AllZip (StandsFor (token_of l.rule.arch) l.rule.nr) l.lower.items (take l.cond-index l.rule.conds.items)
