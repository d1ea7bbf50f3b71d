use Rattle.std.proofs.Common.{take}
use Rattle.std.specs.Prelude.{slice_index}
use Rattle.std.specs.List.{All}
use Rattle.widths.specs.Cutting.{SuitsAt}
use Rattle.widths.proofs.narrowing.suiting.suit_call.Given as goal

abbrev pub invariant-loop-cond : goal.invariant-loop-cond
invariant-loop-cond l = All (λ c. SuitsAt l.token l.nr (slice_index l.plan c.index) c) (take l.cond-index l.conds)
