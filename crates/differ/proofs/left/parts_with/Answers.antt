use Rattle.std.proofs.Common.{List, arith}
use Rattle.differ.specs.declared.left.Part.{Part}
use Rattle.differ.proofs.LeftLaws.{met_kept, met_none_at}
use Rattle.differ.proofs.left.parts_with.Goals as goal

pub returns-then-not-branch-clause-none : goal.returns-then-not-branch-clause-none
returns-then-not-branch-clause-none c = λ a b r.
    let parts : List Part = c.args.parts.now in
    met_none_at parts c.loop-part.part-index b (omega arith) _ (c.in_ok-add_part.ensures.closed a b r c.if-not-branch.true)

pub loop-part-preserved : goal.loop-part-preserved
loop-part-preserved c = λ a b r.
    let parts : List Part = c.args.parts.now in
    met_kept parts c.loop-part.part-index b _ _ (omega arith) _ (c.in_ok-add_part.ensures.open a b r c.if-not-branch.false)
    (c.loop-part.invariant a b r)
