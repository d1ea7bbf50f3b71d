use Rattle.differ.proofs.BranchLaws.{branch_cells, err_weaker, full_cause, ok_weaker}
use Rattle.differ.proofs.listed.cells.Goals as goal

pub returns-clause-ok : goal.returns-clause-ok
returns-clause-ok c =
    ok_weaker c.branch-alloc.result _ _ (λ list b. branch_cells c.args.conds.now c.args.bits list.items b) c.branch-alloc.ensures.ok

pub returns-clause-err : goal.returns-clause-err
returns-clause-err c = err_weaker c.branch-alloc.result _ _ (λ e f. full_cause c.args.conds.now c.args.bits e f) c.branch-alloc.ensures.err
