use Rattle.std.proofs.Common.{◌∙◌, ◌+◌, ◌*◌, ap, arith, length}
use Rattle.recover_others.specs.Reason.{made_length, ranges}
use Rattle.recover_others.proofs.LimitLaws.{base_length, err_more}
use Rattle.recover_others.proofs.other_calls.made.made_of.Goals as goal

pub returns-clause-limit : goal.returns-clause-limit
returns-clause-limit c =
    let ms = c.args.machines.now in
    let p = c.args.program.now in
    let size = ap length c.in-Ok.ensures ∙ base_length p in
    err_more (length c.in-Ok.base.items + 6 * ranges ms) (made_length ms p) c.guard.result (omega (arith, size)) c.guard.ensures.limit
