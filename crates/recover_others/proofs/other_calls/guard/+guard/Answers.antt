use Rattle.std.proofs.Common.{◌∙◌, ◌+◌, ◌*◌, ◌-◌, ap, arith, drop, length, take}
use Rattle.recover_others.specs.Reason.{ranges}
use Rattle.recover_others.proofs.LimitLaws.{err_more, guard_length, ranges_first}
use Rattle.recover_others.proofs.other_calls.guard.+guard.Goals as goal

pub returns-in-Ok-clause-limit : goal.returns-in-Ok-clause-limit
returns-in-Ok-clause-limit t c =
    let ms = c.args.machines.now in
    let more = take (length ms - 1) (drop 1 ms) in
    let size = ap length c.in-Ok.ensures.made ∙ guard_length more c.args.tail c.args.program.items in
    let first = ap length c.own_numbers.ensures in
    let all = ranges_first ms c.in-len1-up.len_at_least in
    err_more (length c.in-Ok.behind.items + 6 * length c.own_numbers.result.now) (length c.args.program.items + 6 * ranges ms) c.fronts.result
    (omega (arith, size, first, all)) c.fronts.ensures.limit
