use Rattle.std.proofs.Common.{◌∙◌, ◌+◌, ◌*◌, ◌-◌, ap, arith, drop, length, take}
use Rattle.recover_others.proofs.LimitLaws.{err_more, fronts_length, rest_length}
use Rattle.recover_others.proofs.other_calls.guard.+fronts.Goals as goal

pub returns-in-Ok-clause-limit : goal.returns-in-Ok-clause-limit
returns-in-Ok-clause-limit t c =
    let ns = c.args.numbers.now in
    let more = take (length ns - 1) (drop 1 ns) in
    let size = ap length (c.deref.ensures.value ∙ c.in-Ok.ensures.made) ∙ fronts_length c.args.token more c.args.tail c.args.program.items in
    let left = rest_length ns c.in-len1-up.len_at_least in
    err_more (length c.deref.result.now) (length c.args.program.items + 6 * length ns) c.before-in-Ok.result (omega (arith, size, left))
    c.before-in-Ok.ensures.limit
