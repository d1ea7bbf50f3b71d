use Rattle.std.proofs.Common.{ℕ, List, subst}
use Rattle.std.specs.List.{All}
use Rattle.call_record.specs.Words.{IsRecord}
use Rattle.strace_logs.specs.Line.{words_of_call}
use Rattle.profile.specs.declared.conditions.Cond.{Cond}
use Rattle.profile.specs.Rule.{Matches}
use Rattle.strace_logs.specs.Taken.{IsWithin}
use Rattle.strace_logs.proofs.GatheredLaws.{for_each}
use Rattle.strace_logs.proofs.judging.is_for_each.Goals as goal

pub returns : goal.returns
returns c = λ it_is.
    let r = words_of_call (c.args.seen.now.arch, c.args.seen.now.nr, c.args.seen.now.values) in
    for_each c.args.seen.now c.args.rule.now (subst IsRecord c.record-record.ensures c.words_are_a_record.ensures)
    (subst (λ (r : List ℕ). Matches c.args.rule.now r) c.record-record.ensures (c.matches.ensures.0 c.if-not-matches.false))
    (subst (λ (conds : List Cond). All (IsWithin c.args.seen.now.bits) conds) c.as_slice.ensures.value (c.are_within.ensures it_is))
