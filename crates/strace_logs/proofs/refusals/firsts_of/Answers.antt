use Rattle.std.proofs.Common.{◌<◌, ℕ, length, subst, sym, take}
use Rattle.std.proofs.lemmas.List.{get_or-map, length-map}
use Rattle.strace_logs.specs.inner.Views.{all_refused, refused}
use Rattle.strace_logs.proofs.RefusedLaws.{next_alike, next_left}
use Rattle.strace_logs.proofs.refusals.firsts_of.Goals as goal

pub loop-call-preserved : goal.loop-call-preserved
loop-call-preserved c =
    let calls = c.args.calls.now in
    let i = c.loop-call.call-index in
    let xs = all_refused calls in
    let below : i < length xs = subst (λ (n : ℕ). i < n) (sym (length-map calls refused)) c.loop-call-test.true in
    let next = c.in_ok-put_first.ensures (take i xs) c.loop-call.invariant.alike in
    record {
      left = next_left xs i _ _ _ _ below (sym (get_or-map refused calls i _ _ c.loop-call-test.true)) next c.loop-call.invariant.left;
      alike = next_alike xs i _ _ _ below (sym (get_or-map refused calls i _ _ c.loop-call-test.true)) next;
    }
