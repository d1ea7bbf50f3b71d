use Rattle.std.proofs.Common.{◌++◌, ap, ◌∙◌}
use Rattle.std.specs.Prelude.{ℕ, count_by, string_bytes}
use Rattle.strace_logs.specs.Replayed.{call_text, is_alike, place_text, refusal_text, times_text, why_text}
use Rattle.strace_logs.specs.inner.Views.{all_refused, refused}
use Rattle.strace_logs.proofs.RefusedLaws.{told_four}
use Rattle.wording.proofs.Results.{if_ok_equal}
use Rattle.strace_logs.proofs.refusals.put_refusal.Goals as goal

pub returns : goal.returns
returns c =
    let x = refused c.args.first.now in
    let old = string_bytes c.args.text.now in
    let n = count_by (is_alike x) (all_refused c.args.calls.now) in
    if_ok_equal (string_bytes c.put_place.new.text) (string_bytes c.put_times.new.text ++ place_text x) (old ++ refusal_text (all_refused c.args.calls.now) x)
    (told_four old (string_bytes c.put_call.new.text) (string_bytes c.put_why.new.text) (string_bytes c.put_times.new.text) (call_text x) (why_text x.why)
    (times_text n) (place_text x) c.in_ok-put_call.ensures c.in_ok-put_why.ensures
    (c.in_ok-put_times.ensures ∙ ap (λ (k : ℕ). string_bytes c.put_why.new.text ++ times_text k) c.count_of.ensures))
    c.put_place.result c.put_place.ensures
