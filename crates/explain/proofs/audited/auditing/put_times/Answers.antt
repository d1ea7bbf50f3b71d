use Rattle.std.proofs.Common.{ℕ, ◌++◌, ap}
use Rattle.std.specs.Prelude.{string_bytes}
use Rattle.explain.specs.Audit.{times_line}
use Rattle.explain.specs.inner.Times.{counted_line}
use Rattle.wording.proofs.Results.{if_ok_equal}
use Rattle.explain.proofs.audited.auditing.put_times.Goals as goal

pub returns : goal.returns
returns c =
    let answer = c.args.event.now.answer in
    let old = string_bytes c.args.text.now in
    if_ok_equal (string_bytes c.put_counted.new.text) (old ++ counted_line c.count_of.result answer)
    (old ++ times_line c.args.all.now c.args.event.now) (ap (λ (n : ℕ). old ++ counted_line n answer) c.count_of.ensures)
    c.put_counted.result c.put_counted.ensures
