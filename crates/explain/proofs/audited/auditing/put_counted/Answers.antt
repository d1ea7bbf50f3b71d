use Rattle.std.proofs.Common.{◌++◌}
use Rattle.std.specs.Prelude.{codes, string_bytes}
use Rattle.std.specs.Fmt.{decimal}
use Rattle.wording.proofs.Results.{if_ok_equal}
use Rattle.explain.specs.Audit.{answer_line}
use Rattle.explain.specs.inner.Times.{counted_line}
use Rattle.explain.proofs.AuditLaws.{told_two}
use Rattle.explain.proofs.audited.auditing.put_counted.Goals as goal

pub returns : goal.returns
returns c =
    let old = string_bytes c.args.text.now in
    let one = string_bytes c.put_count.new.text in
    let n = c.args.count in
    let answer = c.args.answer in
    if_ok_equal (string_bytes c.put_answer.new.text) (one ++ answer_line answer) (old ++ counted_line n answer)
    (told_two old one (codes "told ") (decimal n) (codes " times, code ") (answer_line answer) c.in_ok-put_count.ensures)
    c.put_answer.result c.put_answer.ensures
