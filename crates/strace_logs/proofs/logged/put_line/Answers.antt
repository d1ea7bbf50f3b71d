use Rattle.std.proofs.Common.{◌++◌, append-nil, refl, sym}
use Rattle.strace_logs.specs.Line.{shown_in, shown_on}
use Rattle.strace_logs.specs.Logged.{told_on}
use Rattle.strace_logs.specs.inner.Views.{all_logged}
use Rattle.strace_logs.proofs.InLaws.{shown_no_text, shown_text}
use Rattle.wording.proofs.Results.{if_ok_equal}
use Rattle.strace_logs.proofs.logged.put_line.Goals as goal

pub returns-in-Ok : goal.returns-in-Ok
returns-in-Ok c =
    let native = c.args.native in
    let line = c.args.line.now in
    let old = all_logged c.args.calls.now.items in
    let same = c.in-Ok.ensures.cases.0 in
    let whole = shown_text native line c.in-Ok.ensures.cases.1 in
    if_ok_equal (all_logged c.put_text_line.new.calls.items)
    (old ++ told_on (shown_on native c.in-Ok.text.now) c.args.log.now c.args.number c.in-Ok.text.now)
    (old ++ told_on (shown_in native line) c.args.log.now c.args.number line)
    (rw (same, whole) refl) c.put_text_line.result c.put_text_line.ensures

pub returns-in-Err : goal.returns-in-Err
returns-in-Err c = rw (shown_no_text c.args.native c.args.line.now c.in-Err.ensures.cases.0) (sym (append-nil (all_logged c.args.calls.now.items)))
