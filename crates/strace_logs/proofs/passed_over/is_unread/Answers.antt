use Rattle.std.proofs.Common.{List, ℕ, ap, sym, ◌∙◌}
use Rattle.strace_logs.specs.Unread.{is_unread_text}
use Rattle.strace_logs.proofs.InLaws.{unread_no_text, unread_text}
use Rattle.strace_logs.proofs.passed_over.is_unread.Goals as goal

pub returns-in-Ok : goal.returns-in-Ok
returns-in-Ok c =
    let native = c.args.native in
    c.is_unread_text.ensures ∙ ap (is_unread_text native) c.in-Ok.ensures.cases.0
    ∙ sym (unread_text native c.args.line.now c.in-Ok.ensures.cases.1)

pub returns-in-Err : goal.returns-in-Err
returns-in-Err c = sym (unread_no_text c.args.native c.args.line.now c.in-Err.ensures.cases.0)
