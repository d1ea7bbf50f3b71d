use Rattle.std.proofs.Common.{sym, ap, ◌∙◌}
use Rattle.strace_logs.specs.Line.{call_on}
use Rattle.strace_logs.proofs.InLaws.{in_no_text, in_text}
use Rattle.strace_logs.proofs.strace.line.call_in.Goals as goal

pub returns-in-Ok : goal.returns-in-Ok
returns-in-Ok c =
    c.call_on.ensures ∙ ap (call_on c.args.native) c.in-Ok.ensures.cases.0 ∙ sym (in_text c.args.native c.args.line.now c.in-Ok.ensures.cases.1)

pub returns-in-Err : goal.returns-in-Err
returns-in-Err c = sym (in_no_text c.args.native c.args.line.now c.in-Err.ensures.cases.0)
