use Rattle.std.proofs.Common.{◌+◌, ◌++◌, List, ap, sym, ◌∙◌, arith}
use Rattle.std.specs.Prelude.{None, Some}
use Rattle.strace_logs.specs.Line.{shown_in}
use Rattle.wording.specs.Lines.{lines_of}
use Rattle.strace_logs.specs.Logged.{Logged, calls_from, calls_of, told_on}
use Rattle.strace_logs.specs.inner.Views.{all_logged}
use Rattle.strace_logs.proofs.LoggedLaws.{calls_step, more_calls}
use Rattle.wording.proofs.Results.{if_ok_equal}
use Rattle.strace_logs.proofs.logged.put_text.Goals as goal

pub line-preserved : goal.line-preserved
line-preserved c = record {
  told =
      let native = c.args.native in
      let log = c.args.log.now in
      let n = c.line.number in
      more_calls (all_logged c.put_line.new.calls.items) (all_logged c.line.calls.items) (told_on (shown_in native c.in-Some.line.now) log n c.in-Some.line.now)
      (calls_from native log n (lines_of c.line.rest.now)) (calls_from native log (n + 1) (lines_of c.in-Some.more.now))
      (all_logged c.args.calls.now.items ++ calls_of native (log, c.args.text.now)) c.in_ok-put_line.ensures
      (calls_step native log n c.line.rest.now (Some (c.in-Some.line, c.in-Some.more)) c.in-Some.ensures.lines) c.line.invariant.told;
  counted =
      omega (arith, c.in-Some.ensures.shorter, c.line.invariant.counted);
}

pub returns : goal.returns
returns c =
    let native = c.args.native in
    let log = c.args.log.now in
    let n = c.line.number in
    if_ok_equal (all_logged c.put_line-2.new.calls.items) (all_logged c.line.calls.items ++ told_on (shown_in native c.line.rest.now) log n c.line.rest.now)
    (all_logged c.args.calls.now.items ++ calls_of native (log, c.args.text.now))
    (ap (λ (l : List Logged). all_logged c.line.calls.items ++ l) (sym (calls_step native log n c.line.rest.now None c.in_default.ensures.lines)) ∙ c.line.invariant.told)
    c.put_line-2.result c.put_line-2.ensures
