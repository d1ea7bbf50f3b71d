use Rattle.std.proofs.Common.{◌∙◌, sym, ap, arith, map}
use Rattle.script.specs.inner.Reading.{command_from}
use Rattle.script.proofs.LineLaws.{line_read, no_command}
use Rattle.script.proofs.reading.read_line.Goals as goal

pub returns-then-line-gt-MAX_LINE : goal.returns-then-line-gt-MAX_LINE
returns-then-line-gt-MAX_LINE c = λ command h. omega (arith, h.short, c.if-line-gt-MAX_LINE.true)

pub returns-in_default : goal.returns-in_default
returns-in_default c = λ command h. c.in_default.ensures.cases.0 h.utf8

pub returns-in_default-fields_in : goal.returns-in_default-fields_in
returns-in_default-fields_in c =
    no_command c.args.native c.in-Ok.text.now c.args.line.now c.in-Ok.ensures.cases.0 (sym c.in_default-fields_in.ensures)

pub returns : goal.returns
returns c =
    line_read c.args.native c.in-Ok.text.now c.args.line.now (map (λ f. f.now) c.in-Some.fields.items) _ c.in-Ok.ensures.cases.0
    c.if-line-gt-MAX_LINE.false c.in-Ok.ensures.cases.1 (sym c.in-Some.ensures)
    (c.request.ensures ∙ ap (λ fs. command_from c.args.native (map (λ f. f.now) fs)) c.deref.ensures.0)
