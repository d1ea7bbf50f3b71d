use Rattle.std.proofs.Common.{arith, drop, ◌∙◌}
use Rattle.session.proofs.ResponseLaws.{read_is}
use Rattle.session.proofs.response.responding.Goals as goal

pub returns-then-line-gt-MAX_LINE : goal.returns-then-line-gt-MAX_LINE
returns-then-line-gt-MAX_LINE c = λ call response h. omega (arith, h.short, c.if-line-gt-MAX_LINE.true)

pub returns-in_default : goal.returns-in_default
returns-in_default c = λ call response h. c.in_default.ensures.cases.0 h.utf8

pub returns-in_default-strip_prefix : goal.returns-in_default-strip_prefix
returns-in_default-strip_prefix c = λ call response h. c.in_default-strip_prefix.ensures.cases h.rest (c.in-Ok.ensures.cases.0 ∙ h.begins)

pub returns : goal.returns
returns c =
    read_is c.args.line.now c.in-Ok.text.now (drop c.in-Some.ensures.cases.0 c.in-Ok.text.now) c.ended.result c.in-Ok.ensures.cases.0 c.if-line-gt-MAX_LINE.false c.in-Ok.ensures.cases.1
    c.in-Some.ensures.cases.1.1 c.ended.ensures
