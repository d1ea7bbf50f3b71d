use Rattle.call_record.specs.Record.{words}
use Rattle.compare.proofs.BehindLaws.{is_told, not_told, other_than, passed, stopped}
use Rattle.compare.proofs.behind_runc.judged.of_whole.Goals as goal

pub returns-then-not-is_answered : goal.returns-then-not-is_answered
returns-then-not-is_answered c = λ native bundle filter behind evidence.
    passed native bundle filter c.args.behind.now.rest.now c.args.behind.now.answered.items c.args.found.now c.words_are_a_record.ensures
    behind
    (not_told c.args.behind.now.answered.items c.deref.result.now (words c.args.found.now.call) c.is_answered.result c.is_answered.ensures
    c.deref.ensures.value c.if-not-is_answered.true)
    evidence

pub returns : goal.returns
returns c = λ native bundle filter behind evidence.
    stopped native bundle filter c.args.behind.now.rest.now c.args.behind.now.answered.items c.args.found.now c.words_are_a_record.ensures
    behind
    (is_told c.args.behind.now.answered.items c.deref.result.now (words c.args.found.now.call) c.is_answered.result c.is_answered.ensures
    c.deref.ensures.value c.if-not-is_answered.false)
    (other_than c.args.found.now.said c.eq.result c.eq.ensures c.if-eq.false)
    evidence
