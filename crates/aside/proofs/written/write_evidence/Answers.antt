use Rattle.std.proofs.Common.{◌⊎◌, List, subst, ap, ◌∙◌}
use Rattle.maker.specs.declared.evidence.evidence.Evidence.{Evidence}
use Rattle.maker.specs.Exported.{LacksMemory}
use Rattle.maker.specs.Told.{IsWritten}
use Rattle.compare.specs.declared.behind_runc.stub.calls.Calls.{Calls}
use Rattle.aside.specs.Judged.{IsJudgedBut}
use Rattle.aside.specs.Told.{but_text}
use Rattle.aside.proofs.AsideLaws.{judged_as}
use Rattle.aside.proofs.ToldLaws.{record_told, yes_told}
use Rattle.aside.proofs.written.write_evidence.Goals as goal

pub returns-in-Certificate-clause-but : goal.returns-in-Certificate-clause-but
returns-in-Certificate-clause-but g c = λ native bundle filter answered is judged.
    let but = c.args.but.now in
    yes_told g.S.Sink.held g.S.Sink.failures c.args.sink.now c.write_yes.new.sink native c.write_yes.result bundle filter answered
    but.aside.items c.args.family is
    (subst (λ (e : Evidence). IsJudgedBut native bundle filter answered but.aside.items (judged_as e)) c.in-Certificate.is judged)
    (subst (λ (a : List Calls). IsWritten g.S.Sink.held g.S.Sink.failures c.args.sink.now c.write_yes.new.sink (but_text c.args.family a) c.write_yes.result
    ⊎ LacksMemory c.args.sink.now c.write_yes.new.sink c.write_yes.result) c.deref.ensures.value c.write_yes.ensures)

pub returns-in-Refuting-clause-but : goal.returns-in-Refuting-clause-but
returns-in-Refuting-clause-but g c = λ native bundle filter answered is judged.
    let but = c.args.but.now in
    record_told g.S.Sink.held g.S.Sink.failures c.args.sink.now c.write_judged.new.sink native c.write_judged.result bundle filter answered
    but.aside.items c.in-Refuting.field-0
    (subst (λ (e : Evidence). IsJudgedBut native bundle filter answered but.aside.items (judged_as e)) c.in-Refuting.is judged)
    (c.write_judged.ensures.told c.in-Refuting.field-0 (c.requires ∙ ap judged_as c.in-Refuting.is))

pub returns-in-Refuting-clause-told : goal.returns-in-Refuting-clause-told
returns-in-Refuting-clause-told g c = λ found e. c.write_judged.ensures.told found (c.requires ∙ ap judged_as e)
