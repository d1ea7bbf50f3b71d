use Rattle.std.proofs.Common.{◌≡◌, ap, ◌∙◌, sym, refl, subst, Ok, take, length, []}
use Rattle.filter_c.specs.Answer.{IsNoOf}
use Rattle.filter_c.proofs.AnswerLaws.{is_no, is_yes_found}
use Rattle.filter_c.proofs.bundles.found.Goals as goal

pub returns-then-is_yes-clause-yes : goal.returns-then-is_yes-clause-yes
returns-then-is_yes-clause-yes c = λ zero.
    is_yes_found _ _ c.new-sink.result c.check_text.new.sink c.args.native c.args.bundle.now c.args.filter.now c.args.cert.now []
    c.check_text.result c.check_text.ensures (c.in-Ok.is ∙ ap Ok c.if-is_yes.true)

pub returns-clause-no : goal.returns-clause-no
returns-clause-no c = λ one.
    let items = c.check_text.new.sink.writer.items in
    let copied : take c.written.new.count c.written.new.out ≡ items = let a = c.written.ensures.put c.if-not-written.false in
    let b = c.deref.ensures.value in cc in
    subst (IsNoOf c.args.native c.args.bundle.now c.args.filter.now c.args.cert.now) (sym copied)
    (is_no _ _ c.new-sink.result c.check_text.new.sink c.args.native c.args.bundle.now c.args.filter.now c.args.cert.now items
    c.check_text.result c.check_text.ensures (c.in-Ok.is ∙ ap Ok c.if-is_yes.false)
    (let a = c.new-sink.ensures.writer in let b = c.new.ensures.items in cc) refl)

pub returns-then-not-written-clause-room : goal.returns-then-not-written-clause-room
returns-then-not-written-clause-room c = λ two.
    let items = c.check_text.new.sink.writer.items in record {
      answer = items;
      is = is_no _ _ c.new-sink.result c.check_text.new.sink c.args.native c.args.bundle.now c.args.filter.now c.args.cert.now items
          c.check_text.result c.check_text.ensures (c.in-Ok.is ∙ ap Ok c.if-is_yes.false)
          (let a = c.new-sink.ensures.writer in let b = c.new.ensures.items in cc) refl;
      counted = c.written.ensures.counted ∙ ap length c.deref.ensures.value;
      longer = c.written.ensures.room c.if-not-written.true;
    }
