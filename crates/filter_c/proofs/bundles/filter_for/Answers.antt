use Rattle.std.proofs.Common.{◌≡◌, ap, ◌∙◌, sym, refl, subst, Ok, take, length, []}
use Rattle.filter_c.specs.Answer.{IsFilterOf, IsRefusalOf}
use Rattle.filter_c.proofs.AnswerLaws.{is_export, is_filter, is_refusal}
use Rattle.filter_c.proofs.bundles.filter_for.Goals as goal

pub returns-then-is_made-clause-made : goal.returns-then-is_made-clause-made
returns-then-is_made-clause-made c = λ zero.
    let items = c.export_text.new.sink.writer.items in
    let copied : take c.written.new.count c.written.new.out ≡ items = let a = c.written.ensures.put c.if-not-written.false in
    let b = c.deref.ensures.value in cc in
    subst (IsFilterOf c.args.native c.args.bundle.now) (sym copied)
    (is_filter _ _ c.new-sink.result c.export_text.new.sink c.args.native c.args.bundle.now [] [] items c.export_text.result
    c.export_text.ensures (c.in-Ok.is ∙ ap Ok c.if-is_made.true) (let a = c.new-sink.ensures.writer in let b = c.new.ensures.items in cc) refl)

pub returns-clause-refused : goal.returns-clause-refused
returns-clause-refused c = λ one.
    let items = c.export_text.new.sink.writer.items in
    let copied : take c.written.new.count c.written.new.out ≡ items = let a = c.written.ensures.put c.if-not-written.false in
    let b = c.deref.ensures.value in cc in
    subst (IsRefusalOf c.args.native c.args.bundle.now) (sym copied)
    (is_refusal _ _ c.new-sink.result c.export_text.new.sink c.args.native c.args.bundle.now [] [] items c.export_text.result
    c.export_text.ensures (c.in-Ok.is ∙ ap Ok c.if-is_made.false) (let a = c.new-sink.ensures.writer in let b = c.new.ensures.items in cc) refl)

pub returns-then-not-written-clause-room : goal.returns-then-not-written-clause-room
returns-then-not-written-clause-room c = λ two.
    let items = c.export_text.new.sink.writer.items in record {
      answer = items;
      is = is_export _ _ c.new-sink.result c.export_text.new.sink c.args.native c.args.bundle.now [] [] items c.in-Ok.is_made
          c.export_text.result c.export_text.ensures c.in-Ok.is
          (let a = c.new-sink.ensures.writer in let b = c.new.ensures.items in cc) refl;
      counted = c.written.ensures.counted ∙ ap length c.deref.ensures.value;
      longer = c.written.ensures.room c.if-not-written.true;
    }
