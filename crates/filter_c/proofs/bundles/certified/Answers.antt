use Rattle.std.proofs.Common.{◌≡◌, ap, ◌∙◌, sym, refl, subst, Ok, take, length, [], List, ℕ}
use Rattle.maker.specs.Finding.{IsFinding}
use Rattle.maker.specs.declared.check.Finding.TheVariants.{Yes}
use Rattle.filter_c.specs.Answer.{IsNoCertificateOf}
use Rattle.filter_c.proofs.AnswerLaws.{is_certificate, is_certified, is_none}
use Rattle.filter_c.proofs.bundles.certified.Goals as goal

pub returns-then-is_made-clause-made : goal.returns-then-is_made-clause-made
returns-then-is_made-clause-made c = λ zero.
    let items = c.certify_text.new.sink.writer.items in
    let copied : take c.written.new.count c.written.new.out ≡ items = let a = c.written.ensures.put c.if-not-written.false in
    let b = c.deref.ensures.value in cc in
    subst (λ (cert : List ℕ). IsFinding c.args.native c.args.bundle.now c.args.filter.now cert Yes) (sym copied)
    (is_certificate _ _ c.new-sink.result c.certify_text.new.sink c.args.native c.args.bundle.now c.args.filter.now [] items
    c.certify_text.result c.certify_text.ensures (c.in-Ok.is ∙ ap Ok c.if-is_made.true)
    (let a = c.new-sink.ensures.writer in let b = c.new.ensures.items in cc) refl)

pub returns-clause-other : goal.returns-clause-other
returns-clause-other c = λ one.
    let items = c.certify_text.new.sink.writer.items in
    let copied : take c.written.new.count c.written.new.out ≡ items = let a = c.written.ensures.put c.if-not-written.false in
    let b = c.deref.ensures.value in cc in
    subst (IsNoCertificateOf c.args.native c.args.bundle.now c.args.filter.now) (sym copied)
    (is_none _ _ c.new-sink.result c.certify_text.new.sink c.args.native c.args.bundle.now c.args.filter.now [] items
    c.certify_text.result c.certify_text.ensures (c.in-Ok.is ∙ ap Ok c.if-is_made.false)
    (let a = c.new-sink.ensures.writer in let b = c.new.ensures.items in cc) refl)

pub returns-then-not-written-clause-room : goal.returns-then-not-written-clause-room
returns-then-not-written-clause-room c = λ two.
    let items = c.certify_text.new.sink.writer.items in record {
      answer = items;
      is = is_certified _ _ c.new-sink.result c.certify_text.new.sink c.args.native c.args.bundle.now c.args.filter.now [] items c.in-Ok.is_made
          c.certify_text.result c.certify_text.ensures c.in-Ok.is
          (let a = c.new-sink.ensures.writer in let b = c.new.ensures.items in cc) refl;
      counted = c.written.ensures.counted ∙ ap length c.deref.ensures.value;
      longer = c.written.ensures.room c.if-not-written.true;
    }
