use Rattle.std.proofs.Common.{arith, ap, ◌∙◌, sym, ◌∷◌, ◌+◌, ◌-◌, ◌/◌, length, slice_set}
use Rattle.std.proofs.lemmas.List.{length-set}
use Rattle.cert_state.specs.declared.literal.AVal.TheVariants.{Unknown}
use Rattle.cert_form.specs.Reading.{scratch_from, value_at}
use Rattle.cert_form.proofs.ReadLaws.{ones_step, stated_step, unstated_step, one_more, all_read}
use Rattle.cert_form.proofs.part.read_scratch.Goals as goal
use Rattle.cert_form.proofs.part.read_scratch.Goals.{then-left-eq1, else-left-eq1}

pub read_value-requires : goal.read_value-requires
read_value-requires c =
    omega (arith, ones_step c.loop-slot.left c.loop-slot.slot c.loop-slot-test.true, c.loop-slot.invariant.there, c.if-left-eq1.true)

pub loop-slot-preserved : goal.loop-slot-preserved
loop-slot-preserved c = elim c.if-left-eq1.branch [
  | then-left-eq1 w ↦ record {
    same = one_more c.loop-slot.scratch c.if-left-eq1.scratch
        (value_at c.args.bytes.now c.loop-slot.at) _ _ c.args.bytes.now c.loop-slot.at c.loop-slot.left c.loop-slot.slot
        (omega (arith, c.loop-slot-test.true, c.loop-slot.invariant.sixteen))
        (w.scratch-is ∙ ap (λ v. slice_set c.loop-slot.scratch c.loop-slot.slot v) w.read_value.ensures)
        (stated_step c.args.bytes.now c.loop-slot.at c.loop-slot.left c.loop-slot.slot c.loop-slot-test.true w.if-left-eq1.true
        ∙ ap (λ next. value_at c.args.bytes.now c.loop-slot.at ∷ scratch_from c.args.bytes.now next (c.loop-slot.left / 2)
        (16 - (c.loop-slot.slot + 1))) (sym w.at-is))
        c.loop-slot.invariant.same;
    there = omega (
      arith,
      ones_step c.loop-slot.left c.loop-slot.slot c.loop-slot-test.true,
      c.loop-slot.invariant.there,
      w.if-left-eq1.true,
      w.at-is,
    );
    sixteen = ap length w.scratch-is ∙ (length-set c.loop-slot.scratch c.loop-slot.slot w.read_value.result
        ∙ c.loop-slot.invariant.sixteen);
  }
  | else-left-eq1 w ↦ record {
    same = one_more c.loop-slot.scratch c.if-left-eq1.scratch Unknown _ _ c.args.bytes.now c.loop-slot.at c.loop-slot.left c.loop-slot.slot
        (omega (arith, c.loop-slot-test.true, c.loop-slot.invariant.sixteen))
        w.scratch-is
        (unstated_step c.args.bytes.now c.loop-slot.at c.loop-slot.left c.loop-slot.slot c.loop-slot-test.true w.if-left-eq1.false
        ∙ ap (λ next. Unknown ∷ scratch_from c.args.bytes.now next (c.loop-slot.left / 2) (16 - (c.loop-slot.slot + 1))) (sym w.at-is))
        c.loop-slot.invariant.same;
    there = omega (
      arith,
      ones_step c.loop-slot.left c.loop-slot.slot c.loop-slot-test.true,
      c.loop-slot.invariant.there,
      w.if-left-eq1.false,
      w.at-is,
    );
    sixteen = ap length w.scratch-is ∙ (length-set c.loop-slot.scratch c.loop-slot.slot Unknown ∙ c.loop-slot.invariant.sixteen);
  }
]

pub returns : goal.returns
returns c = all_read _ _ c.args.bytes.now c.loop-slot.at c.loop-slot.left c.loop-slot.slot
    (omega (arith, c.loop-slot-test.false)) c.loop-slot.invariant.sixteen c.loop-slot.invariant.same

pub returns-then-bits-eq0 : goal.returns-then-bits-eq0
unfolding scratch_from
returns-then-bits-eq0 c = ap (λ b. scratch_from c.args.bytes.now c.args.from b 16) (sym c.if-bits-eq0.true)
