use Rattle.std.proofs.Common.{◌≡◌, ◌≢◌, ◌<◌, ◌/◌, ◌^◌, bit_and, refl, sym, ap, ◌∙◌, arith}
use Rattle.differ.specs.Asked.{answers, holds, low_answers}
use Rattle.differ.specs.declared.asked.Ask.{Ask}
use Rattle.differ.proofs.AskLaws.{IsLow, masked_low, masked_unmet, order_known, order_low, skipped_is}
use Rattle.profile.specs.declared.conditions.Op.TheVariants.{MaskedEq}
use Rattle.differ.proofs.asked.answer_with.Goals as goal

pub returns-then-ask-place : goal.returns-then-ask-place
returns-then-ask-place c = λ u small. skipped_is c.args.ask c.args.place c.args.bit u (omega arith)

pub returns-then-bit-high : goal.returns-then-bit-high
returns-then-bit-high c = λ u small.
    masked_unmet c.args.ask c.args.place c.args.bit u (omega arith) c.requires.is_bit small (c.is_masked.ensures.0 c.if-is_masked.true) (c.if-bit-high.true)

pub returns-then-is_masked : goal.returns-then-is_masked
returns-then-is_masked c = λ u small.
    let low : Ask = record { op = c.args.ask.op; value = c.low_bits.result; datum = c.low_bits-2.result; read = c.args.place } in
    let is : IsLow c.args.ask low c.args.place = record { op = refl; value = c.low_bits.ensures; datum = c.low_bits-2.ensures; read = refl } in
    ap (λ x. answers x u) c.part_of.ensures
    ∙ masked_low c.args.ask low c.args.place c.args.bit u is (omega arith) c.requires.is_bit small (c.is_masked.ensures.0 c.if-is_masked.true) (c.if-bit-high.false)

pub returns-then-bit-high-2 : goal.returns-then-bit-high-2
returns-then-bit-high-2 c = λ u small.
    let low : Ask = record { op = c.args.ask.op; value = c.low_bits.result; datum = c.low_bits-2.result; read = c.args.place } in
    let is : IsLow c.args.ask low c.args.place = record { op = refl; value = c.low_bits.ensures; datum = c.low_bits-2.ensures; read = refl } in
    let other : c.args.ask.op ≢ MaskedEq = λ e. (let t = c.is_masked.ensures.1 e in let f = c.if-is_masked.false in cc) in
    ap (λ x. answers x u) c.part_of-then-bit-high-2.ensures
    ∙ order_low c.args.ask low c.args.place c.args.bit u is (omega arith) c.requires.is_bit small other (c.if-bit-high-2.true)

pub returns : goal.returns
returns c = λ u small.
    let other : c.args.ask.op ≢ MaskedEq = λ e. (let t = c.is_masked.ensures.1 e in let f = c.if-is_masked.false in cc) in
    ap (λ x. answers x u) c.by_order.ensures
    ∙ order_known c.args.ask c.args.place c.args.bit u (omega arith) c.requires.is_bit small other (c.if-bit-high-2.false)
