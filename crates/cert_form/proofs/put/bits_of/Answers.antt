use Rattle.std.proofs.Common.{◌-◌, ◌+◌, arith}
use Rattle.cert_state.specs.declared.literal.AVal.TheVariants.{Unknown}
use Rattle.cert_form.proofs.ScratchLaws.{one_bit_more, bits_fit}
use Rattle.cert_form.proofs.put.bits_of.Goals as goal

pub overflow_mul-bits : goal.overflow_mul-bits
overflow_mul-bits c =
    let vs = c.args.scratch.now in
    omega (
      arith,
      one_bit_more vs c.loop-i.i Unknown c.told-scratch c.loop-i-test.true,
      bits_fit vs (16 - (c.loop-i.i + 1)) c.told-scratch,
      c.loop-i.invariant,
    )

pub overflow_add-bits : goal.overflow_add-bits
overflow_add-bits c =
    let vs = c.args.scratch.now in
    omega (
      arith,
      one_bit_more vs c.loop-i.i Unknown c.told-scratch c.loop-i-test.true,
      bits_fit vs (16 - (c.loop-i.i + 1)) c.told-scratch,
      c.loop-i.invariant,
      c.bit.ensures,
    )

pub loop-i-preserved : goal.loop-i-preserved
loop-i-preserved c =
    omega (arith, one_bit_more c.args.scratch.now c.loop-i.i Unknown c.told-scratch c.loop-i-test.true, c.loop-i.invariant, c.bit.ensures)
