use Rattle.std.proofs.Common.{◌≡◌, ◌*◌, ◌-◌, ◌%◌, ◌^◌, ◌<◌, bit_and, ap, ◌∙◌, arith}
use Rattle.std.proofs.Math.Nat.{mod-eq_of_lt}
use Rattle.std.proofs.lemmas.Nat.{and_mask, pow_below}
use Rattle.differ.proofs.asked.low_bits.Goals as goal

pub returns : goal.returns
returns c =
    let below : 2 ^ c.args.bits < 2 ^ 64 = pow_below c.args.bits 64 c.requires in
    let once : 1 * 2 ^ c.args.bits ≡ 2 ^ c.args.bits = omega arith in
    let whole : 1 * 2 ^ c.args.bits % 18446744073709551616 ≡ 2 ^ c.args.bits = mod-eq_of_lt {n = 1 * 2 ^ c.args.bits} {m = 18446744073709551616} (omega arith) ∙ once in
    ap (λ x. bit_and c.args.number (x - 1)) whole ∙ and_mask c.args.number c.args.bits
