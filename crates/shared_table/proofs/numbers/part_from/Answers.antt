use Rattle.std.proofs.Common.{◌≡◌, ℕ, ◌+◌, ◌-◌, ◌*◌, ◌<◌, ◌≤◌, ◌^◌, ◌&&◌, Bool, ap, sym, ◌∙◌, arith}
use Rattle.kernel_check.specs.Lent.{accepted_insns}
use Rattle.bpf_interp.specs.Fixed.{is_fixed_allow}
use Rattle.shared_table.specs.Numbers.{bit, is_in_all, packed}
use Rattle.shared_table.proofs.Bits.{bit_byte, bit_small, packed_front, packed_none, packed_room}
use Rattle.shared_table.proofs.numbers.part_from.Goals as goal

pub bits-init : goal.bits-init
bits-init c =
    let test : ℕ → Bool = λ nr. is_fixed_allow (accepted_insns c.args.program.now) c.args.arch nr && is_in_all c.args.below nr in
    record { most = omega arith; bits = sym (packed_none test (c.args.first + 64)) }

pub overflow_mul-part : goal.overflow_mul-part
overflow_mul-part c =
    let test : ℕ → Bool = λ nr. is_fixed_allow (accepted_insns c.args.program.now) c.args.arch nr && is_in_all c.args.below nr in
    let room : packed test (c.args.first + c.bits.left) (64 - c.bits.left) < 2 ^ 63 =
    packed_room test c.args.first c.bits.left (omega arith) c.bits.invariant.most in
    let part : c.bits.part ≡ packed test (c.args.first + c.bits.left) (64 - c.bits.left) = c.bits.invariant.bits in
    omega arith

pub overflow_add-part : goal.overflow_add-part
overflow_add-part c =
    let test : ℕ → Bool = λ nr. is_fixed_allow (accepted_insns c.args.program.now) c.args.arch nr && is_in_all c.args.below nr in
    let room : packed test (c.args.first + c.bits.left) (64 - c.bits.left) < 2 ^ 63 =
    packed_room test c.args.first c.bits.left (omega arith) c.bits.invariant.most in
    let part : c.bits.part ≡ packed test (c.args.first + c.bits.left) (64 - c.bits.left) = c.bits.invariant.bits in
    let own : bit c.is_allowed.result ≤ 1 = bit_small c.is_allowed.result in
    let same : c.from-bit.result ≡ bit c.is_allowed.result = c.from-bit.ensures ∙ bit_byte c.is_allowed.result in
    omega arith

pub bits-preserved : goal.bits-preserved
bits-preserved c =
    let test : ℕ → Bool = λ nr. is_fixed_allow (accepted_insns c.args.program.now) c.args.arch nr && is_in_all c.args.below nr in
    let left : ℕ = c.bits.left - 1 in
    let less : left < 64 = omega arith in
    let next : left + 1 ≡ c.bits.left = omega arith in
    let part : c.bits.part ≡ packed test (c.args.first + (left + 1)) (64 - (left + 1)) =
    c.bits.invariant.bits ∙ ap (λ k. packed test (c.args.first + k) (64 - k)) (sym next) in
    let own : c.from-bit.result ≡ bit (test (c.args.first + left)) = c.from-bit.ensures
    ∙ bit_byte c.is_allowed.result ∙ ap bit c.is_allowed.ensures in
    let front : packed test (c.args.first + left) (64 - left)
    ≡ bit (test (c.args.first + left)) + 2 * packed test (c.args.first + (left + 1)) (64 - (left + 1)) = packed_front test c.args.first left less in
    record { most = omega arith; bits = omega arith }
