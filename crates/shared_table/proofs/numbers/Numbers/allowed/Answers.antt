use Rattle.std.proofs.Common.{ℕ, ◌&&◌, Bool}
use Rattle.kernel_check.specs.Lent.{accepted_insns}
use Rattle.bpf_interp.specs.Fixed.{is_fixed_allow}
use Rattle.shared_table.specs.Numbers.{is_in_all}
use Rattle.shared_table.proofs.Bits.{holds}
use Rattle.shared_table.proofs.numbers.Numbers.allowed.Goals as goal

pub returns : goal.returns
returns c = λ nr h.
    let test : ℕ → Bool = λ n. is_fixed_allow (accepted_insns c.args.program.now) c.args.arch n && is_in_all c.args.below n in
    rw (
      c.part_from.ensures,
      c.part_from-2.ensures,
      c.part_from-3.ensures,
      c.part_from-4.ensures,
      c.part_from-5.ensures,
      c.part_from-6.ensures,
      c.part_from-7.ensures,
      c.part_from-8.ensures,
    ) (holds test nr h)
