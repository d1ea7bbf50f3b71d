-- The bits of the numbers from the last on.
use Rattle.std.proofs.Common.{◌≡◌, ◌+◌, ◌-◌, ◌≤◌, ◌&&◌}
use Rattle.kernel_check.specs.Lent.{accepted_insns}
use Rattle.bpf_interp.specs.Fixed.{is_fixed_allow}
use Rattle.shared_table.specs.Numbers.{is_in_all, packed}
use Rattle.shared_table.proofs.numbers.part_from.Given as goal

abbrev pub invariant-bits : goal.invariant-bits
invariant-bits l = record {
  most : l.left ≤ 64;
  bits : l.part ≡ packed (λ nr. is_fixed_allow (accepted_insns l.program) l.arch nr && is_in_all l.below nr) (l.first + l.left) (64 - l.left);
}

abbrev pub decreases-bits : goal.decreases-bits
decreases-bits l = l.left
