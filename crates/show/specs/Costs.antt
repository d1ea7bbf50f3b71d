-- What a filter costs a call.
use Rattle.std.specs.Prelude.{ℕ, ◌≡◌, ◌&&◌, nat_lt, List}
use Rattle.bpf_insn.specs.declared.instruction.Insn.{Insn}
use Rattle.machines.specs.declared.arch.Arch.{Arch}
use Rattle.machines.specs.Arch.{token_of}
use Rattle.show.specs.declared.costing.Cost.{Cost}
use Rattle.show.specs.Answered.{is_answered}
use Rattle.show.specs.Spans.{IsSpan}

-- the least of ARM's private numbers, which lie beyond the kernel's table (__ARM_NR_BASE)
abbrev pub least_private : ℕ
least_private = 0xf0000

-- whether the kernel answers the call by itself, and how many instructions run where it does not
pub record IsCost (p : List Insn) (machine : Arch) (cost : Cost) : Type 0 where
  pub answered : cost.answered ≡ (nat_lt cost.nr least_private && is_answered p (token_of machine) cost.nr)
  pub span : IsSpan p (token_of machine) cost.nr cost.span
