-- Filters that are right: those of profiles without conditions by their shape, whoever made them, and those of the compiler.
use Rattle.std.specs.Prelude.{List}
use Rattle.bpf_insn.specs.declared.instruction.Insn.{Insn}
use Rattle.profile.specs.Policy.{IsClear, Policy}
use Rattle.cert_check.specs.Right.{IsRight}
use Rattle.rule_compile.specs.Right.{IsRightFilter}
use Rattle.rule_compile.specs.Shape.{IsCallFilter, IsPlain}

-- a filter of the shape gives each record the verdict that the profile says, by the kernel's machine, and no other
abbrev pub ShapeIsRight : Type 0
ShapeIsRight = (policy : Policy) (p : List Insn) → IsPlain policy → IsCallFilter policy p → IsRight policy p

-- what the compiler promises of its filters is what the checker's yes says of one
abbrev pub CompiledIsRight : Type 0
CompiledIsRight = (policy : Policy) (p : List Insn) → IsClear policy.rules → IsRightFilter policy p → IsRight policy p
