-- What is seen of a program that passed the check.
use Rattle.std.specs.Prelude.{List}
use Rattle.bpf_insn.specs.declared.instruction.Insn.{Insn}
use Rattle.bpf_insn.specs.Program.{insns}
use Rattle.kernel_check.specs.declared.lent.Accepted.{Accepted}

-- its instructions
unfoldable pub accepted_insns : Accepted → List Insn
accepted_insns accepted = insns accepted.program
