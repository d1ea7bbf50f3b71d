-- What an instruction compares.
use Rattle.std.specs.Prelude.{Option, Some, None}
use Rattle.bpf_insn.specs.declared.code.Test.{Test}
use Rattle.bpf_insn.specs.declared.code.Operation.{Operation}
use Rattle.bpf_insn.specs.declared.code.Operation.TheVariants.{Branch}
use Rattle.bpf_insn.specs.declared.instruction.Insn.{Insn}
use Rattle.cert_state.specs.declared.literal.AVal.{AVal}
use Rattle.cert_state.specs.declared.literal.Regs.{Regs}
use Rattle.cert_state.specs.Transfer.{operand_value}

-- of a conditional jump its test, and what is known of A and of its operand; no other instruction compares
abbrev pub compared_by : Option Operation → Insn → Regs → Option (Test × AVal × AVal)
compared_by (Some (Branch test c)) i s = Some (test, s.a, operand_value c i s)
compared_by _ i s = None
