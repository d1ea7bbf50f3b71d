-- What is seen of a program.
use Rattle.std.specs.Prelude.{List}
use Rattle.bpf_insn.specs.declared.instruction.Insn.{Insn}
use Rattle.bpf_insn.specs.declared.view.Program.{Program}
use Rattle.bpf_insn.specs.Bytes.{insns_of}

-- its instructions
unfoldable pub insns : Program → List Insn
insns program = insns_of program.bytes.now
