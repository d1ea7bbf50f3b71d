-- What a path does at an instruction, by its operation.
use Rattle.std.specs.Prelude.{Option, Some}
use Rattle.bpf_insn.specs.declared.code.Operation.{Operation}
use Rattle.bpf_insn.specs.declared.code.Operation.TheVariants.{Branch, Jump, ReturnA, ReturnK}
use Rattle.bpf_insn.specs.declared.instruction.Insn.{Insn}
use Rattle.certify.specs.declared.action.Action.{Action}
use Rattle.certify.specs.declared.action.Action.TheVariants.{Ends, Forks, Goes}

abbrev pub action_by : Option Operation → Insn → Action
action_by (Some ReturnK) i = Ends
action_by (Some ReturnA) i = Ends
action_by (Some (Branch test c)) i = Forks
action_by (Some Jump) i = Goes i.k
action_by _ i = Goes 0
