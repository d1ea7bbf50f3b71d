use Rattle.std.proofs.Common.{◌-◌, length}
use Rattle.call_record.specs.Record.{words}
use Rattle.bpf_insn.specs.Program.{insns}
use Rattle.bpf_interp.specs.inner.Moment.{IsMoment}
use Rattle.bpf_interp.specs.inner.Step.{state_of}
use Rattle.bpf_interp.proofs.run.verdict_counted.Given as goal

abbrev pub invariant-run : goal.invariant-run
invariant-run l = IsMoment (insns l.program) (words l.call) l.count l.pc (state_of l.registers)

abbrev pub decreases-run : goal.decreases-run
decreases-run l = length (insns l.program) - l.pc
