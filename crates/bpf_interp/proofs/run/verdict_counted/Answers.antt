use Rattle.std.proofs.Common.{◌≡◌, ◌+◌, sym, subst, arith}
use Rattle.call_record.specs.Record.{words}
use Rattle.bpf_insn.specs.Program.{insns}
use Rattle.kernel_check.specs.Accepted.{IsAccepted}
use Rattle.kernel_check.proofs.RunLaws.{plain, reads_written}
use Rattle.bpf_interp.specs.inner.Step.{state_of}
use Rattle.bpf_interp.proofs.Moments.{at_first, next_one, gives}
use Rattle.bpf_interp.proofs.run.verdict_counted.Goals as goal

pub run-init : goal.run-init
run-init c =
    let ok : IsAccepted (insns c.program-program.result) =
    subst IsAccepted (sym c.program-program.ensures.same) c.program-program.ensures.accepted in
    rw c.at_start-registers.ensures (at_first (insns c.program-program.result) (words c.args.call.now) ok)

pub advance-requires-clause-plain : goal.advance-requires-clause-plain
advance-requires-clause-plain c =
    let ok : IsAccepted (insns c.program-program.result) =
    subst IsAccepted (sym c.program-program.ensures.same) c.program-program.ensures.accepted in
    plain (insns c.program-program.result) c.run.pc c.get.result ok c.get.ensures

pub advance-requires-clause-written : goal.advance-requires-clause-written
advance-requires-clause-written c =
    let ok : IsAccepted (insns c.program-program.result) =
    subst IsAccepted (sym c.program-program.ensures.same) c.program-program.ensures.accepted in
    reads_written (insns c.program-program.result) c.run.pc c.get.result (state_of c.run.registers) ok c.get.ensures c.run.invariant.path

pub returns-in-Returns-clause-gives : goal.returns-in-Returns-clause-gives
returns-in-Returns-clause-gives c =
    rw (← c.program-program.ensures.same)
    (gives (insns c.program-program.result) (words c.args.call.now) c.run.count c.run.pc c.in-Returns.word c.get.result
    (state_of c.run.registers) c.run.invariant c.get.ensures c.in-Returns.ensures)

pub run-preserved : goal.run-preserved
run-preserved c =
    let ok : IsAccepted (insns c.program-program.result) =
    subst IsAccepted (sym c.program-program.ensures.same) c.program-program.ensures.accepted in
    let place : c.run.pc + (1 + c.in-Continues.skip) ≡ c.run.pc + 1 + c.in-Continues.skip = omega arith in
    rw place
    (next_one (insns c.program-program.result) (words c.args.call.now) c.run.count c.run.pc c.in-Continues.skip c.get.result
    (state_of c.run.registers) (state_of c.advance.new.registers) ok c.run.invariant c.get.ensures c.in-Continues.ensures)
