use Rattle.std.proofs.Common.{◌≡◌, ◌+◌, ◌∷◌, [], sym, ◌∙◌, subst, arith}
use Rattle.call_record.specs.Words.{halves}
use Rattle.bpf_insn.specs.Program.{insns}
use Rattle.kernel_check.specs.Accepted.{IsAccepted}
use Rattle.kernel_check.proofs.RunLaws.{plain, reads_written}
use Rattle.bpf_interp.specs.inner.Step.{state_of}
use Rattle.bpf_interp.proofs.Known.{far, last_word, near, no_word}
use Rattle.bpf_interp.proofs.Moments.{at_first, next_one}
use Rattle.bpf_interp.proofs.fixed.fixed_verdict.Goals as goal

pub run-init : goal.run-init
run-init c =
    let ok : IsAccepted (insns c.program-program.result) =
    subst IsAccepted (sym c.program-program.ensures.same) c.program-program.ensures.accepted in
    rw c.at_start-registers.ensures (0, at_first (insns c.program-program.result) (c.args.nr ∷ c.args.arch ∷ []) ok)

pub returns-then-loads_further : goal.returns-then-loads_further
returns-then-loads_further c =
    rw (← c.program-program.ensures.same)
    (no_word (insns c.program-program.result) (c.args.nr ∷ c.args.arch ∷ []) c.run.invariant.0 c.run.pc c.get-insn.result
    (state_of c.run.registers) c.run.invariant.1 c.get-insn.ensures
    (far c.args.nr c.args.arch c.get-insn.result (state_of c.run.registers) (sym c.if-loads_further.ensures)))

pub advance-requires-clause-plain : goal.advance-requires-clause-plain
advance-requires-clause-plain c =
    let ok : IsAccepted (insns c.program-program.result) =
    subst IsAccepted (sym c.program-program.ensures.same) c.program-program.ensures.accepted in
    plain (insns c.program-program.result) c.run.pc c.get-insn.result ok c.get-insn.ensures

pub advance-requires-clause-written : goal.advance-requires-clause-written
advance-requires-clause-written c =
    let ok : IsAccepted (insns c.program-program.result) =
    subst IsAccepted (sym c.program-program.ensures.same) c.program-program.ensures.accepted in
    reads_written (insns c.program-program.result) c.run.pc c.get-insn.result (state_of c.run.registers) ok c.get-insn.ensures c.run.invariant.1.path

pub returns-in-Returns : goal.returns-in-Returns
returns-in-Returns c =
    let same = near c.args.nr c.args.arch (halves (0 ∷ 0 ∷ 0 ∷ 0 ∷ 0 ∷ 0 ∷ 0 ∷ [])) c.get-insn.result (state_of c.run.registers)
    (sym c.if-loads_further.ensures) in
    rw (← c.program-program.ensures.same)
    (last_word (insns c.program-program.result) (c.args.nr ∷ c.args.arch ∷ []) c.run.invariant.0 c.run.pc c.in-Returns.word
    c.get-insn.result (state_of c.run.registers) c.run.invariant.1 c.get-insn.ensures (same ∙ c.in-Returns.ensures))

pub run-preserved : goal.run-preserved
run-preserved c =
    let ok : IsAccepted (insns c.program-program.result) =
    subst IsAccepted (sym c.program-program.ensures.same) c.program-program.ensures.accepted in
    let same = near c.args.nr c.args.arch (halves (0 ∷ 0 ∷ 0 ∷ 0 ∷ 0 ∷ 0 ∷ 0 ∷ [])) c.get-insn.result (state_of c.run.registers)
    (sym c.if-loads_further.ensures) in
    let place : c.run.pc + (1 + c.in-Continues.skip) ≡ c.run.pc + 1 + c.in-Continues.skip = omega arith in
    rw place (
      c.run.invariant.0 + 1,
      next_one (insns c.program-program.result) (c.args.nr ∷ c.args.arch ∷ []) c.run.invariant.0 c.run.pc
          c.in-Continues.skip c.get-insn.result (state_of c.run.registers) (state_of c.advance.new.registers) ok c.run.invariant.1
          c.get-insn.ensures (same ∙ c.in-Continues.ensures),
    )
