use Rattle.std.proofs.Common.{◌≡◌, ◌+◌, ◌∷◌, [], sym, subst, arith}
use Rattle.bpf_insn.specs.Program.{insns}
use Rattle.kernel_check.specs.Accepted.{IsAccepted}
use Rattle.show.specs.inner.Asking.{holding}
use Rattle.show.proofs.Following.{asked_first, asked_last, asked_next, asked_stuck}
use Rattle.show.proofs.answered.verdict_asked.Goals as goal

pub run-init : goal.run-init
run-init c =
    let ok : IsAccepted (insns c.program-program.result) =
    subst IsAccepted (sym c.program-program.ensures.same) c.program-program.ensures.accepted in
    (0, asked_first (insns c.program-program.result) (c.args.nr ∷ c.args.arch ∷ []) ok)

pub returns-then-not-is_followed : goal.returns-then-not-is_followed
returns-then-not-is_followed c =
    rw (← c.program-program.ensures.same)
    (asked_stuck (insns c.program-program.result) (c.args.nr ∷ c.args.arch ∷ []) c.run.invariant.0 c.run.pc c.get-insn.result
    (holding c.run.a) c.run.invariant.1 c.get-insn.ensures (grind arith))

pub returns-in-Returns : goal.returns-in-Returns
returns-in-Returns c =
    rw (← c.program-program.ensures.same)
    (asked_last (insns c.program-program.result) (c.args.nr ∷ c.args.arch ∷ []) c.run.invariant.0 c.run.pc c.in-Returns.word
    c.get-insn.result (holding c.run.a) c.run.invariant.1 c.get-insn.ensures (grind arith) c.in-Returns.ensures)

pub run-preserved : goal.run-preserved
run-preserved c =
    let ok : IsAccepted (insns c.program-program.result) =
    subst IsAccepted (sym c.program-program.ensures.same) c.program-program.ensures.accepted in
    let place : c.run.pc + (1 + c.in-Continues.skip) ≡ c.run.pc + 1 + c.in-Continues.skip = omega arith in
    rw place (
      c.run.invariant.0 + 1,
      asked_next (insns c.program-program.result) (c.args.nr ∷ c.args.arch ∷ []) c.run.invariant.0 c.run.pc c.in-Continues.skip
          c.get-insn.result (holding c.run.a) (holding c.in-Continues.value) ok c.run.invariant.1 c.get-insn.ensures (grind arith)
          c.in-Continues.ensures,
    )
