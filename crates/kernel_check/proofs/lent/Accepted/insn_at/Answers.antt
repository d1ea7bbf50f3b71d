use Rattle.std.proofs.Common.{◌≡◌, Some, subst, arith, length, ap}
use Rattle.std.specs.Prelude.{slice_get, List}
use Rattle.std.proofs.lemmas.Option.{slice_get_past}
use Rattle.bpf_insn.specs.declared.instruction.Insn.{Insn}
use Rattle.kernel_check.specs.Lent.{accepted_insns}
use Rattle.kernel_check.proofs.RunLaws.{plain}
use Rattle.kernel_check.proofs.lent.Accepted.insn_at.Goals as goal

pub returns-then-at-len : goal.returns-then-at-len
returns-then-at-len c =
    let p = accepted_insns c.args.self.now in
    let P : List Insn → Type 0 = λ q. slice_get q c.args.pc ≡ Some c.get.result in
    let found : slice_get p c.args.pc ≡ Some c.get.result = subst P c.program-program.ensures.same c.get.ensures in
    (found, plain p c.args.pc c.get.result c.program-program.ensures.accepted found)

pub returns-else-at-len : goal.returns-else-at-len
returns-else-at-len c =
    let p = accepted_insns c.args.self.now in
    let size = ap length c.program-program.ensures.same in
    slice_get_past p c.args.pc (omega (arith, size))
