use Rattle.std.proofs.Common.{arith, length, subst, sym}
use Rattle.rule_compile.specs.inner.Emitted.{IsFine, jumps}
use Rattle.rule_compile.proofs.GoesLaws.{jump_code}
use Rattle.rule_compile.proofs.assembler.Assembler.jump.Goals as goal

pub write-requires : goal.write-requires
write-requires c =
    subst (λ i. IsFine i (length c.args.self.now)) (sym c.insn.ensures)
    (jumps jump_code (omega (arith, c.requires)))
