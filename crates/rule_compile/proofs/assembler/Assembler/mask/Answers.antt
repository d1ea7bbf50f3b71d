use Rattle.std.proofs.Common.{arith, length, subst, sym}
use Rattle.rule_compile.specs.inner.Emitted.{IsFine, masks}
use Rattle.rule_compile.proofs.RunsLaws.{and_code}
use Rattle.rule_compile.proofs.assembler.Assembler.mask.Goals as goal

pub write-requires : goal.write-requires
write-requires c =
    subst (λ i. IsFine i (length c.args.self.now)) (sym c.insn.ensures) (masks and_code (omega (arith, c.requires)))
