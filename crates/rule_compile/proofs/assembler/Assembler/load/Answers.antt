use Rattle.std.proofs.Common.{arith, length, subst, sym}
use Rattle.rule_compile.specs.inner.Emitted.{IsFine, loads}
use Rattle.rule_compile.proofs.RunsLaws.{load_code}
use Rattle.rule_compile.proofs.assembler.Assembler.load.Goals as goal

pub write-requires : goal.write-requires
write-requires c =
    subst (λ i. IsFine i (length c.args.self.now)) (sym c.insn.ensures)
    (loads load_code c.requires.offset.1 c.requires.offset.0 (omega (arith, c.requires.some)))
