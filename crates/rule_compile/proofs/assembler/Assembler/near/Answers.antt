use Rattle.bpf_insn.specs.declared.code.Operation.TheVariants.{Jump}
use Rattle.rule_compile.specs.declared.label.Target.TheVariants.{Place}
use Rattle.rule_compile.specs.inner.Code.{insn_of}
use Rattle.rule_compile.proofs.GoesLaws.{jump_code, reach_jump, reach_new_jump, if_written}
use Rattle.rule_compile.proofs.assembler.Assembler.near.Goals as goal

pub returns-in-Some : goal.returns-in-Some
returns-in-Some c =
    record { reached = reach_jump c.args.self.now c.args.to c.in-Some.jump c.requires c.in-Some.ensures.placed c.in-Some.ensures.near c.in-Some.ensures.found }

pub returns-in-None : goal.returns-in-None
returns-in-None c =
    record {
      reached = let k = c.distance-skipped.result in
          if_written c.jump.result c.args.self.now c.jump.new.self (insn_of Jump k) (Place c.args.to)
          c.jump.ensures.written c.jump.ensures.start
          (λ place start. reach_new_jump c.args.self.now (insn_of Jump k) c.args.to place c.requires start jump_code
          c.distance-skipped.ensures.skipped);
    }
