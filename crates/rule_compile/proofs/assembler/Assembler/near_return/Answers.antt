use Rattle.std.proofs.Common.{◌≡◌, ◌∷◌, ◌∙◌, ap, length, subst, sym}
use Rattle.rule_compile.specs.inner.Emitted.{IsFine, returns}
use Rattle.std.specs.Prelude.{OnOk, Some}
use Rattle.bpf_insn.specs.declared.code.Operation.TheVariants.{ReturnK}
use Rattle.rule_compile.specs.declared.label.Target.TheVariants.{Return}
use Rattle.rule_compile.specs.inner.Code.{insn_of}
use Rattle.rule_compile.proofs.GoesLaws.{if_reached, if_written, reach_new_return, return_code}
use Rattle.rule_compile.proofs.assembler.Assembler.near_return.Goals as goal

pub returns-in-Some : goal.returns-in-Some
returns-in-Some c =
    let is : c.insn-ending.result ≡ insn_of ReturnK c.args.word = c.insn-ending.ensures ∙ ap (insn_of ReturnK) c.word.view_is in
    record {
      reached = if_reached c.near.result c.args.self.now c.near.new.self c.args.word c.in-Some.place (c.in-Some.ensures.found
          ∙ ap Some is) c.near.ensures.reached;
    }

pub returns-in-None : goal.returns-in-None
returns-in-None c =
    let is : c.insn-ending.result ≡ insn_of ReturnK c.args.word = c.insn-ending.ensures ∙ ap (insn_of ReturnK) c.word.view_is in
    record {
      reached = if_written c.write.result c.args.self.now c.write.new.self (insn_of ReturnK c.args.word) (Return c.args.word)
          (subst (λ i. OnOk c.write.result (c.write.new.self ≡ i ∷ c.args.self.now)) is c.write.ensures.written) c.write.ensures.start
          (λ place start. reach_new_return c.args.self.now c.args.word place start);
    }

pub write-requires : goal.write-requires
write-requires c =
    let is : c.insn-ending.result ≡ insn_of ReturnK c.args.word = c.insn-ending.ensures ∙ ap (insn_of ReturnK) c.word.view_is in
    subst (λ i. IsFine i (length c.args.self.now)) (sym is) (returns return_code)
