use Rattle.std.proofs.Common.{◌≡◌, ◌∙◌, List, [], ◌∷◌, ap, length, reverse, subst, sym}
use Rattle.bpf_insn.specs.declared.instruction.Insn.{Insn}
use Rattle.std.proofs.lemmas.List.{reverse-append}
use Rattle.rule_compile.specs.inner.Emitted.{AreFine, IsFine}
use Rattle.rule_compile.proofs.assembler.Assembler.write.Goals as goal

pub invariant_of-self-2 : goal.invariant_of-self-2
invariant_of-self-2 c =
    let old : List Insn = c.self.inside.backwards.items in
    let turned : reverse c.push.new.self.items ≡ c.args.insn ∷ reverse old =
    ap reverse c.in_ok-push.ensures.items ∙ reverse-append old (c.args.insn ∷ []) in
    let first : IsFine c.args.insn (length (reverse old)) = subst (λ code. IsFine c.args.insn (length code)) (sym c.self.view_is) c.requires in
    subst AreFine (sym turned) (first, c.self.invariant)
