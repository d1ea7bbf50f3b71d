use Rattle.std.proofs.Common.{◌≡◌, ◌∷◌, List, ap, subst, sym, ◌∙◌}
use Rattle.bpf_insn.specs.declared.instruction.Insn.{Insn}
use Rattle.bpf_insn.specs.Bytes.{insns_of}
use Rattle.aside.specs.inner.Front.{IsFreed}
use Rattle.aside.proofs.FrontLaws.{frees, if_ok}
use Rattle.aside.proofs.front.freed.Goals as goal

pub returns : goal.returns
returns c =
    let filter = insns_of c.args.filter.now in
    if_ok c.spelled.result (λ bytes. insns_of bytes.items ≡ c.insn.result ∷ filter) (λ bytes. IsFreed (insns_of bytes.items) filter)
    (λ bytes same. subst (λ (p : List Insn). IsFreed p filter) (sym (same ∙ ap (λ (i : Insn). i ∷ filter) c.insn.ensures)) (frees filter))
    c.spelled.ensures
