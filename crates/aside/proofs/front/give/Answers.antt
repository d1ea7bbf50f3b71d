use Rattle.std.proofs.Common.{◌≡◌, ◌++◌, List, ap, subst, sym, ◌∙◌}
use Rattle.bpf_insn.specs.declared.instruction.Insn.{Insn}
use Rattle.bpf_insn.specs.Bytes.{insns_of}
use Rattle.aside.specs.inner.Front.{Passes}
use Rattle.aside.proofs.FrontLaws.{if_ok, passes}
use Rattle.aside.proofs.front.give.Goals as goal

pub returns : goal.returns
returns c =
    let p : List Insn = insns_of c.args.program.now in
    if_ok c.spelled.result (λ bytes. insns_of bytes.items ≡ c.front_of-front.result ++ p)
    (λ bytes. Passes c.args.calls.now (insns_of bytes.items) p)
    (λ bytes same.
    subst (λ (q : List Insn). Passes c.args.calls.now q p)
    (sym (same ∙ ap (λ (front : List Insn). front ++ p) c.front_of-front.ensures))
    (passes c.args.calls.now c.min-skip.result p))
    c.spelled.ensures
