use Rattle.std.proofs.Common.{◌++◌, ℕ, List, ap, ◌∙◌, length}
use Rattle.bpf_insn.specs.declared.instruction.Insn.{Insn}
use Rattle.bpf_insn.specs.Bytes.{insns_of}
use Rattle.aside.proofs.FrontLaws.{insns_of-append}
use Rattle.aside.proofs.front.spelled.Goals as goal

pub returns : goal.returns
returns c =
    let front : List ℕ = c.in_ok-bytes.bytes.items in
    let rest : List ℕ = c.args.rest.now in
    ap insns_of c.in_ok-extend_from_slice.ensures.items
    ∙ (insns_of-append front rest (length c.args.insns.now) c.in_ok-bytes.ensures.size
    ∙ ap (λ (p : List Insn). p ++ insns_of rest) c.in_ok-bytes.ensures.read)
