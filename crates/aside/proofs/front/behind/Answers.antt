use Rattle.std.proofs.Common.{◌≡◌, ◌++◌, ◌∷◌, ◌*◌, ℕ, List, ap, sym, ◌∙◌, length, take, subst, arith}
use Rattle.std.proofs.lemmas.List.{length-take}
use Rattle.bpf_insn.specs.declared.instruction.Insn.{Insn}
use Rattle.bpf_insn.specs.Bytes.{insns_of}
use Rattle.aside.specs.inner.Front.{IsLike, insn}
use Rattle.aside.proofs.FrontLaws.{if_ok, jumps, insns_of-append, length-whole}
use Rattle.aside.proofs.front.behind.Goals as goal

pub returns : goal.returns
returns c =
    let size : ℕ = c.min-size.result in
    let own : List ℕ = take (8 * size) c.args.own.now in
    let filter : List ℕ = c.args.filter.now in
    let room : length own ≡ 8 * size = omega (arith, length-take (8 * size) c.args.own.now, c.min-size.ensures) in
    let both : c.deref.result.now ≡ own ++ filter =
    c.deref.ensures.value
    ∙ (c.in_ok-extend_from_slice-2.ensures.items
    ∙ ap (λ (bytes : List ℕ). bytes ++ filter) (c.in_ok-extend_from_slice.ensures.items ∙ ap (λ (bytes : List ℕ). bytes ++ own) c.new-both.ensures.items)) in
    let jump : c.insn.result ≡ insn 5 0 0 (length (insns_of own)) =
    c.insn.ensures ∙ ap (λ n. insn 5 0 0 n) (sym (length-whole own size room)) in
    let read : c.insn.result ∷ insns_of c.deref.result.now ≡ insn 5 0 0 (length (insns_of own)) ∷ (insns_of own ++ insns_of filter) =
    ap (λ (p : List Insn). c.insn.result ∷ p) (ap insns_of both ∙ insns_of-append own filter size room)
    ∙ ap (λ (i : Insn). i ∷ (insns_of own ++ insns_of filter)) jump in
    if_ok c.spelled.result (λ bytes. insns_of bytes.items ≡ c.insn.result ∷ insns_of c.deref.result.now)
    (λ bytes. IsLike (insns_of bytes.items) (insns_of filter))
    (λ bytes same. subst (λ (p : List Insn). IsLike p (insns_of filter)) (sym (same ∙ read)) (jumps (insns_of own) (insns_of filter)))
    c.spelled.ensures
