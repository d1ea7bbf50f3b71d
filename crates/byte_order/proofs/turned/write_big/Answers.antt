use Rattle.std.proofs.Common.{◌≡◌, ◌*◌, ◌<◌, ◌≤◌, ℕ, List, length, refl, sym, ◌∙◌, ap, arith}
use Rattle.std.specs.Prelude.{map}
use Rattle.std.proofs.lemmas.List.{length-map, take_all}
use Rattle.bpf_insn.specs.declared.instruction.Insn.{Insn}
use Rattle.bpf_insn.specs.Bytes as little
use Rattle.bpf_insn.proofs.BytesLemmas as lemmas
use Rattle.byte_order.specs.Big as big
use Rattle.byte_order.specs.Turned.{other_half}
use Rattle.byte_order.proofs.BytesLaws.{get-little, spelled_more}
use Rattle.byte_order.proofs.turned.write_big.Goals as goal

-- so many instructions
count : (bytes : List ℕ) → length (map other_half (little.insns_of bytes)) ≡ length (little.insns_of bytes)
count bytes = length-map (little.insns_of bytes) other_half

pub loop-i-preserved : goal.loop-i-preserved
loop-i-preserved c =
    let p : List Insn = map other_half (little.insns_of c.args.filter.now) in
    let inside : c.loop-i.i < length p = omega (arith, c.loop-i-test.true, count c.args.filter.now, lemmas.length-insns_of c.args.filter.now) in
    let d : Insn = c.other_half-insn.result in
    let long = lemmas.length-insns_of c.args.filter.now in
    let room : 8 * length p ≤ length c.loop-i.file =
    omega (arith, count c.args.filter.now, long, c.loop-i.auto.file, c.requires.long, c.requires.whole) in
    let within : c.loop-i.i < length (little.insns_of c.args.filter.now) = omega (arith, c.loop-i-test.true, long) in
    spelled_more big.insn_bytes (λ i. refl) p d c.loop-i.i c.loop-i.file _ inside room c.loop-i.invariant
    (c.copy_from_slice.ensures.after ∙ (c.big_bytes_of.ensures
    ∙ ap big.insn_bytes (c.other_half-insn.ensures ∙ (ap other_half c.little_at.ensures ∙ sym (get-little c.args.filter.now c.loop-i.i d within)))))

pub returns : goal.returns
returns c =
    let p : List Insn = map other_half (little.insns_of c.args.filter.now) in
    let long = lemmas.length-insns_of c.args.filter.now in
    sym (take_all (8 * c.loop-i.i) c.loop-i.file (omega (arith, c.loop-i-test.false, c.loop-i.auto.file, c.requires.long, c.requires.whole)))
    ∙ (c.loop-i.invariant ∙ ap big.spelling (take_all c.loop-i.i p (omega (arith, c.loop-i-test.false, count c.args.filter.now, long))))
