use Rattle.std.proofs.Common.{◌≡◌, ◌*◌, ◌<◌, ◌≤◌, ℕ, List, length, refl, sym, ◌∙◌, ap, arith}
use Rattle.std.specs.Prelude.{map}
use Rattle.std.proofs.lemmas.List.{length-map, take_all}
use Rattle.bpf_insn.specs.declared.instruction.Insn.{Insn}
use Rattle.bpf_insn.specs.Bytes as little
use Rattle.bpf_insn.proofs.BytesLemmas as lemmas
use Rattle.byte_order.specs.Big as big
use Rattle.byte_order.specs.Turned.{other_half}
use Rattle.byte_order.proofs.BytesLaws.{get-big, length-big, spelled_more}
use Rattle.byte_order.proofs.turned.write_little.Goals as goal

-- so many instructions
count : (bytes : List ℕ) → length (map other_half (big.insns_of bytes)) ≡ length (big.insns_of bytes)
count bytes = length-map (big.insns_of bytes) other_half

pub loop-i-preserved : goal.loop-i-preserved
loop-i-preserved c =
    let p : List Insn = map other_half (big.insns_of c.args.file.now) in
    let inside : c.loop-i.i < length p = omega (arith, c.loop-i-test.true, count c.args.file.now, length-big c.args.file.now) in
    let d : Insn = c.other_half-insn.result in
    let long = length-big c.args.file.now in
    let room : 8 * length p ≤ length c.loop-i.filter =
    omega (arith, count c.args.file.now, long, c.loop-i.auto.filter, c.requires.long, c.requires.whole) in
    let within : c.loop-i.i < length (big.insns_of c.args.file.now) = omega (arith, c.loop-i-test.true, long) in
    spelled_more little.insn_bytes (λ i. refl) p d c.loop-i.i c.loop-i.filter _ inside room c.loop-i.invariant
    (c.copy_from_slice.ensures.after ∙ (c.little_bytes_of.ensures
    ∙ ap little.insn_bytes (c.other_half-insn.ensures ∙ (ap other_half c.big_at.ensures ∙ sym (get-big c.args.file.now c.loop-i.i d within)))))

pub returns : goal.returns
returns c =
    let p : List Insn = map other_half (big.insns_of c.args.file.now) in
    let long = length-big c.args.file.now in
    sym (take_all (8 * c.loop-i.i) c.loop-i.filter (omega (arith, c.loop-i-test.false, c.loop-i.auto.filter, c.requires.long, c.requires.whole)))
    ∙ (c.loop-i.invariant ∙ ap little.spelling (take_all c.loop-i.i p (omega (arith, c.loop-i-test.false, count c.args.file.now, long))))
