use Rattle.std.proofs.Common.{◌≡◌, ap, sym, ◌∙◌, arith, subst}
use Rattle.std.specs.Prelude.{All}
use Rattle.std.proofs.lemmas.List.{take_all}
use Rattle.std.proofs.lemmas.List.Elements.{All-more, recursion_from_All}
use Rattle.bpf_insn.specs.Bytes.{insn_at, insn_bytes, insns_of, spelling}
use Rattle.bpf_insn.proofs.BytesLemmas.{spelled_more, insns_of-spelling}
use Rattle.bpf_insn.proofs.bytes.encode_into.Goals as goal

pub loop-i-preserved : goal.loop-i-preserved
loop-i-preserved c = record {
  spelled = spelled_more c.args.insns.now _ c.loop-i.i c.loop-i.out _ c.loop-i-test.true (omega arith) c.loop-i.invariant.spelled
      (c.copy_from_slice.ensures.after ∙ c.bytes_of.ensures.spelled);
  read = All-more (λ i. insn_at (insn_bytes i) ≡ i) c.args.insns.now c.loop-i.i _ c.loop-i-test.true c.loop-i.invariant.read c.bytes_of.ensures.read;
}

pub returns-clause-spelled : goal.returns-clause-spelled
returns-clause-spelled c =
    sym (take_all _ c.loop-i.out (omega arith)) ∙ (c.loop-i.invariant.spelled ∙ ap spelling (take_all c.loop-i.i c.args.insns.now (omega arith)))

pub returns-clause-read : goal.returns-clause-read
returns-clause-read c =
    ap insns_of (returns-clause-spelled c) ∙ insns_of-spelling c.args.insns.now
    (recursion_from_All _ _ (subst (All (λ i. insn_at (insn_bytes i) ≡ i)) (take_all c.loop-i.i c.args.insns.now (omega arith)) c.loop-i.invariant.read))
