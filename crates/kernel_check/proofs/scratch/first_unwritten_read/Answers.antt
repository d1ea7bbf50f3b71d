use Rattle.std.proofs.Common.{◌≡◌, ◌<◌, length, true, false, arith}
use Rattle.bpf_insn.specs.Program.{insns}
use Rattle.bpf_insn.proofs.PlainLaws.{plain-reads, plain-writes}
use Rattle.kernel_check.proofs.PathLemmas.{first_ok, handed_more, inside, least_read, no_read, no_read_more, plain_where, read_at}
use Rattle.kernel_check.proofs.scratch.first_unwritten_read.Goals as goal

pub loop-i-init : goal.loop-i-init
loop-i-init c = record {
  masks =
      first_ok (insns c.args.program.now) c.first_masks-unwritten.result
      c.first_masks-unwritten.ensures.size c.first_masks-unwritten.ensures.exact;
  none = λ j lt read. absurd (omega arith);
}

pub reads_from-requires : goal.reads_from-requires
reads_from-requires c =
    plain-reads c.get-insn.result
    (plain_where (insns c.args.program.now) c.loop-i.i c.get-insn.result c.requires c.get-insn.ensures)

pub returns-then-reads_from : goal.returns-then-reads_from
returns-then-reads_from c =
    let reads = c.reads_from.ensures.0 c.if-reads_from.true in (
      read_at (insns c.args.program.now) c.loop-i.unwritten c.loop-i.i c.get-insn.result
          c.loop-i.invariant.masks c.requires c.get-insn.ensures reads.0 reads.1,
      least_read (insns c.args.program.now) c.loop-i.i c.loop-i.invariant.none,
    )

pub hand_on-requires-clause-word : goal.hand_on-requires-clause-word
hand_on-requires-clause-word c =
    plain-writes c.get-insn.result
    (plain_where (insns c.args.program.now) c.loop-i.i c.get-insn.result c.requires c.get-insn.ensures)

pub hand_on-requires-clause-led : goal.hand_on-requires-clause-led
hand_on-requires-clause-led c = λ next to.
    let lt : next < length (insns c.args.program.now) =
    inside (insns c.args.program.now) c.loop-i.i c.get-insn.result next c.requires c.get-insn.ensures to in
    omega (arith, c.loop-i.invariant.masks.size, c.len-i-end.ensures.limit, c.len-i-end.ensures.count)

pub loop-i-preserved : goal.loop-i-preserved
loop-i-preserved c = record {
  masks =
      handed_more (insns c.args.program.now) c.loop-i.unwritten c.hand_on.new.unwritten c.loop-i.i c.get-insn.result c.get-insn.ensures
      c.hand_on.ensures.size c.hand_on.ensures.exact c.loop-i.invariant.masks;
  none =
      no_read_more (insns c.args.program.now) c.loop-i.unwritten c.loop-i.i c.get-insn.result
      c.loop-i.invariant.masks c.requires c.get-insn.ensures
      (λ both. let yes : false ≡ true = c.if-reads_from.ensures.1 both in cc) c.loop-i.invariant.none;
}

pub returns : goal.returns
returns c =
    no_read (insns c.args.program.now) c.len-i-end.result c.loop-i.i c.len-i-end.ensures.count c.loop-i-test.false c.loop-i.invariant.none
