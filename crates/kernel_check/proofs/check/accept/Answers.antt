use Rattle.std.proofs.Common.{subst, sym, ◌≤◌}
use Rattle.bpf_insn.specs.Program.{insns}
use Rattle.kernel_check.proofs.AcceptLemmas.{scratch_more, first, first_scratch, only_scratch, no_cause}
use Rattle.kernel_check.proofs.check.accept.Goals as goal

pub returns-in-Some-clause-refused : goal.returns-in-Some-clause-refused
returns-in-Some-clause-refused c =
    let causes = c.in-Some.ensures (insns c.args.program.now) (sym c.len-n.ensures.count) in
    first (insns c.args.program.now) c.loop-i.i c.get.result c.in-Some.cause c.get.ensures c.loop-i.invariant causes.0 causes.1 causes.2

pub loop-i-preserved : goal.loop-i-preserved
loop-i-preserved c =
    scratch_more (insns c.args.program.now) c.loop-i.i c.get.result c.get.ensures c.loop-i.invariant
    (c.in_default.ensures (insns c.args.program.now) (sym c.len-n.ensures.count))

pub first_unwritten_read-requires : goal.first_unwritten_read-requires
first_unwritten_read-requires c =
    only_scratch (insns c.args.program.now) c.len-n.result c.loop-i.i c.len-n.ensures.count c.loop-i-test.false c.loop-i.invariant

pub invariant_of-result : goal.invariant_of-result
invariant_of-result c = record {
  accepted = record {
    some = subst (λ n. 1 ≤ n) c.len-n.ensures.count c.len-n.ensures.some;
    limit = subst (λ n. n ≤ 4096) c.len-n.ensures.count c.len-n.ensures.limit;
    no_cause =
        no_cause (insns c.args.program.now)
        (only_scratch (insns c.args.program.now) c.len-n.result c.loop-i.i c.len-n.ensures.count c.loop-i-test.false c.loop-i.invariant)
        c.in-None.ensures;
  };
}

pub returns-in-Some-first_unwritten_read-clause-refused : goal.returns-in-Some-first_unwritten_read-clause-refused
returns-in-Some-first_unwritten_read-clause-refused c =
    first_scratch (insns c.args.program.now) c.in-Some-first_unwritten_read.pc
    (only_scratch (insns c.args.program.now) c.len-n.result c.loop-i.i c.len-n.ensures.count c.loop-i-test.false c.loop-i.invariant)
    c.in-Some-first_unwritten_read.ensures.0 c.in-Some-first_unwritten_read.ensures.1
