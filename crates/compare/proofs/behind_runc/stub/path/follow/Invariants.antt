use Rattle.std.proofs.Common.{◌≡◌, ℕ, ◌-◌, List}
use Rattle.bpf_insn.specs.Machine.{verdict_of}
use Rattle.bpf_insn.specs.Program.{insns}
use Rattle.compare.specs.inner.Path.{IsIn, IsPartOf, a_of, holding}
use Rattle.compare.proofs.StubRunLaws.{given}
use Rattle.compare.proofs.behind_runc.stub.path.follow.Given as goal

abbrev pub invariant-loop-pc : goal.invariant-loop-pc
invariant-loop-pc l = record {
  part : IsPartOf l.region l.fn.region;
  same : (r : List ℕ) → IsIn l.region r → verdict_of (insns l.program) r ≡ given (insns l.program) l.pc (holding (a_of l.held r)) r;
}

abbrev pub decreases-loop-pc : goal.decreases-loop-pc
decreases-loop-pc l = l.begin - l.pc
