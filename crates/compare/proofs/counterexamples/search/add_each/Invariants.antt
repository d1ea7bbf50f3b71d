use Rattle.std.proofs.Common.{◌≡◌, ℕ, List}
use Rattle.bpf_insn.specs.Bytes.{insns_of}
use Rattle.machines.specs.declared.arch.Arch.{Arch}
use Rattle.kernel_check.specs.Lent.{accepted_insns}
use Rattle.maker.specs.Certified.{AreJudged}
use Rattle.compare.specs.Counterexamples.{AllRefute}
use Rattle.compare.proofs.counterexamples.search.add_each.Given as goal

abbrev pub invariant-loop-difference : goal.invariant-loop-difference
invariant-loop-difference l = (native : Arch) (bundle bytes : List ℕ) → AreJudged native bundle bytes l.profile
    → accepted_insns l.filter ≡ insns_of bytes → AllRefute native bundle bytes l.fn.all.items → AllRefute native bundle bytes l.all.items
