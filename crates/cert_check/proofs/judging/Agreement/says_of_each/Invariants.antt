use Rattle.std.proofs.Common.{ℕ, ◌<◌}
use Rattle.std.specs.Prelude.{slice_index_or}
use Rattle.machines.specs.declared.arch.Arch.{Arch}
use Rattle.cert_check.specs.Several.{SaysOfRange}
use Rattle.cert_check.specs.inner.Asked.{known_of}
use Rattle.cert_check.proofs.judging.Agreement.says_of_each.Given as goal

abbrev pub invariant-loop-arch : goal.invariant-loop-arch
invariant-loop-arch g l =
    (k : ℕ) (d : Arch) → k < l.arch-index
    → SaysOfRange l.self.profile.now (known_of l.self) l.self.word (slice_index_or l.arch-items k d) → ⊥
