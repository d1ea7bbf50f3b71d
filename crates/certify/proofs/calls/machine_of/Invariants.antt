use Rattle.std.proofs.Common.{◌≡◌, ℕ, ◌<◌}
use Rattle.std.specs.Prelude.{slice_index_or}
use Rattle.machines.specs.declared.arch.Arch.{Arch}
use Rattle.machines.specs.Arch.{token_of}
use Rattle.certify.proofs.calls.machine_of.Given as goal

abbrev pub invariant-loop-machine : goal.invariant-loop-machine
invariant-loop-machine l =
    (k : ℕ) (d : Arch) → k < l.machine-index → token_of (slice_index_or l.profile.machines k d) ≡ l.token → ⊥
