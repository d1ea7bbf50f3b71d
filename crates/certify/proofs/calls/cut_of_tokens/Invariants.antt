use Rattle.std.proofs.Common.{ℕ, ◌<◌}
use Rattle.std.specs.Prelude.{slice_index_or}
use Rattle.machines.specs.declared.arch.Arch.{Arch}
use Rattle.machines.specs.Arch.{token_of}
use Rattle.cert_form.specs.Nodes.{literals}
use Rattle.certify.specs.inner.Apart.{IsTold}
use Rattle.certify.proofs.calls.cut_of_tokens.Given as goal

abbrev pub invariant-loop-machine : goal.invariant-loop-machine
invariant-loop-machine l =
    (k : ℕ) (d : Arch) → k < l.machine-index
    → IsTold (literals l.facts.state.now.entries.now l.facts.state.now.number) (token_of (slice_index_or l.machines k d))
