use Rattle.std.proofs.Common.{ℕ, ◌<◌}
use Rattle.std.specs.Prelude.{slice_index_or}
use Rattle.machines.specs.declared.arch.Arch.{Arch}
use Rattle.machines.specs.Arch.{token_of}
use Rattle.cert_state.specs.declared.literal.Lit.TheVariants.{Bits}
use Rattle.cert_state.specs.Literals.{all_bits}
use Rattle.cert_state.specs.Entailment.{Entails}
use Rattle.cert_check.proofs.agree.is_listed.Given as goal

abbrev pub invariant-loop-arch : goal.invariant-loop-arch
invariant-loop-arch g l =
    (k : ℕ) (d : Arch) → k < l.arch-index
    → Entails (g.S.State.known l.facts.state.now) (Bits 1 all_bits (token_of (slice_index_or l.machines k d))) → ⊥
