-- What is told of the records that were found.
use Rattle.std.proofs.Common.{◌≡◌, ◌⊎◌, ℕ, List, inl, inr, subst}
use Rattle.std.specs.Prelude.{Bool, Option, Result}
use Rattle.machines.specs.declared.arch.Arch.{Arch}
use Rattle.compare.specs.Counterexamples.{AreFound, TellsAll, WritesLines}
use Rattle.maker.specs.declared.evidence.evidence.Counterexample.{Counterexample}
use Rattle.maker.specs.Exported.{LacksMemory}
use Rattle.texts.specs.Failures.{Failures}
use Rattle.texts.specs.declared.streams.fault.WriteFault.{WriteFault}

pub tells_found : {S : Type 0} (held : S → Option (List ℕ)) (failures : S → Failures) (old new : S) (native : Arch) (bundle filter : List ℕ)
    (found : Counterexample) (all : List Counterexample) → AreFound native bundle filter found all → (answer result : Result Bool WriteFault)
    → answer ≡ result → WritesLines held failures old new all answer ⊎ LacksMemory old new answer
    → TellsAll held failures old new native bundle filter result
tells_found held failures old new native bundle filter found all are answer result same (inl lines) =
    subst (λ r. TellsAll held failures old new native bundle filter r) same
    (inl (record { found = found; all = all; are = are; written = lines }))
tells_found held failures old new native bundle filter found all are answer result same (inr lacks) =
    subst (λ r. TellsAll held failures old new native bundle filter r) same (inr lacks)
