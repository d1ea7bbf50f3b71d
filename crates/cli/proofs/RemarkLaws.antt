-- Lines on files that are no bundles.
use Rattle.std.proofs.Common.{◌≡◌, ℕ, inl, List, [], ◌∷◌, refl, subst}
use Rattle.std.specs.Prelude.{Option}
use Rattle.machines.specs.declared.arch.Arch.{Arch}
use Rattle.command_line.specs.Lines.{Given, given, texts}
use Rattle.command_line.specs.declared.reading.CommandLine.{CommandLine}
use Rattle.texts.specs.Failures.{Failures}
use Rattle.cli.specs.Parts.{Parts, parts_of}
use Rattle.cli.specs.Remarked.{RemarksOf, RemarksOn, bundle_names}
use Rattle.cli.proofs.UnbegunLaws.{same_parts}

-- none was written
pub no_remarks : {E : Type 0} (held : E → Option (List ℕ)) (failures : E → Failures) (native : Arch) (names : List (List ℕ)) (e : E)
    → RemarksOn held failures native names e e
no_remarks held failures native [] e = refl
no_remarks held failures native (name ∷ names) e = (e, inl refl, no_remarks held failures native names e)

-- what is told of the line that was read is told of the command that the arguments are
pub remarks_of_line : {E : Type 0} (held : E → Option (List ℕ)) (failures : E → Failures) (line : CommandLine) (p : Parts)
    (names : List (List ℕ)) (command : Given) (old new : E) → p ≡ parts_of (texts line.parts.now) → given line ≡ command
    → names ≡ bundle_names line.command p → RemarksOn held failures p.native names old new → RemarksOf held failures command old new
remarks_of_line held failures line p names command old new e same is h =
    same_parts line p command (λ k q. RemarksOn held failures q.native (bundle_names k q) old new) e same
    (subst (λ ns. RemarksOn held failures p.native ns old new) is h)
