-- Errors of building that are about sizes and memory.
use Rattle.profile.specs.declared.fault.BuildError.{BuildError}
use Rattle.widths.specs.declared.narrowing.fault.CutError.{CutError}
use Rattle.widths.specs.declared.narrowing.fault.CutError.TheVariants as cut
use Rattle.profile.specs.declared.fault.BuildError.TheVariants.{NativeMissing, MixedFamilies, ForeignRule, Overlap, TooMany, OutOfMemory}

abbrev pub IsSize : BuildError → Type 0
IsSize TooMany = Unit {0}
IsSize OutOfMemory = Unit {0}
IsSize NativeMissing = ⊥
IsSize MixedFamilies = ⊥
IsSize (ForeignRule i) = ⊥
IsSize (Overlap i j) = ⊥

-- why no profile is narrowed, by why none is built of the rules
abbrev pub cut_cause : BuildError → CutError
cut_cause TooMany = cut.TooMany
cut_cause other = cut.OutOfMemory
