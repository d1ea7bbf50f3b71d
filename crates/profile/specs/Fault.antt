-- How an error of `build` is told: by its number, its name and its places.
use Rattle.std.specs.Prelude.{ℕ, List, [], ◌++◌, codes}
use Rattle.std.specs.Fmt.{decimal}
use Rattle.profile.specs.declared.fault.BuildError.{BuildError}
use Rattle.profile.specs.declared.fault.BuildError.TheVariants.{NativeMissing, MixedFamilies, ForeignRule, Overlap, TooMany, OutOfMemory}

abbrev pub label_of : BuildError → ℕ × List ℕ
label_of NativeMissing = (1, codes "NativeMissing")
label_of (ForeignRule i) = (2, codes "ForeignRule")
label_of (Overlap i j) = (3, codes "Overlap")
label_of TooMany = (4, codes "TooMany")
label_of MixedFamilies = (5, codes "MixedFamilies")
label_of OutOfMemory = (9, codes "OutOfMemory")

-- the places, each after a space
abbrev pub places_of : BuildError → List ℕ
places_of NativeMissing = []
places_of (ForeignRule i) = codes " " ++ decimal i
places_of (Overlap i j) = codes " " ++ decimal i ++ codes " " ++ decimal j
places_of TooMany = []
places_of MixedFamilies = []
places_of OutOfMemory = []

-- the text that says it
abbrev pub text_of : BuildError → List ℕ
text_of error = decimal (label_of error).0 ++ codes " " ++ (label_of error).1 ++ places_of error
