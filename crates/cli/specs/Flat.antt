-- What `flatten` tells of filters.
use Rattle.std.specs.Prelude.{ℕ, ◌≡◌, ◌⊎◌, map, false, List}
use Rattle.machines.specs.declared.arch.Arch.{Arch}
use Rattle.byte_order.specs.Turned.{read_as, written_as}
use Rattle.flatten.specs.Stack.{IsFlat}
use Rattle.flatten.specs.Unflat.{Says}
use Rattle.flatten.specs.declared.unflat.Unflat.{Unflat}
use Rattle.wording.specs.Told.{was_done}
use Rattle.wording.specs.declared.told.End.TheVariants.{Done}
use Rattle.wording.specs.declared.told.Told.{Told}

-- It was done, and what is told is the file of one filter that answers as those of the files do. Or it was not, for a reason.
abbrev pub TellsFlat : Arch → List (List ℕ) → Told → Type 0
TellsFlat native files told =
    ((told.end ≡ Done) × ((made : List ℕ) × IsFlat (map (read_as native) files) made × (told.bytes.items ≡ written_as native made)))
    ⊎ ((was_done told.end ≡ false) × ((why : Unflat) × Says (map (read_as native) files) why))
