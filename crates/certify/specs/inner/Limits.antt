-- When a limit of the format is met.
use Rattle.std.specs.Prelude.{◌≡◌, ℕ, ◌+◌, ◌<◌, ◌≤◌, ◌⊎◌, length}
use Rattle.certify.specs.declared.fault.PathsError.{PathsError}
use Rattle.certify.specs.declared.fault.PathsError.TheVariants.{OutOfMemory}
use Rattle.certify.specs.declared.paths.Paths.{Paths}
use Rattle.certify.specs.declared.place.Place.{Place}

-- a place beside which so many more would be too many, or whose chain has as many literals as a chain can have
abbrev pub IsFull : Paths → Place → ℕ → Type 0
IsFull paths from more = (16384 < length paths.places.items + more) ⊎ (512 ≤ from.depth)

-- memory ran out, or there is no room for so many places more
abbrev pub LacksRoom : Paths → Place → ℕ → PathsError → Type 0
LacksRoom paths from more e = (e ≡ OutOfMemory) ⊎ IsFull paths from more
