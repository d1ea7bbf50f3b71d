-- Why a walk stops.
use Rattle.std.specs.Prelude.{◌≡◌, ⊤, Bool, true}
use Rattle.differ.specs.declared.listed.Unlisted.{Unlisted}
use Rattle.differ.specs.declared.listed.Unlisted.TheVariants.{TooMany, OutOfMemory}

-- its steps are limited
abbrev pub IsStopped : Bool → Unlisted → Type 0
IsStopped limited TooMany = limited ≡ true
IsStopped limited OutOfMemory = ⊤
