-- What `join` and `meet` tell of bundles, and `stack` of filters.
use Rattle.std.specs.Prelude.{ℕ, ◌≡◌, true, List}
use Rattle.machines.specs.declared.arch.Arch.{Arch}
use Rattle.together.specs.Combined.{IsCombined}
use Rattle.together.specs.declared.way.Way.{Way}
use Rattle.combine.specs.Stack.{IsOfStack}
use Rattle.wording.specs.Told.{was_done}
use Rattle.wording.specs.declared.told.Told.{Told}

-- where it was done, the bundle that is told says of each call record what counts of the verdicts that the bundles say of it
abbrev pub TellsCombined : Arch → Way → List (List ℕ) → Told → Type 0
TellsCombined native way bundles told = was_done told.end ≡ true → IsCombined native way bundles told.bytes.items

-- where it was done, the bundle that is told says the verdict that counts of those that the filters give
abbrev pub TellsStack : Arch → List (List ℕ) → Told → Type 0
TellsStack native filters told = was_done told.end ≡ true → IsOfStack native filters told.bytes.items
