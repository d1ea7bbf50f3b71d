-- Calls of which it is not decided whether one gets past.
use Rattle.std.specs.Prelude.{ℕ, ⊤}
use Rattle.profile.specs.Policy.{Policy}
use Rattle.differ.specs.OnCall as on_call
use Rattle.differ.specs.declared.listed.Unlisted.{Unlisted}
use Rattle.differ.specs.declared.listed.Unlisted.TheVariants.{TooMany, OutOfMemory}

-- the arguments are answered in more ways than are walked through without a limit, where the profile is compared with itself
abbrev pub AreCrowded : Policy → ℕ → ℕ → Type 0
AreCrowded p token nr = on_call.AreCrowded p p token nr

abbrev pub IsUnsettled : Policy → ℕ → ℕ → Unlisted → Type 0
IsUnsettled p token nr TooMany = AreCrowded p token nr
IsUnsettled p token nr OutOfMemory = ⊤
