-- What is asked of a number, and what is left of that where its high bits are known.
use Rattle.std.specs.Prelude.{ℕ, ◌==◌, ◌%◌, ◌-◌, ◌^◌, Bool, true, false, not, if◌then◌else◌}
use Rattle.profile.specs.Said.{compares}
use Rattle.profile.specs.declared.conditions.Op.{Op}
use Rattle.profile.specs.declared.conditions.Op.TheVariants.{Ne, Lt, Le, Eq, Ge, Gt, MaskedEq}
use Rattle.differ.specs.declared.asked.Ask.{Ask}
use Rattle.differ.specs.declared.asked.Answer.{Answer}
use Rattle.differ.specs.declared.asked.Answer.TheVariants.{Met, Unmet, Asks}

-- the lowest bits of a number, as many as are read, are as asked
abbrev pub holds : Ask → ℕ → Bool
holds ask u = compares ask.op ask.value ask.datum (u % 2 ^ ask.read)

abbrev pub answers : Answer → ℕ → Bool
answers Met u = true
answers Unmet u = false
answers (Asks ask) u = holds ask u

-- an answer that is known, and else what is asked
abbrev pub unless : Bool → Bool → Ask → Answer
unless known met ask = if known then (if met then Met else Unmet) else Asks ask

-- what is asked of a number of so many bits
abbrev pub low_answers : Op → Ask → ℕ → Answer
low_answers Ne ask bits = unless (bits == 0) (not (ask.value == 0)) ask
low_answers Lt ask bits = unless (ask.value == 0) false ask
low_answers Le ask bits = unless (ask.value == 2 ^ bits - 1) true ask
low_answers Eq ask bits = unless (bits == 0) (ask.value == 0) ask
low_answers Ge ask bits = unless (ask.value == 0) true ask
low_answers Gt ask bits = unless (ask.value == 2 ^ bits - 1) false ask
low_answers MaskedEq ask bits = unless (ask.value == 0) (ask.datum == 0) ask

abbrev pub decided : Bool → Answer
decided met = if met then Met else Unmet

-- how a number answers that is below another, or above it
abbrev pub by_order : Op → Bool → Answer
by_order Ne below = Met
by_order Lt below = decided below
by_order Le below = decided below
by_order Eq below = Unmet
by_order Ge below = decided (not below)
by_order Gt below = decided (not below)
by_order MaskedEq below = Unmet
