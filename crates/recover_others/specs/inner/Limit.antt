-- A program is too long only if it has more than 4,096 instructions.
use Rattle.std.specs.Prelude.{ℕ, ◌<◌}
use Rattle.recover_others.specs.declared.other_calls.unguarded.Unguarded.{Unguarded}
use Rattle.recover_others.specs.declared.other_calls.unguarded.Unguarded.TheVariants.{View, Kernel, Unplain, TooLong, OutOfMemory}

-- there is not enough memory, or a program of so many instructions is too long
abbrev pub IsLimit : ℕ → Unguarded → Type 0
IsLimit n (View fault) = ⊥
IsLimit n (Kernel why) = ⊥
IsLimit n (Unplain at) = ⊥
IsLimit n TooLong = 4096 < n
IsLimit n OutOfMemory = Unit {0}
