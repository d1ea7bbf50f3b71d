-- In which direction two verdicts are unlike.
use Rattle.std.specs.Prelude.{ℕ, ◌==◌, not, Bool}
use Rattle.call_record.specs.Fate.{is_further}
use Rattle.differ.specs.declared.direction.Direction.{Direction}
use Rattle.differ.specs.declared.direction.Direction.TheVariants.{Any, More, Less}

-- the first and the second verdict are unlike; the call goes further by the second; it goes further by the first
abbrev pub tells : Direction → ℕ → ℕ → Bool
tells Any v w = not (v == w)
tells More v w = is_further w v
tells Less v w = is_further v w
