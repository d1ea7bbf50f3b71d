-- What is looked at of arguments, and of verdicts.
use Rattle.std.specs.Prelude.{◌≡◌, ℕ, ◌<◌, ◌%◌, ◌^◌, List, slice_index}
use Rattle.call_record.specs.Fate.{fate_of}
use Rattle.call_record.specs.Verdict.{allow, kill_thread, user_notif}
use Rattle.call_record.specs.declared.fate.Fate.{Fate}
use Rattle.call_record.specs.declared.fate.Fate.TheVariants.{Refused, Left, LetThrough}
use Rattle.differ.specs.declared.direction.Direction.{Direction}
use Rattle.differ.specs.declared.direction.Direction.TheVariants.{Any, More, Less}

-- the second arguments are the first with all bits at 0 but the lowest, so many of each
abbrev pub AreRead : List ℕ → (ℕ → ℕ) → (ℕ → ℕ) → Type 0
AreRead reads a b = (j : ℕ) → j < 6 → b j ≡ a j % 2 ^ slice_index reads j

-- one verdict for all by which a call goes equally far
abbrev pub verdict_of : Fate → ℕ
verdict_of Refused = kill_thread
verdict_of Left = user_notif
verdict_of LetThrough = allow

-- what is looked at of a verdict: where any others are looked for all of it, and else how far a call goes by it
abbrev pub seen_of : Direction → ℕ → ℕ
seen_of Any v = v
seen_of More v = verdict_of (fate_of v)
seen_of Less v = verdict_of (fate_of v)
