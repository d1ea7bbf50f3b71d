-- Answers for which a caller has no room.
use Rattle.std.specs.Prelude.{ℕ, ◌≡◌, ◌<◌, List, length}

-- an answer has more bytes than there is room for, and the count is how many it has
pub record LacksRoom (IsAnswer : List ℕ → Type 0) (room count : ℕ) : Type 0 where
  pub answer : List ℕ
  pub is : IsAnswer answer
  pub counted : count ≡ length answer
  pub longer : room < count
