-- Refused calls that are told once.
use Rattle.std.specs.Prelude.{◌≡◌, if◌then◌else◌, List, [], ◌∷◌, ◌++◌}
use Rattle.std.specs.List.{list_any}
use Rattle.strace_logs.specs.Replayed.{Refused, is_alike}

-- whatever is like one of the first is like one of the second
abbrev pub HaveAlike : List Refused → List Refused → Type 0
HaveAlike firsts before = (y : Refused) → list_any (λ b. is_alike b y) firsts ≡ list_any (λ b. is_alike b y) before

-- a call behind these was added, unless it is like one of them
pub record IsNext (before : List Refused) (x : Refused) (old new : List Refused) : Type 0 where
  pub added : new ≡ old ++ (if list_any (λ b. is_alike b x) before then [] else x ∷ [])
  pub alike : HaveAlike new (before ++ x ∷ [])
