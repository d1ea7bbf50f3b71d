-- Events that are listed once.
use Rattle.std.specs.Prelude.{◌≡◌, if◌then◌else◌, List, [], ◌∷◌, ◌++◌, Option, Some, None}
use Rattle.std.specs.List.{list_any}
use Rattle.explain.specs.Audit.{is_same}
use Rattle.explain.specs.declared.audited.event.Event.{Event}

abbrev pub told_on : Option Event → List Event
told_on None = []
told_on (Some e) = e ∷ []

-- whatever is the same as one of the first is the same as one of the second
abbrev pub HaveSame : List Event → List Event → Type 0
HaveSame firsts before = (y : Event) → list_any (λ b. is_same b y) firsts ≡ list_any (λ b. is_same b y) before

-- an event behind these was added, unless it is the same as one of them
pub record IsNext (before : List Event) (x : Event) (old new : List Event) : Type 0 where
  pub added : new ≡ old ++ (if list_any (λ b. is_same b x) before then [] else x ∷ [])
  pub alike : HaveSame new (before ++ x ∷ [])
