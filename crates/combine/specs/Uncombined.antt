-- What each reason says for which bundles or filters are not combined.
use Rattle.std.specs.Prelude.{◌≡◌, ◌⊎◌, ℕ, List, [], Some, ⊤, slice_get}
use Rattle.std.specs.List.{AllZip}
use Rattle.machines.specs.declared.arch.Arch.{Arch}
use Rattle.profile.specs.Policy.{Policy}
use Rattle.recover.specs.Recovered.{IsRecovered}
use Rattle.recover.specs.Unsaid.{IsUnsaid}
use Rattle.together.specs.Combined.{IsBundle}
use Rattle.together.specs.OnCall.{MayBeLeft}
use Rattle.together.specs.Together.{IsUnlike}
use Rattle.together.specs.Unjudged.{IsFirstRefused, IsRefused}
use Rattle.together.specs.declared.bundles.Unjudged.{Unjudged}
use Rattle.together.specs.declared.bundles.Unjudged.TheVariants as unjudged
use Rattle.together.specs.declared.way.Way.{Way}
use Rattle.together.specs.declared.way.Way.TheVariants.{Strictest}
use Rattle.combine.specs.declared.uncombined.Uncombined.{Uncombined}
use Rattle.combine.specs.declared.uncombined.Uncombined.TheVariants as why

-- the reason that is told for one of the judge
abbrev pub reason_of : Unjudged → Uncombined
reason_of (unjudged.Refused place error) = why.Refused place error
reason_of (unjudged.Unread error) = why.Unread error
reason_of (unjudged.Unlike found) = why.Unlike found
reason_of (unjudged.Crowded call) = why.Crowded call
reason_of unjudged.OutOfMemory = why.OutOfMemory

-- Why nothing is drafted of profiles. There are none, or what was written on the way is refused. That none was found says nothing.
abbrev pub IsUndrafted : Arch → List Policy → Uncombined → Type 0
IsUndrafted native ps why.Nothing = ps ≡ []
IsUndrafted native ps (why.Unread error) = (made : List ℕ) × IsRefused native made error
IsUndrafted native ps (why.Together unsaid) = ⊤
IsUndrafted native ps why.TooLong = ⊤
IsUndrafted native ps why.OutOfMemory = ⊤
IsUndrafted native ps other = ⊥

-- What a reason says of bundles. There are none, or one is refused. Or what was written is refused, says another verdict of a record than
-- counts of their profiles' verdicts, or has a call that is crowded or has too many combinations. That no section was found says nothing.
abbrev pub IsUncombined : Arch → Way → List (List ℕ) → Uncombined → Type 0
IsUncombined native way bundles why.Nothing = bundles ≡ []
IsUncombined native way bundles (why.Refused place error) = IsFirstRefused native bundles place error
IsUncombined native way bundles (why.Filter place unsaid) = ⊥
IsUncombined native way bundles (why.Together unsaid) = ⊤
IsUncombined native way bundles (why.Unread error) = (made : List ℕ) × IsRefused native made error
IsUncombined native way bundles (why.Unlike found) =
    (ps : List Policy) × AllZip (IsBundle native) bundles ps × ((q : Policy) × IsUnlike way ps q found)
IsUncombined native way bundles (why.Crowded call) =
    (ps : List Policy) × AllZip (IsBundle native) bundles ps × ((q : Policy) × MayBeLeft ps q call)
IsUncombined native way bundles why.TooLong = ⊤
IsUncombined native way bundles why.OutOfMemory = ⊤

-- the filter at the place is no bundle's, for this reason
abbrev pub IsUnsaidAt : Arch → List (List ℕ) → Uncombined → Type 0
IsUnsaidAt native filters (why.Filter place unsaid) =
    (filter : List ℕ) × (slice_get filters place ≡ Some filter) × IsUnsaid native filter unsaid
IsUnsaidAt native filters why.OutOfMemory = ⊤
IsUnsaidAt native filters other = ⊥

-- What a reason says of a stack of filters. One is no bundle's, or the bundles whose profiles they are could not be combined.
abbrev pub IsUnstacked : Arch → List (List ℕ) → Uncombined → Type 0
IsUnstacked native filters error =
    IsUnsaidAt native filters error
    ⊎ ((bundles : List (List ℕ)) × AllZip (λ filter bundle. IsRecovered native bundle filter) filters bundles
    × IsUncombined native Strictest bundles error)
