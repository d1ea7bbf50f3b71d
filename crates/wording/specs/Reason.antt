-- Why a profile says its verdict of a record.
use Rattle.std.specs.Prelude.{ℕ, List, Option, Some, None, if◌then◌else◌, nat_lt, position, unwrap_or}
use Rattle.profile.specs.declared.rules.Rule.{Rule}
use Rattle.profile.specs.Policy.{Policy}
use Rattle.profile.specs.Said.{is_native, matches}
use Rattle.wording.specs.declared.reason.Reason.{Reason}
use Rattle.wording.specs.declared.reason.Reason.TheVariants.{Foreign, Entry, Default}

-- the entry that has the rule at a place, where the rules of each entry end
abbrev pub entry_at : List ℕ → ℕ → ℕ
entry_at ends place = unwrap_or (position (λ end. nat_lt place end) ends) 0

abbrev pub by_rule : List ℕ → Option ℕ → Reason
by_rule ends (Some place) = Entry (entry_at ends place)
by_rule ends None = Default

-- the record is no call of the profile's machines; or the first rule that matches it is of this entry; or none matches
abbrev pub reason_of : Policy → List Rule → List ℕ → List ℕ → Reason
reason_of p rules ends r = if is_native p r then by_rule ends (position (λ rule. matches rule r) rules) else Foreign
