-- What an adapted configuration gives.
use Rattle.std.specs.Prelude.{◌≡◌, ℕ, List, Option, Some, None, true, string_bytes}
use Rattle.serde_json.specs.Data.{Data}
use Rattle.machines.specs.declared.arch.Arch.{Arch}
use Rattle.machines.specs.Arch.{family_of}
use Rattle.profile.specs.declared.rules.Rule.{Rule}
use Rattle.profile.specs.Machines.{in_order}
use Rattle.profile.specs.Policy.{Policy}
use Rattle.profile_json.specs.ByEntry.{AreRulesOf}
use Rattle.profile_json.specs.Keys as key
use Rattle.profile_json.specs.Meaning.{IsText, Means, VerdictMeans}
use Rattle.engines.specs.declared.settling.choice.Choice.{Choice}
use Rattle.engines.specs.Settled.{Settles}
use Rattle.wording.specs.Told.{was_done}
use Rattle.wording.specs.declared.told.Told.{Told}
use Rattle.engines.specs.declared.adapted.Adapted.{Adapted}

-- where it was done: the draft itself, a bundle that means a profile
abbrev pub IsRead : Arch → List ℕ → Told → Type 0
IsRead native draft told = was_done told.end ≡ true
    → (told.bytes.items ≡ draft) × (t : Data) × (p : Policy) × IsText draft t × Means t native p

-- The bytes are a bundle, and its profile settles the rules that the entries of the draft say. Of each record it says what one
-- of the rules that match says: the one that the choice names. Beside the entries the profile is what the draft says.
pub record SettlesDraft (native : Arch) (choice : Choice) (draft bytes : List ℕ) : Type 0 where
  pub t : Data
  pub is_text : IsText bytes t
  pub policy : Policy
  pub means : Means t native policy
  pub rules : List Rule
  pub ends : List ℕ
  pub are : AreRulesOf native draft rules ends
  pub settles : Settles choice rules policy
  -- its default verdict is that of the draft's section
  pub default_is : VerdictMeans (family_of native) key.default_action key.default_errno_ret are.seccomp policy.default_word
  -- its machines are those that the draft lists
  pub machines_are : policy.machines ≡ in_order (family_of native) are.archs

-- where it was done: such a bundle
abbrev pub IsSettled : Arch → Choice → List ℕ → Told → Type 0
IsSettled native choice draft told = was_done told.end ≡ true → SettlesDraft native choice draft told.bytes.items

-- the draft, which means a profile; where a choice is made, a bundle that settles the draft
abbrev pub IsMade : Arch → Option Choice → List ℕ → Told → Type 0
IsMade native None draft told = IsRead native draft told
IsMade native (Some choice) draft told = IsSettled native choice draft told

abbrev pub IsAdapted : Arch → Option Choice → Adapted → Type 0
IsAdapted native choice adapted = IsMade native choice (string_bytes adapted.draft) adapted.told
