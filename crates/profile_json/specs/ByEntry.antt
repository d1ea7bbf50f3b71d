-- The rules that a bundle says, entry by entry (OCI Runtime Specification, config-linux, Seccomp, `syscalls`).
use Rattle.std.specs.Prelude.{◌≡◌, ℕ, List, map, nat_lt, position, Some}
use Rattle.serde_json.specs.Data.{Data}
use Rattle.machines.specs.declared.arch.Arch.{Arch}
use Rattle.machines.specs.Arch.{family_of}
use Rattle.profile.specs.declared.rules.Rule.{Rule}
use Rattle.profile_json.specs.Parts.{EntryParts, rule_parts}
use Rattle.profile.specs.Machines.{in_order}
use Rattle.profile_json.specs.Rules.{rules_of, ends_after}
use Rattle.profile_json.specs.Meaning.{IsText, RootMeans, ListsArchs, EntriesMean}

-- the rules that the entries of a text say on its machines, and for each entry how many there are up to its end
pub record AreRulesOf (native : Arch) (bytes : List ℕ) (rules : List Rule) (ends : List ℕ) : Type 0 where
  pub t : Data
  pub is_text : IsText bytes t
  pub seccomp : Data
  pub root : RootMeans (family_of native) t seccomp
  pub archs : List Arch
  pub lists_archs : ListsArchs seccomp native archs
  pub entries : List EntryParts
  pub entries_are : EntriesMean (family_of native) seccomp entries
  pub rules_are : map rule_parts rules ≡ rules_of (in_order (family_of native) archs) entries
  pub ends_are : ends ≡ ends_after 0 (in_order (family_of native) archs) entries

-- the rule at this place is one of the entry at that place, both counted from 0
abbrev pub IsOfEntry : List ℕ → ℕ → ℕ → Type 0
IsOfEntry ends place entry = position (λ end. nat_lt place end) ends ≡ Some entry
