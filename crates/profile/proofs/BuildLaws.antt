-- What `build` answers, from what its parts do.
use Rattle.std.proofs.Common.{ℕ, ◌≤◌, List, length, get_or}
use Rattle.std.specs.List.{All, Contains}
use Rattle.std.proofs.lemmas.List.Elements.{All-contains, All-contains_itself, All-weaker}
use Rattle.machines.specs.declared.arch.Arch.{Arch}
use Rattle.profile.specs.declared.rules.Rule.{Rule}
use Rattle.profile.specs.declared.fault.BuildError.{BuildError}
use Rattle.profile.specs.declared.fault.BuildError.TheVariants.{NativeMissing, MixedFamilies, ForeignRule, Overlap, TooMany, OutOfMemory}
use Rattle.profile.specs.Policy.{Policy, InOrder, IsClear, IsProfile, most_rules}
use Rattle.profile.specs.Build.{KeepsOnce, AreMachinesFor, AreListed, IsFirstCause, IsFirstClash}
use Rattle.profile.specs.inner.Kept.{KeepsAt, IsKeepError}
use Rattle.profile.proofs.KeptLaws.{kept_in}
use Rattle.profile.proofs.Clashing.{first_clash_at}
use Rattle.profile.proofs.OneBuilt.{kept_differ, not_many}

-- why the different rules are not kept is an error of `build`
pub not_kept : (native : Arch) (archs : List Arch) (rules : List Rule) (e : BuildError) → AreMachinesFor native archs → AreListed archs rules
    → IsKeepError rules e → IsFirstCause native archs rules e
not_kept native archs rules TooMany n l many = (n, l, many)
not_kept native archs rules OutOfMemory n l _ = (n, l)
not_kept native archs rules NativeMissing n l h = absurd h
not_kept native archs rules MixedFamilies n l h = absurd h
not_kept native archs rules (ForeignRule i) n l h = absurd h
not_kept native archs rules (Overlap i j) n l h = absurd h

-- the first clash of the different rules is an error of `build`
pub overlapping : (native : Arch) (archs : List Arch) (rules kept : List Rule) (places : List ℕ) (i j : ℕ) → AreMachinesFor native archs
    → AreListed archs rules → KeepsAt rules kept places → length kept ≤ most_rules → IsFirstClash kept i j
    → IsFirstCause native archs rules (Overlap (get_or places i 0) (get_or places j 0))
overlapping native archs rules kept places i j n l h few first =
    (n, l, not_many rules kept h.once few, first_clash_at rules kept places i j h first)

-- the parts of what is built are a profile
pub profile_of : (p : Policy) (archs : List Arch) (rules : List Rule) → Contains archs p.native → InOrder p.machines
    → All (Contains p.machines) archs → AreListed archs rules → KeepsOnce rules p.rules → length p.rules ≤ most_rules → IsClear p.rules
    → IsProfile p
profile_of p archs rules n order all l once few clear = record {
  native_listed = All-contains (Contains p.machines) archs p.native all n;
  machines_in_order = order;
  rules_differ = kept_differ rules p.rules once;
  few = few;
  rules_listed =
      All-weaker (Contains p.rules) (λ (rule : Rule). Contains p.machines rule.arch)
      (λ rule has.
      All-contains (Contains p.machines) archs rule.arch all
      (All-contains (λ (r : Rule). Contains archs r.arch) rules rule l (kept_in rules p.rules once rule has)))
      p.rules (All-contains_itself p.rules);
  clear = clear;
}
