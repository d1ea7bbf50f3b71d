-- Groups of calls among the words of `adapt` and `learn`, and what is made with their calls.
use Rattle.std.specs.Prelude.{ℕ, ◌≡◌, ◌⊎◌, Bool, true, false, not, List, [], filter}
use Rattle.std.specs.List.{list_all}
use Rattle.allow_groups.specs.Allowed.{HasGroups}
use Rattle.call_groups.specs.Groups.{is_group, is_known}
use Rattle.machines.specs.declared.arch.Arch.{Arch}
use Rattle.wording.specs.Told.{was_done}
use Rattle.wording.specs.declared.told.Told.{Told}

-- the words that name groups, and the others
abbrev pub groups_in : List (List ℕ) → List (List ℕ)
groups_in words = filter is_group words

abbrev pub is_other : List ℕ → Bool
is_other word = not (is_group word)

abbrev pub others_in : List (List ℕ) → List (List ℕ)
others_in words = filter is_other words

-- there is each of the groups, or one of them is not
abbrev pub are_known : List (List ℕ) → Bool
are_known groups = list_all is_known groups

abbrev pub AreKnown : List (List ℕ) → Type 0
AreKnown groups = are_known groups ≡ true

abbrev pub OneIsUnknown : List (List ℕ) → Type 0
OneIsUnknown groups = are_known groups ≡ false

-- With no groups, or where nothing was made, it is what was made. Else it is a bundle with the calls of the groups, or none.
abbrev pub IsGrown : Arch → List (List ℕ) → Told → Told → Type 0
IsGrown native groups made told =
    (((groups ≡ []) ⊎ (was_done made.end ≡ false)) × (told ≡ made))
    ⊎ ((was_done made.end ≡ true)
    × (was_done told.end ≡ true → (lines : List ℕ) × HasGroups native groups made.bytes.items told.bytes.items lines))

-- so is what was made
abbrev pub WithGroups : Arch → List (List ℕ) → (Told → Type 0) → Told → Type 0
WithGroups native groups Is told = (made : Told) × Is made × IsGrown native groups made told
