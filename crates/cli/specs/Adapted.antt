-- The bundle that `adapt` makes of an engine's configuration.
use Rattle.std.specs.Prelude.{ℕ, ◌≡◌, ◌≤◌, ◌⊎◌, Bool, true, false, List, [], Option, codes, filter, length, map, not}
use Rattle.std.specs.List.{Any}
use Rattle.std.specs.Str.{bytes_eq}
use denote.Ref.{Bor}
use Rattle.section.specs.Sections.{KeepsMeaning}
use Rattle.section.specs.Texts.{IsBundleText}
use Rattle.engines.specs.Adapted.{IsMade}
use Rattle.engines.specs.Words.{AskFor}
use Rattle.engines.specs.declared.words.Wanted.{Wanted}
use Rattle.machines.specs.declared.arch.Arch.{Arch}
use Rattle.wording.specs.Told.{was_done}
use Rattle.wording.specs.declared.told.Told.{Told}
use Rattle.widths.specs.Narrow.{IsTold}
use Rattle.engines.specs.declared.settling.choice.Choice.{Choice}

-- one of the words is `narrow`
abbrev pub AsksNarrow : List (Bor (List ℕ)) → Type 0
AsksNarrow words = Any (λ word. word.now ≡ codes "narrow") words

abbrev pub is_narrow : List ℕ → Bool
is_narrow word = bytes_eq word (codes "narrow")

-- `narrow` stands once at most, and the other words ask for this
pub record AskToAdapt (words : List (List ℕ)) (wanted : Wanted) : Type 0 where
  pub once : length (filter is_narrow words) ≤ 1
  pub others : AskFor (filter (λ word. not (is_narrow word)) words) wanted

-- the words ask for nothing
abbrev pub AskNothing : List (List ℕ) → Type 0
AskNothing words = (wanted : Wanted) → ¬ AskToAdapt words wanted

-- a bundle that means a profile, which settles the entries of a draft if a choice is made
abbrev pub IsMadeOfDraft : Arch → Option Choice → Told → Type 0
IsMadeOfDraft native choice told = (draft : List ℕ) × IsMade native choice draft told

-- the narrowed bundle of one that was made; or none was made, which is told
pub record IsNarrowedOne (native : Arch) (choice : Option Choice) (told : Told) : Type 0 where
  pub made : Told
  pub is_made : IsMadeOfDraft native choice made
  pub is_narrowed : ((was_done made.end ≡ true) × IsTold native made.bytes.items told) ⊎ ((was_done made.end ≡ false) × (told ≡ made))

-- a bundle that was made, or the narrowed one of it if `narrow` is one of the words
abbrev pub IsMadeBy : Arch → Option Choice → List (Bor (List ℕ)) → Told → Type 0
IsMadeBy native choice words told =
    (AsksNarrow words × IsNarrowedOne native choice told) ⊎ (¬ AsksNarrow words × IsMadeOfDraft native choice told)

-- where a text is taken as a bundle that means a profile, what was made means this very profile
pub record KeepsText (native : Arch) (text made : List ℕ) : Type 0 where
  pub bundle : List ℕ
  pub taken : IsBundleText native text bundle
  pub keeps : KeepsMeaning native bundle made

-- Such a bundle of a text, by the choice that the words name, if they name one. With no word nothing else is asked than what the text says.
pub record IsMadeAs (native : Arch) (text : List ℕ) (words : List (Bor (List ℕ))) (told : Told) : Type 0 where
  pub wanted : Wanted
  pub asked : AskToAdapt (map (λ w. w.now) words) wanted
  pub made : IsMadeBy native wanted.choice words told
  pub kept : words ≡ [] → was_done told.end ≡ true → KeepsText native text told.bytes.items
