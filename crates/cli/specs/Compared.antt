-- What `compare` tells of two bundles: what its name says of their profiles, and before it what stands beside these, if that is unlike.
use Rattle.std.specs.Prelude.{ℕ, ◌≡◌, ◌⊎◌, ◌&&◌, Bool, true, false, List, [], ◌∷◌, ◌++◌, codes, if◌then◌else◌}
use Rattle.std.specs.Str.{bytes_eq}
use Rattle.machines.specs.declared.arch.Arch.{Arch}
use Rattle.compare.specs.Told.{IsCompared}
use Rattle.section.specs.Beside.{AreBeside}
use Rattle.wording.specs.Told.{end_if, was_refused}
use Rattle.wording.specs.declared.told.End.{End}
use Rattle.wording.specs.declared.told.Told.{Told}

-- what one of the two has beside its profile
abbrev pub side_head : List ℕ → List ℕ
side_head side = codes "beside its profile the " ++ side

abbrev pub side_rest : List ℕ → List ℕ
side_rest [] = codes " bundle has nothing\n"
side_rest (byte ∷ bytes) = codes " bundle has\n" ++ byte ∷ bytes

abbrev pub side_text : List ℕ → List ℕ → List ℕ
side_text side lines = side_head side ++ side_rest lines

-- what both have, unless it is the same
abbrev pub sides_text : List ℕ → List ℕ → List ℕ
sides_text old new = if bytes_eq old new then [] else side_text (codes "old") old ++ side_text (codes "new") new

-- with `atmost` it is done only if the two have the same beside their profiles
abbrev pub end_beside : Bool → List ℕ → List ℕ → End → End
end_beside true old new end = end_if (bytes_eq old new) end
end_beside false old new end = end

-- before what was told stand the lines of the flags and the listeners of the two bundles, if these are unlike
pub record TellsSides (atmost : Bool) (native : Arch) (first second : List ℕ) (inner told : Told) : Type 0 where
  pub old : List ℕ
  pub new : List ℕ
  pub of_old : AreBeside native first old
  pub of_new : AreBeside native second new
  pub bytes : told.bytes.items ≡ sides_text old new ++ inner.bytes.items
  pub end : told.end ≡ end_beside atmost old new inner.end

-- a bundle is refused, and nothing stands before that; or both mean profiles
pub record TellsCompared (atmost : Bool) (native : Arch) (first second : List ℕ) (told : Told) : Type 0 where
  pub inner : Told
  pub is : IsCompared atmost native first second inner
  pub text : ((was_refused inner.end ≡ true) × (told ≡ inner))
      ⊎ ((was_refused inner.end ≡ false) × TellsSides atmost native first second inner told)
