-- What is told of a bundle, with what stands in it beside its profile, or is not read.
use Rattle.std.specs.Prelude.{ℕ, ◌≡◌, ◌⊎◌, ◌==◌, true, false, List, ◌++◌, length}
use Rattle.machines.specs.declared.arch.Arch.{Arch}
use Rattle.section.specs.Beside.{AreBeside}
use Rattle.section.specs.Unread.{AreUnread}
use Rattle.wording.specs.Told.{end_if, was_done}
use Rattle.wording.specs.declared.told.Told.{Told}

-- if it was done, the lines of flags and listener stand behind what was told
pub record AddsBeside (native : Arch) (bundle : List ℕ) (inner told : Told) : Type 0 where
  pub lines : List ℕ
  pub beside : AreBeside native bundle lines
  pub bytes : told.bytes.items ≡ inner.bytes.items ++ lines
  pub end : told.end ≡ inner.end

abbrev pub TellsBeside : Arch → List ℕ → Told → Told → Type 0
TellsBeside native bundle inner told =
    ((was_done inner.end ≡ false) × (told ≡ inner)) ⊎ ((was_done inner.end ≡ true) × AddsBeside native bundle inner told)

-- the lines of what is not read stand behind what was told
pub record TellsUnread (native : Arch) (bundle : List ℕ) (inner told : Told) : Type 0 where
  pub lines : List ℕ
  pub unread : AreUnread native bundle lines
  pub bytes : told.bytes.items ≡ inner.bytes.items ++ lines
  pub end : told.end ≡ inner.end

-- the same, and it is done only if all is read
pub record RefusesUnread (native : Arch) (bundle : List ℕ) (inner told : Told) : Type 0 where
  pub lines : List ℕ
  pub unread : AreUnread native bundle lines
  pub bytes : told.bytes.items ≡ inner.bytes.items ++ lines
  pub end : told.end ≡ end_if (length lines == 0) inner.end
