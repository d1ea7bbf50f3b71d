-- What `read` and `lint` tell of a bundle.
use Rattle.std.specs.Prelude.{ℕ, ◌≡◌, ◌⊎◌, Bool, true, false, if◌then◌else◌, List, [], ◌++◌, codes}
use Rattle.machines.specs.declared.arch.Arch.{Arch}
use Rattle.call_words.specs.Told.{AreNames}
use Rattle.compare.specs.Hints.{IsHint}
use Rattle.compare.specs.declared.lint.hints.Hinted.{Hinted}
use Rattle.compare.specs.Linted.{IsLinted}
use Rattle.show.specs.Read.{IsReadOut}
use Rattle.show.specs.Unread.{RefusesUnread}
use Rattle.wording.specs.Told.{RefusesBundle, TellsText, was_done}
use Rattle.wording.specs.declared.told.Told.{Told}
use Rattle.show.specs.Text.{IsTextOf}

-- behind what was told stand the lines of the names of constants
pub record HasNames (native : Arch) (bundle : List ℕ) (inner told : Told) : Type 0 where
  pub lines : List ℕ
  pub names : AreNames native bundle lines
  pub text : told.bytes.items ≡ inner.bytes.items ++ lines
  pub end : told.end ≡ inner.end

-- the lines behind what a bundle means: if calls get past it, and if it stops some
abbrev pub past_line : Bool → List ℕ
past_line is = if is then codes "ccell lint reports calls that get past this bundle\n" else []

abbrev pub stopped_line : Bool → List ℕ
stopped_line is = if is then codes "ccell lint reports calls that this bundle stops by bits that Linux does not read\n" else []

-- those lines stand behind what is told
pub record HasHint (hint : Hinted) (inner told : Told) : Type 0 where
  pub text : told.bytes.items ≡ inner.bytes.items ++ (past_line hint.past ++ stopped_line hint.stopped)
  pub end : told.end ≡ inner.end

-- What the bundle means, or why it is refused, and the names of constants. If it is not refused, the lines behind these tell what `lint`
-- has to report.
pub record TellsRead (native : Arch) (bundle : List ℕ) (told : Told) : Type 0 where
  pub meaning : Told
  pub is_read : IsReadOut native bundle meaning
  pub inner : Told
  pub named : HasNames native bundle meaning inner
  pub hinted : ((told ≡ inner) × (was_done inner.end ≡ false)) ⊎ ((hint : Hinted) × HasHint hint inner told × IsHint native bundle hint)

-- What `lint` finds, the lines of what is not read, and the names of constants. It is done only if nothing is found, and all is read.
pub record TellsLinted (native : Arch) (bundle : List ℕ) (told : Told) : Type 0 where
  pub found : Told
  pub is_linted : IsLinted native bundle found
  pub inner : Told
  pub unread : RefusesUnread native bundle found inner
  pub named : HasNames native bundle inner told

-- it was done: the text of the profile that the bundle means
pub record TellsProfile (native : Arch) (bundle : List ℕ) (told : Told) : Type 0 where
  pub text : List ℕ
  pub is : IsTextOf native bundle text
  pub tells : TellsText text told

-- the text of the profile, or why the bundle is refused
abbrev pub TellsRules : Arch → List ℕ → Told → Type 0
TellsRules native bundle told = RefusesBundle native bundle told ⊎ TellsProfile native bundle told
