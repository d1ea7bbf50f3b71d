-- A file that is read as a bundle.
use Rattle.std.specs.Prelude.{ℕ, ◌≡◌, List}
use Rattle.machines.specs.declared.arch.Arch.{Arch}
use Rattle.section.specs.Remarks.{IsRemark, line_of}
use Rattle.section.specs.Texts.{IsBundleText}
use Rattle.section.specs.Unlike.{AreUnlike}
use Rattle.section.specs.declared.taken.Taken.{Taken}

-- The document is the bundle as which the bytes are taken. The kind has the line that says what they are, if they are neither a bundle nor
-- a section.
pub record IsTaken (native : Arch) (bytes : List ℕ) (taken : Taken) : Type 0 where
  pub native_is : taken.document.native ≡ native
  pub text : IsBundleText native bytes taken.document.bytes
  pub line : IsRemark native bytes (line_of taken.kind)
  pub unlike : AreUnlike native bytes taken.unlike.items
