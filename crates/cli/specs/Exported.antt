-- What `export` tells of a bundle, as a machine has it.
use Rattle.std.specs.Prelude.{ℕ, ◌≡◌, Bool, true, List, [], Ok}
use Rattle.machines.specs.declared.arch.Arch.{Arch}
use Rattle.byte_order.specs.Turned.{written_as}
use Rattle.maker.specs.declared.export.form.Form.{Form}
use Rattle.maker.specs.declared.export.form.Form.TheVariants.{Raw}
use Rattle.maker.specs.Exported.{Exports}
use Rattle.wording.specs.Told.{was_done}
use Rattle.wording.specs.declared.told.Told.{Told}
use Rattle.cli.specs.Json.{Kept, kept, kept_failures}

-- the file of a filter's bytes, and any other answer as it is
abbrev pub file_in : Arch → Form → Bool → List ℕ → List ℕ
file_in native Raw true bytes = written_as native bytes
file_in native other done bytes = bytes

-- what is told is what is exported, as the machine has it
pub record TellsExported (native : Arch) (form : Form) (bundle : List ℕ) (told : Told) : Type 0 where
  pub before : Kept
  pub after : Kept
  pub empty : before.writer.items ≡ []
  pub exports : Exports kept kept_failures before after native bundle form (Ok (was_done told.end))
  pub file : told.bytes.items ≡ file_in native form (was_done told.end) after.writer.items
