-- What is known of a container that was looked for.
use Rattle.std.specs.Prelude.{◌≡◌, ℕ, List, Option, Some}
use Rattle.std.specs.List.{IsDistinct}
use Rattle.std.specs.Map.{lookup, keys_of}
use Rattle.processes.specs.Tasks.{Processes}
use Rattle.processes.specs.Views.{same_text}
use Rattle.lifecycle.specs.declared.runtime.Found.{Found}
use Rattle.lifecycle.specs.declared.runtime.Kept.{Kept}
use Rattle.lifecycle.specs.Entries.{Entries, container_of}

-- it has this id, and its entry is kept under it
pub record IsKept (f : Kept) (id : List ℕ) (es : Entries) : Type 0 where
  pub name : f.name ≡ id
  pub kept : lookup (same_text id) es ≡ Some f.entry
  pub distinct : IsDistinct same_text (keys_of es)

-- and its status is as the kernel says
pub record IsFound (f : Found) (id : List ℕ) (es : Entries) (ps : Option Processes) : Type 0 where
  pub name : f.name ≡ id
  pub kept : lookup (same_text id) es ≡ Some f.entry
  pub status : f.status ≡ (container_of f.entry ps).status
  pub distinct : IsDistinct same_text (keys_of es)
