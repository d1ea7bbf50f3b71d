-- Files by their names, and what is read of them.
use Rattle.std.specs.Prelude.{ℕ, ◌≡◌, ◌≤◌, ◌%◌, List, [], ◌++◌, length, Option, Some, None}
use Rattle.machines.specs.declared.arch.Arch.{Arch}
use Rattle.byte_order.specs.Turned.{read_as}
use Rattle.profile_json.specs.Document.{TextFor}
use Rattle.section.specs.Texts.{IsBundleText}
use Rattle.cli.specs.declared.fault.FileFault.{FileFault}
use Rattle.cli.specs.declared.fault.FileFault.TheVariants.{CannotRead, OutOfMemory}

-- the bytes of the file of each name, if it can be read
abbrev pub Folder : Type 0
Folder = List ℕ → Option (List ℕ)

-- The file of that name has these bytes. Where it is not told what files have, nothing is said.
abbrev pub HasBytes : Option Folder → List ℕ → List ℕ → Type 0
HasBytes (Some folder) name bytes = folder name ≡ Some bytes
HasBytes None name bytes = Unit {0}

-- The file of that name has bytes that are taken as this bundle: they are it, or the section in it.
pub record HasBundle (native : Arch) (folder : Option Folder) (name bundle : List ℕ) : Type 0 where
  pub file : List ℕ
  pub is : HasBytes folder name file
  pub taken : IsBundleText native file bundle

-- so of a bundle that was read for the machine
pub record HasDocument (native : Arch) (folder : Option Folder) (name : List ℕ) (document : TextFor) : Type 0 where
  pub machine : document.native ≡ native
  pub has : HasBundle native folder name document.bytes

-- the file of that name has the bytes of this filter, in the machine's order of bytes
pub record HasFilter (native : Arch) (folder : Option Folder) (name filter : List ℕ) : Type 0 where
  pub file : List ℕ
  pub is : HasBytes folder name file
  pub read : filter ≡ read_as native file

-- the file of that name cannot be read
abbrev pub CannotBeRead : Option Folder → List ℕ → Type 0
CannotBeRead (Some folder) name = folder name ≡ None
CannotBeRead None name = Unit {0}

-- A file of that name was opened, and these bytes of it are left, where it is told what files have: all.
abbrev pub IsOpened : Option Folder → List ℕ → Option (List ℕ) → Type 0
IsOpened (Some folder) name left = (bytes : List ℕ) × (folder name ≡ Some bytes) × (left ≡ Some bytes)
IsOpened None name left = Unit {0}

-- why a file is not read; memory may be refused at any time
abbrev pub IsUnread : Option Folder → List ℕ → FileFault → Type 0
IsUnread folder name CannotRead = CannotBeRead folder name
IsUnread folder name OutOfMemory = Unit {0}

-- What is read of a file that is refused by its length alone if it has more than so many bytes. It is all of the file. Or, of a
-- longer one, it is its first bytes, more than so many, and a multiple of eight is left out.
pub record IsEnough (most : ℕ) (file bytes : List ℕ) : Type 0 where
  pub rest : List ℕ
  pub split : file ≡ bytes ++ rest
  pub whole : length bytes ≤ most → rest ≡ []
  pub eights : length rest % 8 ≡ 0

-- such bytes of the file of that name
pub record HasEnough (most : ℕ) (folder : Option Folder) (name bytes : List ℕ) : Type 0 where
  pub file : List ℕ
  pub is : HasBytes folder name file
  pub enough : IsEnough most file bytes

-- the same of a filter, of which more bytes than 4,096 instructions have are refused
pub record HasEnoughFilter (native : Arch) (folder : Option Folder) (name bytes : List ℕ) : Type 0 where
  pub filter : List ℕ
  pub has : HasFilter native folder name filter
  pub enough : IsEnough 32768 filter bytes
