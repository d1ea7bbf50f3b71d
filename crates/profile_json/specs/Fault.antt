-- Why a bundle is refused, and how it is told.
use Rattle.std.specs.Prelude.{ℕ, List, [], ◌++◌, Option, Some, None, codes}
use Rattle.std.specs.Fmt.{decimal}
use Rattle.texts.specs.Labels.{label_text}
use Rattle.profile_json.specs.declared.fault.ProfileError.{ProfileError}
use Rattle.profile_json.specs.declared.fault.ProfileError.TheVariants as e
use Rattle.profile_json.specs.CallName.{printed}

-- Why a bundle is refused, memory aside. A call name is the beginning that a refusal holds.
pub data Fault : Type 0 where
  syntax : Fault
  version : Fault
  no_seccomp : Fault
  wrong_type : Fault
  missing_key : Fault
  unknown_action : Fault
  unknown_arch : Fault
  native_missing : Fault
  unknown_call : List ℕ → Fault
  empty_names : Fault
  errno_not_taken : Fault
  errno_range : Fault
  unknown_op : Fault
  bad_index : Fault
  repeated_index : Fault
  stray_datum : Fault
  overlap : List ℕ → ℕ → ℕ → Fault
  unsupported_key : Fault
  too_many : Fault

-- the fault that an error names: none for want of memory
abbrev pub fault_of : ProfileError → Option Fault
fault_of e.Syntax = Some syntax
fault_of e.Version = Some version
fault_of e.NoSeccomp = Some no_seccomp
fault_of e.WrongType = Some wrong_type
fault_of e.MissingKey = Some missing_key
fault_of e.UnknownAction = Some unknown_action
fault_of e.UnknownArch = Some unknown_arch
fault_of e.NativeMissing = Some native_missing
fault_of (e.UnknownCall name) = Some (unknown_call name.bytes)
fault_of e.EmptyNames = Some empty_names
fault_of e.ErrnoNotTaken = Some errno_not_taken
fault_of e.ErrnoRange = Some errno_range
fault_of e.UnknownOp = Some unknown_op
fault_of e.BadIndex = Some bad_index
fault_of e.RepeatedIndex = Some repeated_index
fault_of e.StrayDatum = Some stray_datum
fault_of (e.Overlap name first second) = Some (overlap name.bytes first second)
fault_of e.UnsupportedKey = Some unsupported_key
fault_of e.TooMany = Some too_many
fault_of e.OutOfMemory = None

-- the number and the name by which an error is told
abbrev pub label_of : ProfileError → ℕ × List ℕ
label_of e.Syntax = (1, codes "Syntax")
label_of e.Version = (2, codes "Version")
label_of e.NoSeccomp = (3, codes "NoSeccomp")
label_of e.WrongType = (4, codes "WrongType")
label_of e.MissingKey = (5, codes "MissingKey")
label_of e.UnknownAction = (6, codes "UnknownAction")
label_of e.UnknownArch = (7, codes "UnknownArch")
label_of e.NativeMissing = (8, codes "NativeMissing")
label_of (e.UnknownCall name) = (9, codes "UnknownCall")
label_of e.EmptyNames = (10, codes "EmptyNames")
label_of e.ErrnoNotTaken = (11, codes "ErrnoNotTaken")
label_of e.ErrnoRange = (12, codes "ErrnoRange")
label_of e.UnknownOp = (13, codes "UnknownOp")
label_of e.BadIndex = (14, codes "BadIndex")
label_of e.RepeatedIndex = (15, codes "RepeatedIndex")
label_of e.StrayDatum = (16, codes "StrayDatum")
label_of (e.Overlap name first second) = (17, codes "Overlap")
label_of e.UnsupportedKey = (18, codes "UnsupportedKey")
label_of e.TooMany = (19, codes "TooMany")
label_of e.OutOfMemory = (20, codes "OutOfMemory")

-- what is told of a call, and of the two entries that overlap
abbrev pub details_of : ProfileError → List ℕ
details_of e.Syntax = []
details_of e.Version = []
details_of e.NoSeccomp = []
details_of e.WrongType = []
details_of e.MissingKey = []
details_of e.UnknownAction = []
details_of e.UnknownArch = []
details_of e.NativeMissing = []
details_of (e.UnknownCall name) = codes " " ++ printed name.bytes
details_of e.EmptyNames = []
details_of e.ErrnoNotTaken = []
details_of e.ErrnoRange = []
details_of e.UnknownOp = []
details_of e.BadIndex = []
details_of e.RepeatedIndex = []
details_of e.StrayDatum = []
details_of (e.Overlap name first second) = codes " " ++ printed name.bytes ++ codes " " ++ decimal first ++ codes " " ++ decimal second
details_of e.UnsupportedKey = []
details_of e.TooMany = []
details_of e.OutOfMemory = []

-- the text that says it
abbrev pub text_of : ProfileError → List ℕ
text_of error = label_text (label_of error) ++ details_of error
