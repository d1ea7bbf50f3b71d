-- What stands in a bundle and is not read: members of its section under other keys.
use Rattle.std.specs.Prelude.{ℕ, ◌≡◌, ◌+◌, ◌&&◌, ◌||◌, ◌⊎◌}
use Rattle.std.specs.Prelude.{Bool, false, List, [], ◌∷◌, ◌++◌, Option, Some, None}
use Rattle.std.specs.Prelude.{codes, if◌then◌else◌, map, nat_lt}
use Rattle.std.specs.Fmt.{decimal}
use Rattle.std.specs.List.{flat_map, list_any}
use Rattle.std.specs.Str.{IsUtf8, bytes_eq}
use Rattle.json.specs.Json.{Json, document, null, boolean, number, string, array, object}
use Rattle.json.specs.Find.{get}
use Rattle.machines.specs.declared.arch.Arch.{Arch}
use Rattle.machines.specs.declared.arch.Family.{Family}
use Rattle.machines.specs.declared.arch.Family.TheVariants.{Chosen, Whole}
use Rattle.machines.specs.Arch.{family_of}
use Rattle.profile_json.specs.Keys as key
use Rattle.section.specs.Members.{keys_of, list_of}

-- the keys that are read of a bundle, of what stands under `linux`, of the section, of an entry, and of a member of `args`
abbrev pub bundle_keys : List (List ℕ)
bundle_keys = key.oci_version ∷ key.linux ∷ []

abbrev pub linux_keys : List (List ℕ)
linux_keys = key.seccomp ∷ []

abbrev pub section_keys : List (List ℕ)
section_keys =
    key.default_action ∷ key.default_errno_ret ∷ key.architectures ∷ key.flags ∷ key.listener_path ∷ key.listener_metadata
    ∷ key.syscalls ∷ []

-- the key of what is told of other machines, which `recover` writes, and the name of ALLOW
abbrev pub others_key : List ℕ
others_key = codes "x-ccell-otherMachines"

abbrev pub allow_name : List ℕ
allow_name = codes "SCMP_ACT_ALLOW"

-- the keys of a section, and this one
abbrev pub told_keys : List (List ℕ)
told_keys = section_keys ++ others_key ∷ []

abbrev pub entry_keys : List (List ℕ)
entry_keys = key.names ∷ key.action ∷ key.errno_ret ∷ key.args ∷ []

abbrev pub argument_keys : List (List ℕ)
argument_keys = key.index ∷ key.value ∷ key.value_two ∷ key.op ∷ []

-- members that say nothing of calls, and nobody misses
abbrev pub is_remark : List ℕ → Bool
is_remark k = bytes_eq k (codes "comment") || bytes_eq k (codes "$schema")

abbrev pub is_known : List (List ℕ) → List ℕ → Bool
is_known known k = list_any (λ other. bytes_eq other k) known || is_remark k

-- how a key is told: a byte that is no visible character of ASCII as a question mark
abbrev pub shown_byte : ℕ → ℕ
shown_byte b = if nat_lt 32 b && nat_lt b 127 then b else 63

abbrev pub shown : List ℕ → List ℕ
shown k = map shown_byte k

-- the line of a member, by the place of its object and its key
abbrev pub line : List ℕ → List ℕ → List ℕ → List ℕ
line place k what = place ++ shown k ++ what

abbrev pub not_read : List ℕ
not_read = codes ": is not read\n"

abbrev pub unread_line : List (List ℕ) → List ℕ → List ℕ → List ℕ
unread_line known place k = if is_known known k then [] else line place k not_read

-- the lines of the keys that are not read
abbrev pub unread_lines : List (List ℕ) → List ℕ → List (List ℕ) → List ℕ
unread_lines known place keys = flat_map (unread_line known place) keys

abbrev pub object_lines : List (List ℕ) → List ℕ → Json → List ℕ
object_lines known place j = unread_lines known place (keys_of j)

-- of what stands under a key, if something does; if the key stands twice, the last counts
abbrev pub lines_if : (Json → List ℕ) → Option Json → List ℕ
lines_if lines None = []
lines_if lines (Some j) = lines j

-- of members of `args`, from this one on
abbrev pub argument_place : ℕ → ℕ → List ℕ
argument_place entry n = codes "linux.seccomp.syscalls[" ++ (decimal entry ++ (codes "].args[" ++ (decimal n ++ codes "].")))

abbrev pub arguments_lines : ℕ → ℕ → List Json → List ℕ
arguments_lines entry n [] = []
arguments_lines entry n (j ∷ js) = object_lines argument_keys (argument_place entry n) j ++ arguments_lines entry (n + 1) js

-- of entries, from this one on
abbrev pub entry_place : ℕ → List ℕ
entry_place n = codes "linux.seccomp.syscalls[" ++ (decimal n ++ codes "].")

abbrev pub entry_lines : ℕ → Json → List ℕ
entry_lines n j =
    object_lines entry_keys (entry_place n) j ++ lines_if (λ list. arguments_lines n 0 (list_of list)) (get key.args j)

abbrev pub entries_lines : ℕ → List Json → List ℕ
entries_lines n [] = []
entries_lines n (j ∷ js) = entry_lines n j ++ entries_lines (n + 1) js

-- the value is the name of ALLOW
abbrev pub is_allow : Json → Bool
is_allow (string s) = bytes_eq s allow_name
is_allow null = false
is_allow (boolean b) = false
is_allow (number s) = false
is_allow (array js) = false
is_allow (object ms) = false

-- what is told of other machines is told once more, and that no engine reads it; what has no meaning is not read
abbrev pub others_line : Json → List ℕ
others_line j =
    if is_allow j then codes "linux.seccomp.x-ccell-otherMachines: calls of other machines are allowed, as this filter has it; no engine reads this member\n"
    else codes "linux.seccomp.x-ccell-otherMachines: is not read\n"

abbrev pub others_lines : Json → List ℕ
others_lines j = lines_if others_line (get others_key j)

abbrev pub members_lines : Json → List ℕ
members_lines j = object_lines told_keys (codes "linux.seccomp.") j ++ others_lines j

abbrev pub section_lines : Json → List ℕ
section_lines j =
    members_lines j ++ lines_if (λ list. entries_lines 0 (list_of list)) (get key.syscalls j)

abbrev pub linux_lines : Json → List ℕ
linux_lines j = lines_if section_lines (get key.seccomp j)

abbrev pub bundle_lines : Json → List ℕ
bundle_lines j = lines_if linux_lines (get key.linux j)

-- the text of the bytes is this value
abbrev pub IsJson : List ℕ → Json → Type 0
IsJson bytes j = IsUtf8 bytes × (document bytes ≡ Some j)

-- the lines of a text that is JSON; of another text there are none
abbrev pub AreLinesOf : List ℕ → List ℕ → Type 0
AreLinesOf bytes lines =
    ((j : Json) × IsJson bytes j × (lines ≡ bundle_lines j)) ⊎ (((j : Json) → ¬ IsJson bytes j) × (lines ≡ []))

abbrev pub AreUnreadOf : Family → List ℕ → List ℕ → Type 0
AreUnreadOf Chosen bytes lines = lines ≡ []
AreUnreadOf Whole bytes lines = AreLinesOf bytes lines

-- Where all calls of Linux are meant, these lines tell what stands in a bundle and is not read. Where the chosen lists are, there
-- are none.
abbrev pub AreUnread : Arch → List ℕ → List ℕ → Type 0
AreUnread native bytes lines = AreUnreadOf (family_of native) bytes lines
