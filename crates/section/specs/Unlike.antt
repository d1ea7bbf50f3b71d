-- What readers of a text do not take alike: runtimes and engines. Readers in Go pass over upper and lower case, take U+017F for
-- s and U+212A for k,
-- and merge what stands twice. Readers in C end a key at U+0000, and take the first of two.
use Rattle.std.specs.Prelude.{ℕ, ◌≡◌, ◌<◌, ◌≤◌, ◌+◌, ◌==◌, ◌&&◌, ◌⊎◌, Bool, true}
use Rattle.std.specs.Prelude.{false, List, [], ◌∷◌, ◌++◌, codes, count_by, if◌then◌else◌, length, nat_lt}
use Rattle.std.specs.Fmt.{decimal}
use Rattle.std.specs.List.{flat_map, list_all}
use Rattle.std.specs.Str.{bytes_eq, str_eq_ignore_ascii_case}
use Rattle.json.specs.Json.{Json}
use Rattle.json.specs.Find.{get}
use Rattle.machines.specs.declared.arch.Arch.{Arch}
use Rattle.machines.specs.declared.arch.Family.{Family}
use Rattle.machines.specs.declared.arch.Family.TheVariants.{Chosen, Whole}
use Rattle.machines.specs.Arch.{family_of}
use Rattle.profile_json.specs.Keys as key
use Rattle.section.specs.Members.{keys_of, list_of}
use Rattle.section.specs.Unread.{IsJson, argument_keys, bundle_keys, entry_keys, line, lines_if, linux_keys, section_keys}

-- ---- keys

-- each byte of the key is a visible character of ASCII, or a space
abbrev pub is_plain : List ℕ → Bool
is_plain k = list_all (λ b. nat_lt 31 b && nat_lt b 127) k

-- so many keys are this one but for upper and lower case, and so many are this one
abbrev pub count_alike : List (List ℕ) → List ℕ → ℕ
count_alike keys k = count_by (λ other. str_eq_ignore_ascii_case other k) keys

abbrev pub count_same : List (List ℕ) → List ℕ → ℕ
count_same keys k = count_by (λ other. bytes_eq other k) keys

abbrev pub odd_character : List ℕ
odd_character = codes ": has a character that readers do not take alike\n"

abbrev pub stands_twice : List ℕ
stands_twice = codes ": stands twice, and readers do not take the same one\n"

abbrev pub other_case : List ℕ
other_case = codes ": stands in upper or lower case otherwise, and some readers take it all the same\n"

abbrev pub of_one_engine : List ℕ
of_one_engine = codes ": some engines read it in a section, and others pass over it\n"

abbrev pub beside_linux : List ℕ
beside_linux = codes ": stands beside linux, and readers take either this section or that of linux\n"

-- the lines of keys with other characters
abbrev pub odd_line : List ℕ → List ℕ → List ℕ
odd_line place k = if is_plain k then [] else line place k odd_character

abbrev pub odd_lines : List ℕ → List (List ℕ) → List ℕ
odd_lines place keys = flat_map (odd_line place) keys

-- the line of a key that some reader knows, if it stands twice or otherwise
abbrev pub taken_line : List ℕ → List (List ℕ) → List ℕ → List ℕ
taken_line place keys k =
    if nat_lt 1 (count_alike keys k) then line place k stands_twice
    else if count_alike keys k == count_same keys k then []
    else line place k other_case

abbrev pub taken_lines : List (List ℕ) → List ℕ → List (List ℕ) → List ℕ
taken_lines known place keys = flat_map (taken_line place keys) known

-- of an object, by the keys that some reader knows in it
abbrev pub object_lines : List (List ℕ) → List ℕ → Json → List ℕ
object_lines known place j = odd_lines place (keys_of j) ++ taken_lines known place (keys_of j)

-- the lines of keys that must not stand there
abbrev pub present_line : List ℕ → List ℕ → List (List ℕ) → List ℕ → List ℕ
present_line what place keys k = if nat_lt 0 (count_alike keys k) then line place k what else []

abbrev pub present_lines : List ℕ → List (List ℕ) → List ℕ → List (List ℕ) → List ℕ
present_lines what ks place keys = flat_map (present_line what place keys) ks

-- ---- a section

-- the keys of a section and of an entry that runtimes or engines know
abbrev pub known_of_section : List (List ℕ)
known_of_section = section_keys ++ codes "archMap" ∷ codes "defaultErrno" ∷ []

abbrev pub known_of_entry : List (List ℕ)
known_of_entry = entry_keys ++ codes "name" ∷ codes "errno" ∷ codes "includes" ∷ codes "excludes" ∷ []

-- those that one engine alone reads of a section that stands by itself
abbrev pub own_of_section : Bool → List (List ℕ)
own_of_section false = []
own_of_section true = codes "defaultErrno" ∷ []

abbrev pub own_of_entry : Bool → List (List ℕ)
own_of_entry false = []
own_of_entry true = codes "name" ∷ codes "errno" ∷ []

-- of members of `args`, from this one on
abbrev pub argument_place : List ℕ → ℕ → ℕ → List ℕ
argument_place top entry n = top ++ (codes "syscalls[" ++ (decimal entry ++ (codes "].args[" ++ (decimal n ++ codes "]."))))

abbrev pub arguments_lines : List ℕ → ℕ → ℕ → List Json → List ℕ
arguments_lines top entry n [] = []
arguments_lines top entry n (j ∷ js) =
    object_lines argument_keys (argument_place top entry n) j ++ arguments_lines top entry (n + 1) js

-- of entries, from this one on
abbrev pub entry_place : List ℕ → ℕ → List ℕ
entry_place top n = top ++ (codes "syscalls[" ++ (decimal n ++ codes "]."))

abbrev pub members_of_entry : Bool → List ℕ → Json → List ℕ
members_of_entry alone place j =
    object_lines known_of_entry place j ++ present_lines of_one_engine (own_of_entry alone) place (keys_of j)

abbrev pub entry_lines : Bool → List ℕ → ℕ → Json → List ℕ
entry_lines alone top n j =
    members_of_entry alone (entry_place top n) j ++ lines_if (λ list. arguments_lines top n 0 (list_of list)) (get key.args j)

abbrev pub entries_lines : Bool → List ℕ → ℕ → List Json → List ℕ
entries_lines alone top n [] = []
entries_lines alone top n (j ∷ js) = entry_lines alone top n j ++ entries_lines alone top (n + 1) js

abbrev pub members_of_section : Bool → List ℕ → Json → List ℕ
members_of_section alone top j =
    object_lines known_of_section top j ++ present_lines of_one_engine (own_of_section alone) top (keys_of j)

-- of a section, which stands by itself or not
abbrev pub section_lines : Bool → List ℕ → Json → List ℕ
section_lines alone top j =
    members_of_section alone top j ++ lines_if (λ list. entries_lines alone top 0 (list_of list)) (get key.syscalls j)

-- ---- the text

abbrev pub linux_lines : Json → List ℕ
linux_lines j =
    object_lines linux_keys (codes "linux.") j ++ lines_if (section_lines false (codes "linux.seccomp.")) (get key.seccomp j)

abbrev pub config_members : Json → List ℕ
config_members j = object_lines bundle_keys [] j ++ present_lines beside_linux known_of_section [] (keys_of j)

abbrev pub config_lines : Json → List ℕ
config_lines j = config_members j ++ lines_if linux_lines (get key.linux j)

-- A text in which `linux` stands is a config, and any other a section by itself.
abbrev pub text_lines : Json → List ℕ
text_lines j = if nat_lt 0 (count_alike (keys_of j) key.linux) then config_lines j else section_lines true [] j

-- the lines of a text that is JSON; of another text there are none
abbrev pub AreLinesOf : List ℕ → List ℕ → Type 0
AreLinesOf bytes lines =
    ((j : Json) × IsJson bytes j × (lines ≡ text_lines j)) ⊎ (((j : Json) → ¬ IsJson bytes j) × (lines ≡ []))

-- the most bytes of a text that is read
abbrev pub most_bytes : ℕ
most_bytes = 4194304

-- a text has more, or it has not
abbrev pub IsLarge : List ℕ → Type 0
IsLarge bytes = most_bytes < length bytes

abbrev pub IsReadable : List ℕ → Type 0
IsReadable bytes = length bytes ≤ most_bytes

abbrev pub AreUnlikeOf : Family → List ℕ → List ℕ → Type 0
AreUnlikeOf Chosen bytes lines = lines ≡ []
AreUnlikeOf Whole bytes lines = (IsLarge bytes × (lines ≡ [])) ⊎ (IsReadable bytes × AreLinesOf bytes lines)

-- Where all calls of Linux are meant, these lines tell what readers do not take alike in a text that is read. Where the chosen lists are,
-- there are none.
abbrev pub AreUnlike : Arch → List ℕ → List ℕ → Type 0
AreUnlike native bytes lines = AreUnlikeOf (family_of native) bytes lines

-- every reader takes the text alike
abbrev pub IsAlike : Arch → List ℕ → Type 0
IsAlike native bytes = AreUnlike native bytes []
