-- What stands in a section beside its profile. These are the flags with which a runtime loads the filter, and where its listener is
-- (OCI Runtime Specification 1.2.0, config-linux, Seccomp). No verdict depends on them.
use Rattle.std.specs.Prelude.{ℕ, ◌≡◌, ◌⊎◌, List, [], ◌∷◌, ◌++◌, codes}
use Rattle.std.specs.List.{flat_map}
use Rattle.json.specs.Json.{Json, null, boolean, number, string, array, object}
use Rattle.json.specs.Find.{get}
use Rattle.machines.specs.declared.arch.Arch.{Arch}
use Rattle.machines.specs.declared.arch.Family.{Family}
use Rattle.machines.specs.declared.arch.Family.TheVariants.{Chosen, Whole}
use Rattle.machines.specs.Arch.{family_of}
use Rattle.profile_json.specs.Keys as key
use Rattle.section.specs.Members.{list_of}
use Rattle.section.specs.Unread.{IsJson, lines_if, shown}

-- a text; no other value is one
abbrev pub text_of : Json → List ℕ
text_of null = []
text_of (boolean b) = []
text_of (number s) = []
text_of (string s) = s
text_of (array js) = []
text_of (object ms) = []

-- a text in visible characters behind a space, and several
abbrev pub word_of : Json → List ℕ
word_of text = codes " " ++ shown (text_of text)

abbrev pub words_of : List Json → List ℕ
words_of texts = flat_map word_of texts

-- the line of the flags, unless the list is empty
abbrev pub flags_line : List Json → List ℕ
flags_line [] = []
flags_line (flag ∷ flags) = codes "flags" ++ (words_of (flag ∷ flags) ++ codes "\n")

-- the line of a text, unless it is empty
abbrev pub text_line : List ℕ → List ℕ → List ℕ
text_line what [] = []
text_line what (byte ∷ bytes) = what ++ (shown (byte ∷ bytes) ++ codes "\n")

-- the lines of a section: its flags, and the path and the metadata of its listener
abbrev pub flags_of : Json → List ℕ
flags_of j = lines_if (λ list. flags_line (list_of list)) (get key.flags j)

abbrev pub path_of : Json → List ℕ
path_of j = lines_if (λ path. text_line (codes "listener ") (text_of path)) (get key.listener_path j)

abbrev pub metadata_of : Json → List ℕ
metadata_of j = lines_if (λ text. text_line (codes "metadata ") (text_of text)) (get key.listener_metadata j)

abbrev pub section_lines : Json → List ℕ
section_lines j = flags_of j ++ (path_of j ++ metadata_of j)

abbrev pub linux_lines : Json → List ℕ
linux_lines j = lines_if section_lines (get key.seccomp j)

abbrev pub bundle_lines : Json → List ℕ
bundle_lines j = lines_if linux_lines (get key.linux j)

-- the lines of a text that is JSON; of another text there are none
abbrev pub AreLinesOf : List ℕ → List ℕ → Type 0
AreLinesOf bytes lines =
    ((j : Json) × IsJson bytes j × (lines ≡ bundle_lines j)) ⊎ (((j : Json) → ¬ IsJson bytes j) × (lines ≡ []))

abbrev pub AreBesideIn : Family → List ℕ → List ℕ → Type 0
AreBesideIn Chosen bytes lines = lines ≡ []
AreBesideIn Whole bytes lines = AreLinesOf bytes lines

-- Where all calls of Linux are meant, these lines tell the flags and the listener. Where the chosen lists are, a bundle has none.
abbrev pub AreBeside : Arch → List ℕ → List ℕ → Type 0
AreBeside native bytes lines = AreBesideIn (family_of native) bytes lines
