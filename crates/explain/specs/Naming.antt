-- What a word of a line of a kernel's audit tells of the process.
use Rattle.std.specs.Prelude.{ℕ, ◌&&◌, nat_lt, Bool, if◌then◌else◌, List, [], ◌++◌, Option, Some, None, codes}
use Rattle.std.specs.List.{list_all}
use Rattle.std.specs.Str.{is_utf8}
use Rattle.texts.specs.Splits.{behind}

-- a value as text
abbrev pub text_of : List ℕ → Option (List ℕ)
text_of value = if is_utf8 value then Some value else None

-- visible ASCII, which is all that a kernel writes
abbrev pub is_visible : ℕ → Bool
is_visible b = nat_lt 32 b && nat_lt b 127

-- A value as it stands. auditd writes names as they are behind `-i`: one with other bytes is not written to a terminal.
abbrev pub shown : Option (List ℕ) → List ℕ
shown None = codes "?"
shown (Some text) = if list_all is_visible text then text else codes "?"

abbrev pub named_by : List ℕ → Option (List ℕ) → List ℕ
named_by key None = []
named_by key (Some value) = codes " " ++ key ++ shown (text_of value)

-- What a word tells of the process: its number, its name or its program, behind a space.
abbrev pub naming : List ℕ → List ℕ
naming word =
    named_by (codes "pid=") (behind (codes "pid=") word) ++ named_by (codes "comm=") (behind (codes "comm=") word)
    ++ named_by (codes "exe=") (behind (codes "exe=") word)
