-- The lines that tell which calls of groups are allowed, and which ones no machine has.
use Rattle.std.specs.Prelude.{ℕ, Bool, not, codes, List, [], ◌∷◌, ◌++◌, filter, is_some}
use Rattle.std.specs.List.{flat_map, list_any}
use Rattle.call_groups.specs.Groups.{calls_of}
use Rattle.machines.specs.declared.arch.Arch.{Arch}
use Rattle.call_tables.specs.Tables.{table_of}
use Rattle.call_tables.specs.Table.{number_in}

-- a machine has a call of that name, one of these has, or none
abbrev pub has_on : List ℕ → Arch → Bool
has_on name arch = is_some (number_in (table_of arch) name)

abbrev pub has : List Arch → List ℕ → Bool
has machines name = list_any (has_on name) machines

abbrev pub lacks : List Arch → List ℕ → Bool
lacks machines name = not (has machines name)

abbrev pub none : List (List ℕ)
none = []

-- each name behind a space
abbrev pub spaced : List ℕ → List ℕ
spaced name = codes " " ++ name

-- a group and words, with names behind them; no names, no line
abbrev pub line_of : List ℕ → List ℕ → List (List ℕ) → List ℕ
line_of group words [] = []
line_of group words (name ∷ names) = group ++ words ++ flat_map spaced (name ∷ names) ++ codes "\n"

abbrev pub allows_words : List ℕ
allows_words = codes " allows"

abbrev pub lacks_words : List ℕ
lacks_words = codes " has, and no machine of the profile:"

-- the lines of a group, and of groups
abbrev pub group_report : List Arch → List ℕ → List ℕ
group_report machines group =
    line_of group allows_words (filter (has machines) (calls_of group))
    ++ line_of group lacks_words (filter (lacks machines) (calls_of group))

abbrev pub report : List Arch → List (List ℕ) → List ℕ
report machines groups = flat_map (group_report machines) groups
