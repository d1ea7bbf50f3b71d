-- What of a bundle calls of logs do not use.
use Rattle.std.specs.Prelude.{ℕ, ◌+◌, ◌-◌, ◌&&◌, Bool, not, nat_lt, is_some, if◌then◌else◌, List, [], ◌∷◌, ◌++◌, Option, Some, None}
use Rattle.std.specs.Prelude.{codes, drop, length, map, take, unwrap_or}
use Rattle.std.specs.Fmt.{decimal}
use Rattle.std.specs.List.{list_all, list_any}
use Rattle.std.specs.Str.{bytes_eq}
use Rattle.texts.specs.Lines.{line_feed}
use Rattle.call_tables.specs.Tables.{table_of}
use Rattle.call_tables.specs.Table.{name_in}
use Rattle.profile.specs.declared.rules.Rule.{Rule}
use Rattle.profile.specs.Said.{matches}
use Rattle.strace_logs.specs.Logged.{Logged}

-- a call of the logs is matched by the rule
abbrev pub is_used : List Logged → Rule → Bool
is_used calls rule = list_any (λ call. matches rule call.words) calls

-- the name of a rule's call, and whether a call of the logs is matched by the rule
abbrev pub use_of : List Logged → Rule → List ℕ × Bool
use_of calls rule = (unwrap_or (name_in (table_of rule.arch) rule.nr) [], is_used calls rule)

-- a rule of this name is used, of whatever machine
abbrev pub is_name_used : List (List ℕ × Bool) → List ℕ → Bool
is_name_used uses name = list_any (λ one. one.1 && bytes_eq one.0 name) uses

-- the name of a rule of an entry, if none of the entry's rules of that name is used
abbrev pub unused_name : List (List ℕ × Bool) → List ℕ × Bool → Option (List ℕ)
unused_name uses one = if is_name_used uses one.0 then None else Some one.0

-- such names, each behind a space; of equal ones that stand beside each other, as of one call on several machines, the first
abbrev pub names_behind : List ℕ → List (Option (List ℕ)) → List ℕ
names_behind last [] = []
names_behind last (None ∷ names) = names_behind last names
names_behind last (Some name ∷ names) = if bytes_eq name last then names_behind last names else codes " " ++ name ++ names_behind name names

-- an entry has rules, and all of them are used
abbrev pub is_whole : List (Option (List ℕ)) → Bool
is_whole names = nat_lt 0 (length names) && list_all (λ name. not (is_some name)) names

-- the line of an entry that is not used, or in part, by the unused names of its rules
abbrev pub entry_text : ℕ → List (Option (List ℕ)) → List ℕ
entry_text entry names =
    if is_whole names then []
    else (if list_any (λ name. not (is_some name)) names then codes "partly used" else codes "unused")
    ++ codes " entry " ++ decimal entry ++ codes ":" ++ names_behind [] names ++ line_feed ∷ []

-- the names of an entry's rules that are not used
abbrev pub unused_names : List (List ℕ × Bool) → List (Option (List ℕ))
unused_names uses = map (unused_name uses) uses

-- the lines of the entries from this one on, whose rules begin at this place, by where the rules of each end
abbrev pub entries_text : List (List ℕ × Bool) → ℕ → ℕ → List ℕ → List ℕ
entries_text uses entry start [] = []
entries_text uses entry start (end ∷ ends) =
    entry_text entry (unused_names (take (end - start) (drop start uses))) ++ entries_text uses (entry + 1) end ends

abbrev pub unused_text : List Rule → List ℕ → List Logged → List ℕ
unused_text rules ends calls = entries_text (map (use_of calls) rules) 0 0 ends
