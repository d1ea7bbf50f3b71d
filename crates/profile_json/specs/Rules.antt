-- The rules that entries say on the listed machines.
use Rattle.std.specs.Prelude.{ℕ, ◌+◌, List, [], ◌∷◌, length, option_map}
use Rattle.std.specs.List.{filter_map, flat_map}
use Rattle.machines.specs.declared.arch.Arch.{Arch}
use Rattle.call_tables.specs.Tables.{table_of}
use Rattle.call_tables.specs.Table.{number_in}
use Rattle.profile_json.specs.Parts.{EntryParts, RuleParts}

-- no machine listed means the native one
abbrev pub or_native : Arch → List Arch → List Arch
or_native native [] = native ∷ []
or_native native (a ∷ more) = a ∷ more

abbrev pub rule_of : EntryParts → Arch → ℕ → RuleParts
rule_of e arch nr = record { arch = arch; nr = nr; conds = e.conds; word = e.word }

-- one rule for each machine whose table has the name
abbrev pub rules_under : List Arch → EntryParts → List ℕ → List RuleParts
rules_under machines e name = filter_map (λ arch. option_map (rule_of e arch) (number_in (table_of arch) name)) machines

abbrev pub rules_of_entry : List Arch → EntryParts → List RuleParts
rules_of_entry machines e = flat_map (rules_under machines e) e.names

abbrev pub rules_of : List Arch → List EntryParts → List RuleParts
rules_of machines es = flat_map (rules_of_entry machines) es

-- how many rules there are up to the end of each entry, after n rules
abbrev pub ends_after : ℕ → List Arch → List EntryParts → List ℕ
ends_after n machines [] = []
ends_after n machines (e ∷ es) = (n + length (rules_of_entry machines e)) ∷ ends_after (n + length (rules_of_entry machines e)) machines es
