-- What is told of a bundle that is read: what it means, or why it is refused.
use Rattle.std.specs.Prelude.{ℕ, ◌≡◌, ◌≢◌, ◌⊎◌, ◌+◌, ◌-◌, if◌then◌else◌, List, [], ◌∷◌, ◌++◌}
use Rattle.std.specs.Prelude.{codes, drop, take, unwrap_or, IfSome}
use Rattle.std.specs.Fmt.{decimal}
use Rattle.std.specs.List.{flat_map}
use Rattle.std.specs.Str.{bytes_eq}
use Rattle.texts.specs.Lines.{line_feed}
use Rattle.machines.specs.declared.arch.Arch.{Arch}
use Rattle.machines.specs.Arch.{machine_name}
use Rattle.call_tables.specs.Tables.{table_of}
use Rattle.call_tables.specs.Table.{name_in}
use Rattle.profile.specs.declared.conditions.Cond.{Cond}
use Rattle.profile.specs.declared.rules.Rule.{Rule}
use Rattle.profile.specs.Policy.{Policy}
use Rattle.profile_json.specs.Place.{BreaksAt}
use Rattle.profile_json.specs.declared.refusal.Place.{Place}
use Rattle.profile_json.specs.Fault.{fault_of, text_of}
use Rattle.profile_json.specs.declared.fault.ProfileError.{ProfileError}
use Rattle.profile_json.specs.declared.fault.ProfileError.TheVariants.{OutOfMemory, Version}
use Rattle.wording.specs.declared.told.End.TheVariants.{Refused}
use Rattle.wording.specs.declared.told.Told.{Told}
use Rattle.wording.specs.Phrases.{action_text, condition_text}
use Rattle.wording.specs.Told.{TellsText}
use Rattle.wording.specs.Understood.{IsReadAs}
use Rattle.show.specs.Placed.{path}
use Rattle.show.specs.Unread.{TellsBeside, TellsUnread}

-- the line of the machines
abbrev pub machines_line : List Arch → List ℕ
machines_line machines = codes "machines" ++ flat_map (λ arch. codes " " ++ machine_name arch) machines ++ line_feed ∷ []

-- the line of what is said of calls that no entry matches
abbrev pub default_line : ℕ → List ℕ
default_line word = codes "default " ++ action_text word ++ line_feed ∷ []

-- the name of a rule's call
abbrev pub name_of : Rule → List ℕ
name_of rule = unwrap_or (name_in (table_of rule.arch) rule.nr) []

-- the names of calls, each behind a space; of equal ones that stand beside each other, as of one call on several machines, the first
abbrev pub names_behind : List ℕ → List Rule → List ℕ
names_behind last [] = []
names_behind last (rule ∷ rules) =
    if bytes_eq (name_of rule) last then names_behind last rules else codes " " ++ name_of rule ++ names_behind (name_of rule) rules

-- the conditions, of which all have to hold
abbrev pub conditions_text : List Cond → List ℕ
conditions_text [] = []
conditions_text (cond ∷ conds) = codes " if " ++ condition_text cond ++ flat_map (λ c. codes " and " ++ condition_text c) conds

-- the line of an entry with rules, which have the verdict and the conditions of one of them
abbrev pub rules_line : ℕ → Rule → List Rule → List ℕ
rules_line entry one rules =
    codes "entry " ++ decimal entry ++ codes " " ++ action_text one.word ++ codes ":" ++ names_behind [] rules
    ++ conditions_text one.conds.items ++ line_feed ∷ []

-- the line of an entry, by its rules
abbrev pub entry_text : ℕ → List Rule → List ℕ
entry_text entry [] = codes "entry " ++ decimal entry ++ codes " names no call of these machines" ++ line_feed ∷ []
entry_text entry (rule ∷ rules) = rules_line entry rule (rule ∷ rules)

-- the lines of the entries from this one on, whose rules begin at this place, by where the rules of each end
abbrev pub entries_text : List Rule → ℕ → ℕ → List ℕ → List ℕ
entries_text rules entry start [] = []
entries_text rules entry start (end ∷ ends) =
    entry_text entry (take (end - start) (drop start rules)) ++ entries_text rules (entry + 1) end ends

-- what a bundle means: its machines, what is said of calls that no entry matches, and each entry
abbrev pub bundle_text : Policy → List Rule → List ℕ → List ℕ
bundle_text policy rules ends =
    machines_line policy.machines ++ default_line policy.default_word ++ entries_text rules 0 0 ends

-- it was done: what the bundle means is told
pub record TellsMeaning (native : Arch) (bundle : List ℕ) (told : Told) : Type 0 where
  pub policy : Policy
  pub rules : List Rule
  pub ends : List ℕ
  pub read : IsReadAs native bundle policy rules ends
  pub tells : TellsText (bundle_text policy rules ends) told

-- a line that begins with the path of a place
abbrev pub IsPlaceLine : Place → List ℕ → Type 0
IsPlaceLine place line = (rest : List ℕ) × (line ≡ codes "at " ++ (path place ++ rest))

-- the bundle is refused for a fault that it has; the first line says so, and the line behind it at which place the fault stands
pub record TellsFault (native : Arch) (bundle : List ℕ) (told : Told) : Type 0 where
  pub error : ProfileError
  pub is_fault : error ≢ OutOfMemory
  pub place : Place
  pub stands : IfSome (fault_of error) (BreaksAt bundle native place)
  pub line : List ℕ
  pub is_line : IsPlaceLine place line
  pub tells : told.bytes.items ≡ codes "refused profile " ++ text_of error ++ line_feed ∷ line
  pub end : told.end ≡ Refused

-- the bundle's edition is refused; nothing is said of the text
pub record TellsEdition (native : Arch) (bundle : List ℕ) (told : Told) : Type 0 where
  pub place : Place
  pub stands : IfSome (fault_of Version) (BreaksAt bundle native place)
  pub end : told.end ≡ Refused

abbrev pub IsRead : Arch → List ℕ → Told → Type 0
IsRead native bundle told = TellsMeaning native bundle told ⊎ (TellsFault native bundle told ⊎ TellsEdition native bundle told)

-- behind this the lines are told of flags and listener, and of what stands in the bundle and is not read
pub record IsReadOut (native : Arch) (bundle : List ℕ) (told : Told) : Type 0 where
  pub inner : Told
  pub is_read : IsRead native bundle inner
  pub middle : Told
  pub beside : TellsBeside native bundle inner middle
  pub unread : TellsUnread native bundle middle told
