-- The text that tells what a bundle says of a call whatever its arguments.
use Rattle.std.specs.Prelude.{ℕ, ◌≡◌, ◌⊎◌, ◌+◌, ◌==◌, ◌&&◌, not, Bool, false, if◌then◌else◌, List, [], ◌∷◌, ◌++◌}
use Rattle.std.specs.Prelude.{Option, None, Some, codes}
use Rattle.std.specs.Fmt.{decimal}
use Rattle.std.specs.List.{list_any}
use Rattle.texts.specs.Lines.{line_feed}
use Rattle.machines.specs.declared.arch.Arch.{Arch}
use Rattle.machines.specs.declared.arch.Family.{Family}
use Rattle.machines.specs.Arch.{family_of, token_of}
use Rattle.machines.specs.Numbers.{has_call}
use Rattle.call_words.specs.Wrong.{TellsWrongCall}
use Rattle.profile.specs.declared.conditions.Cond.{Cond}
use Rattle.profile.specs.declared.rules.Rule.{Rule}
use Rattle.profile.specs.Policy.{Policy}
use Rattle.script.specs.Grammar.{LineIs}
use Rattle.script.specs.Commands.{Call}
use Rattle.wording.specs.declared.told.End.TheVariants.{Done}
use Rattle.wording.specs.declared.told.Told.{Told}
use Rattle.wording.specs.Phrases.{action_text, call_on, condition_text, machine_with}
use Rattle.wording.specs.Reason.{entry_at}
use Rattle.wording.specs.Told.{RefusesBundle}
use Rattle.wording.specs.Understood.{IsReadAs}
use Rattle.explain.specs.Refused.{Refuses}

-- conditions, the first behind `if` and the others behind `and`
abbrev pub conditions_text : List ℕ → List Cond → List ℕ
conditions_text word [] = []
conditions_text word (c ∷ conds) = codes " " ++ word ++ codes " " ++ condition_text c ++ conditions_text (codes "and") conds

-- a rule of an entry: its action and its conditions
abbrev pub rule_line : ℕ → Rule → List ℕ
rule_line entry rule =
    codes "entry " ++ decimal entry ++ codes " " ++ action_text rule.word ++ conditions_text (codes "if") rule.conds.items
    ++ line_feed ∷ []

-- the rule is for this call
abbrev pub is_of : Rule → ℕ → ℕ → Bool
is_of rule token nr = token_of rule.arch == token && rule.nr == nr

-- the entry is the one that was told last
abbrev pub is_last : Option ℕ → ℕ → Bool
is_last None entry = false
is_last (Some last) entry = last == entry

-- The lines of the entries that have a rule for a call, in order, of which the first rule has this place. An entry that names the
-- call twice has the same rule twice, and one line.
abbrev pub lines_from : Option ℕ → ℕ → List Rule → List ℕ → ℕ → ℕ → List ℕ
lines_from last place [] ends token nr = []
lines_from last place (rule ∷ rules) ends token nr =
    if is_of rule token nr && not (is_last last (entry_at ends place))
    then rule_line (entry_at ends place) rule ++ lines_from (Some (entry_at ends place)) (place + 1) rules ends token nr
    else lines_from last (place + 1) rules ends token nr

-- what is said where no rule matches
abbrev pub default_line : Policy → List ℕ
default_line p = codes "default " ++ action_text p.default_word ++ line_feed ∷ []

-- what is said of a call of machines that are not listed
abbrev pub foreign_line : List ℕ
foreign_line = codes "foreign KILL_THREAD" ++ line_feed ∷ []

-- the rules for a call and the default, or that it is no call of the profile's machines
abbrev pub said_lines : Policy → List Rule → List ℕ → ℕ → ℕ → List ℕ
said_lines p rules ends token nr =
    if list_any (has_call token nr) p.machines then lines_from None 0 rules ends token nr ++ default_line p else foreign_line

-- the line of a call, and what is said of it
abbrev pub any_text : Family → Policy → List Rule → List ℕ → ℕ → ℕ → List ℕ
any_text family p rules ends token nr = call_on (machine_with family token nr) token nr ++ said_lines p rules ends token nr

-- the text tells of a call each entry of the bundle that has a rule for it, with its conditions, and the default
pub record ExplainsAny (native : Arch) (bundle : List ℕ) (token nr : ℕ) (text : List ℕ) : Type 0 where
  pub policy : Policy
  pub rules : List Rule
  pub ends : List ℕ
  pub read : IsReadAs native bundle policy rules ends
  pub told : text ≡ any_text (family_of native) policy rules ends token nr

-- a line of a script with this word asks for the call of this machine with this number
pub record IsWhat (native : Arch) (word : List ℕ) (arch : Arch) (nr : ℕ) : Type 0 where
  pub id : List ℕ
  pub task : ℕ
  pub args : List ℕ
  pub is_line : LineIs native (codes "call c 1 " ++ word) (Some (Call id task arch nr args None))

-- the word asks for no call, and the lines are told that say so and why
pub record RefusesWord (native : Arch) (word : List ℕ) (told : Told) : Type 0 where
  pub none : (arch : Arch) (nr : ℕ) → IsWhat native word arch nr → ⊥
  pub refuses : Refuses native (TellsWrongCall native word []) told

-- it was done: a text tells it of the call that the word asks for
pub record TellsAny (native : Arch) (bundle word : List ℕ) (told : Told) : Type 0 where
  pub arch : Arch
  pub nr : ℕ
  pub is_what : IsWhat native word arch nr
  pub explains : ExplainsAny native bundle (token_of arch) nr told.bytes.items
  pub end : told.end ≡ Done

abbrev pub IsExplained : Arch → List ℕ → List ℕ → Told → Type 0
IsExplained native bundle word told =
    RefusesWord native word told ⊎ (RefusesBundle native bundle told ⊎ TellsAny native bundle word told)
