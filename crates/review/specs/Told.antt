-- How it is told what a profile leaves open.
use Rattle.std.specs.Prelude.{◌≡◌, ◌&&◌, ℕ, ◌+◌, Bool, true, false, if◌then◌else◌, List, [], ◌∷◌, ◌++◌, Option, Some, None, codes}
use Rattle.std.specs.Fmt.{decimal}
use Rattle.std.specs.List.{list_all, list_any}
use Rattle.std.specs.Str.{bytes_eq}
use Rattle.call_record.specs.Record.{words}
use Rattle.machines.specs.Arch.{machine_name}
use Rattle.call_tables.specs.Tables.{table_of}
use Rattle.call_tables.specs.Table.{name_in}
use Rattle.profile.specs.declared.conditions.Cond.{Cond}
use Rattle.profile.specs.declared.rules.Rule.{Rule}
use Rattle.profile.specs.Policy.{Policy}
use Rattle.profile.specs.Said.{matches}
use Rattle.wording.specs.Phrases.{action_text, condition_text}
use Rattle.wording.specs.Reason.{entry_at}
use Rattle.review.specs.Asked.{asked_of, whole}
use Rattle.review.specs.Groups.{GroupEntry}
use Rattle.review.specs.Judged.{AreJudged}
use Rattle.review.specs.declared.asked.Asked.{Asked}
use Rattle.review.specs.declared.judged.Answer.{Answer}
use Rattle.review.specs.declared.judged.Answer.TheVariants.{Refused, Open, Undecided}
use Rattle.review.specs.declared.judged.Judged.{Judged}

-- ---- why a record is let through

-- conditions, the first behind `if` and the others behind `and`
abbrev pub conditions_text : List ℕ → List Cond → List ℕ
conditions_text word [] = []
conditions_text word (c ∷ conds) = codes " " ++ word ++ codes " " ++ condition_text c ++ conditions_text (codes "and") conds

-- a rule of an entry: its action and its conditions
abbrev pub rule_text : ℕ → Rule → List ℕ
rule_text entry rule =
    codes "entry " ++ decimal entry ++ codes " " ++ action_text rule.word ++ conditions_text (codes "if") rule.conds.items

abbrev pub default_text : Policy → List ℕ
default_text p = codes "default " ++ action_text p.default_word

-- the first rule that matches the record, of those from a place on, or else the default
abbrev pub reason_from : Policy → ℕ → List Rule → List ℕ → List ℕ → List ℕ
reason_from p place [] ends r = default_text p
reason_from p place (rule ∷ rules) ends r =
    if matches rule r then rule_text (entry_at ends place) rule else reason_from p (place + 1) rules ends r

-- ---- the lines of a group

abbrev pub name_text : Option (List ℕ) → ℕ → List ℕ
name_text (Some name) nr = name
name_text None nr = codes "call " ++ decimal nr

-- a call by its name, and which of its records
abbrev pub asked_text : Asked → List ℕ
asked_text asked = name_text (name_in (table_of (whole asked.arch)) asked.nr) asked.nr ++ codes " " ++ asked.part.0.now ++ codes " of "

-- what stands in a line before its machines: what is refused has no line
abbrev pub front_of : Asked → Answer → List ℕ
front_of asked Refused = []
front_of asked (Open call) = codes "  open " ++ asked_text asked
front_of asked Undecided = codes "  undecided TooLarge " ++ asked_text asked

-- what stands behind them
abbrev pub end_of : Policy → List Rule → List ℕ → Answer → List ℕ
end_of p rules ends Refused = []
end_of p rules ends (Open call) = codes ": " ++ reason_from p 0 rules ends (words call) ++ codes "\n"
end_of p rules ends Undecided = codes "\n"

-- what stands in a line before its machines, and behind them
abbrev pub line_of : Policy → List Rule → List ℕ → Judged → List ℕ × List ℕ
line_of p rules ends j = (front_of j.asked j.answer, end_of p rules ends j.answer)

abbrev pub is_alike : List ℕ × List ℕ → List ℕ × List ℕ → Bool
is_alike a b = bytes_eq a.0 b.0 && bytes_eq a.1 b.1

-- ---- the state of a group

abbrev pub is_refused : Answer → Bool
is_refused Refused = true
is_refused (Open call) = false
is_refused Undecided = false

abbrev pub is_open : Answer → Bool
is_open Refused = false
is_open (Open call) = true
is_open Undecided = false

-- all is refused; or of each call something is open, or of some; or something is not decided
abbrev pub state_of : List Judged → List ℕ
state_of list =
    if list_all (λ j. is_refused j.answer) list then codes "refused"
    else if list_all (λ j. is_open j.answer) list then codes "open"
    else if list_any (λ j. is_open j.answer) list then codes "in part"
    else codes "undecided"

abbrev pub head_line : GroupEntry → List Judged → List ℕ
head_line g list = codes "group " ++ g.0.now ++ codes ": " ++ state_of list ++ codes "; " ++ g.1.now ++ codes "\n"

-- the line that is begun goes on with a machine more, or it ends, and another begins
abbrev pub begun : List ℕ × List ℕ → List ℕ × List ℕ → List ℕ → List ℕ
begun last line machine = (if is_alike last line then codes ", " else last.1 ++ line.0) ++ machine

-- the lines behind one that is begun: those of one call that are alike but for their machines are one line, which names these
abbrev pub lines_from : Policy → List Rule → List ℕ → List ℕ × List ℕ → List Judged → List ℕ
lines_from p rules ends last [] = last.1
lines_from p rules ends last (j ∷ js) =
    if is_refused j.answer then lines_from p rules ends last js
    else begun last (line_of p rules ends j) (machine_name j.asked.arch) ++ lines_from p rules ends (line_of p rules ends j) js

abbrev pub group_text : Policy → List Rule → List ℕ → GroupEntry → List Judged → List ℕ
group_text p rules ends g list = head_line g list ++ lines_from p rules ends ([], []) list

-- what the profile lets through of all that a group asks about on the profile's machines is told behind a text
pub record AddsGroup (p : Policy) (rules : List Rule) (ends : List ℕ) (g : GroupEntry) (old new : List ℕ) : Type 0 where
  pub judged : List Judged
  pub are_judged : AreJudged p (asked_of p.machines g.2.now) judged
  pub is : new ≡ old ++ group_text p rules ends g judged

-- the text tells of these groups, one by one
pub data TellsGroups (p : Policy) (rules : List Rule) (ends : List ℕ) : List GroupEntry → List ℕ → Type 0 where
  none : TellsGroups p rules ends [] []
  more : (groups : List GroupEntry) (g : GroupEntry) (old new : List ℕ) → TellsGroups p rules ends groups old
      → AddsGroup p rules ends g old new
      → TellsGroups p rules ends (groups ++ g ∷ []) new
