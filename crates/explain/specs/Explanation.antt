-- The text that explains what a bundle says of a call record.
use Rattle.std.specs.Prelude.{ℕ, ◌≡◌, ◌+◌, ◌==◌, ◌&&◌, Bool, if◌then◌else◌, List, [], ◌∷◌, ◌++◌, slice_index, codes}
use Rattle.std.specs.Fmt.{decimal}
use Rattle.std.specs.List.{flat_map}
use Rattle.texts.specs.Lines.{line_feed}
use Rattle.machines.specs.declared.arch.Arch.{Arch}
use Rattle.machines.specs.declared.arch.Family.{Family}
use Rattle.machines.specs.Arch.{family_of, token_of}
use Rattle.machines.specs.Width.{compared}
use Rattle.call_record.specs.declared.layout.Record.{Record}
use Rattle.call_record.specs.Record.{words}
use Rattle.profile.specs.declared.conditions.Cond.{Cond}
use Rattle.profile.specs.declared.rules.Rule.{Rule}
use Rattle.profile.specs.Rule.{is_narrow_rule}
use Rattle.profile.specs.Policy.{Policy, Says}
use Rattle.profile.specs.Said.{matches, meets}
use Rattle.wording.specs.declared.reason.Reason.{Reason}
use Rattle.wording.specs.declared.reason.Reason.TheVariants.{Foreign, Entry, Default}
use Rattle.wording.specs.Reason.{entry_at, reason_of}
use Rattle.wording.specs.Phrases.{action_text, call_lines, condition_text, verdict_line}
use Rattle.wording.specs.Understood.{IsReadAs}

abbrev pub reason_line : Reason → List ℕ
reason_line Foreign = codes "why foreign" ++ line_feed ∷ []
reason_line (Entry entry) = codes "why entry " ++ decimal entry ++ line_feed ∷ []
reason_line Default = codes "why default" ++ line_feed ∷ []

-- whether a condition holds of what is compared of its argument, and whether a rule matches
abbrev pub holding : Bool → List ℕ
holding b = if b then codes "holds" else codes "does not hold"

abbrev pub matching : Bool → List ℕ
matching b = if b then codes "matches" else codes "does not match"

abbrev pub condition_line : Bool → List ℕ → Cond → List ℕ
condition_line narrow args c =
    codes "  " ++ condition_text c ++ codes " " ++ holding (meets c (compared narrow (slice_index args c.index))) ++ line_feed ∷ []

-- a rule of an entry, and each of its conditions
abbrev pub rule_lines : ℕ → Rule → Record → List ℕ
rule_lines entry rule r =
    codes "entry " ++ decimal entry ++ codes " " ++ action_text rule.word ++ codes " " ++ matching (matches rule (words r))
    ++ line_feed ∷ []
    ++ flat_map (condition_line (is_narrow_rule rule) r.args) rule.conds.items

-- the rule is for this call of this machine
abbrev pub is_of : Rule → Record → Bool
is_of rule r = token_of rule.arch == r.arch && rule.nr == r.nr

-- the lines of those rules that are for the record's call, the first of which has this place
abbrev pub lines_from : ℕ → List Rule → List ℕ → Record → List ℕ
lines_from place [] ends r = []
lines_from place (rule ∷ rules) ends r =
    (if is_of rule r then rule_lines (entry_at ends place) rule r else []) ++ lines_from (place + 1) rules ends r

-- the call, the verdict that is said of it, why, and the rules for it
abbrev pub told_by : Family → ℕ → Reason → List Rule → List ℕ → Record → List ℕ
told_by family v reason rules ends r = call_lines family r ++ verdict_line v ++ reason_line reason ++ lines_from 0 rules ends r

-- the text explains the verdict that the profile says, which the bundle means, by the rules of the bundle's entries
pub record Explains (native : Arch) (bundle : List ℕ) (r : Record) (text : List ℕ) : Type 0 where
  pub policy : Policy
  pub rules : List Rule
  pub ends : List ℕ
  pub read : IsReadAs native bundle policy rules ends
  pub said : ℕ
  pub says : Says policy (words r) said
  pub told : text ≡ told_by (family_of native) said (reason_of policy rules ends (words r)) rules ends r
