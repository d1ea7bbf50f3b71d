-- What a bundle that was made of logs allows, and for which calls it has rules.
use Rattle.std.specs.Prelude.{ℕ, ◌≡◌, ◌⊎◌, true, List, Option, Some, IfSome}
use Rattle.std.specs.List.{All, Contains}
use Rattle.serde_json.specs.Data.{Data}
use Rattle.call_record.specs.Verdict.{allow, Through}
use Rattle.call_record.specs.Words.{word}
use Rattle.machines.specs.declared.arch.Arch.{Arch}
use Rattle.machines.specs.Arch.{token_of}
use Rattle.call_tables.specs.Tables.{table_of}
use Rattle.call_tables.specs.Table.{name_in, number_in}
use Rattle.profile.specs.declared.rules.Rule.{Rule}
use Rattle.profile.specs.Policy.{Policy, Says}
use Rattle.profile_json.specs.Meaning.{IsText, Means}
use Rattle.wording.specs.Told.{was_done}
use Rattle.wording.specs.declared.told.Told.{Told}
use Rattle.strace_logs.specs.Line.{call_in, words_of_call}
use Rattle.wording.specs.Lines.{lines_of}
use Rattle.strace_logs.specs.declared.lists.Runtime.{Runtime}
use Rattle.strace_logs.specs.Lists.{is_listed}
use Rattle.strace_logs.specs.declared.lists.Otherwise.{Otherwise}
use Rattle.strace_logs.specs.Wish.{rest_word}

-- the call that the line tells, if it tells one, is allowed
abbrev pub AllowsLine : Arch → Policy → List ℕ → Type 0
AllowsLine native p line = IfSome (call_in native line) (λ call. Says p (words_of_call call) allow)

-- each record of each text is allowed
abbrev pub AllowsText : Arch → Policy → List ℕ → Type 0
AllowsText native p text = All (AllowsLine native p) (lines_of text)

-- a line of the texts tells a call of this machine with this number
pub record IsSeen (native : Arch) (texts : List (List ℕ)) (arch : Arch) (nr : ℕ) : Type 0 where
  pub text : List ℕ
  pub among : Contains texts text
  pub line : List ℕ
  pub in_text : Contains (lines_of text) line
  pub args : List ℕ
  pub told : call_in native line ≡ Some (arch, nr, args)

-- a call that a line tells has this name
pub record IsOfRecord (native : Arch) (texts : List (List ℕ)) (name : List ℕ) : Type 0 where
  pub arch : Arch
  pub nr : ℕ
  pub seen : IsSeen native texts arch nr
  pub named : number_in (table_of arch) name ≡ Some nr

-- the rule is for a call by a name that a record has, or that is listed
pub record IsNamed (native : Arch) (texts : List (List ℕ)) (runtime : Option Runtime) (rule : Rule) : Type 0 where
  pub name : List ℕ
  pub has : name_in (table_of rule.arch) rule.nr ≡ Some name
  pub why : IsOfRecord native texts name ⊎ (is_listed runtime name ≡ true)

-- the record is of a call by a name that a call of the logs has, or that is listed
pub record IsMeant (native : Arch) (texts : List (List ℕ)) (runtime : Option Runtime) (r : List ℕ) : Type 0 where
  pub arch : Arch
  pub machine : word r 1 ≡ token_of arch
  pub name : List ℕ
  pub has : name_in (table_of arch) (word r 0) ≡ Some name
  pub why : IsOfRecord native texts name ⊎ (is_listed runtime name ≡ true)

-- what is carried out, unless the default says so, is of such a call
abbrev pub NoMore : Arch → List (List ℕ) → Option Runtime → Policy → Type 0
NoMore native texts runtime p =
    (r : List ℕ) (v : ℕ) → Says p r v → Through v → (v ≡ p.default_word) ⊎ IsMeant native texts runtime r

-- The bundle means a profile that allows each record of the texts, whole. Each name for which it has a rule is that of a
-- record, or one of the lists that are told. Its default is the verdict that was asked for, and else it lets through no more.
pub record IsLearned (native : Arch) (texts : List (List ℕ)) (runtime : Option Runtime) (otherwise : Otherwise) (bundle : List ℕ)
    : Type 0 where
  pub t : Data
  pub is_text : IsText bundle t
  pub policy : Policy
  pub means : Means t native policy
  pub allows : All (AllowsText native policy) texts
  pub named : All (IsNamed native texts runtime) policy.rules
  pub rest : policy.default_word ≡ rest_word otherwise
  pub no_more : NoMore native texts runtime policy

abbrev pub TellsLearned : Arch → List (List ℕ) → Option Runtime → Otherwise → Told → Type 0
TellsLearned native texts runtime otherwise told = was_done told.end ≡ true → IsLearned native texts runtime otherwise told.bytes.items
