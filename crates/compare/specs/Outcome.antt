-- How two profiles compare, and the text that tells it.
use Rattle.std.specs.Prelude.{ℕ, suc, ◌==◌, ◌≢◌, ◌||◌, not, Bool, true, false, if◌then◌else◌, List, [], ◌∷◌, ◌++◌}
use Rattle.std.specs.Prelude.{Option, Some, None, codes}
use Rattle.std.specs.Fmt.{decimal}
use Rattle.std.specs.List.{flat_map}
use Rattle.texts.specs.Lines.{line_feed}
use Rattle.machines.specs.declared.arch.Arch.{Arch}
use Rattle.machines.specs.declared.arch.Family.{Family}
use Rattle.machines.specs.Arch.{machine_name}
use Rattle.wording.specs.Phrases.{action_text}
use Rattle.profile.specs.Policy.{Policy}
use Rattle.compare.specs.Complete.{AreListed}
use Rattle.compare.specs.Difference.{SayTheSame, name_of}
use Rattle.compare.specs.Order.{IsSides}
use Rattle.compare.specs.declared.change.Change.{Change}
use Rattle.compare.specs.declared.difference.Difference.{Difference}
use Rattle.compare.specs.declared.outcome.Comparison.{Comparison}
use Rattle.compare.specs.declared.outcome.Comparison.TheVariants.{Same, Differ, Undecided}
use Rattle.compare.specs.declared.search.Crowded.{Crowded}
use Rattle.compare.specs.declared.sides.Sides.{Sides}
use Rattle.compare.specs.declared.sides.Sides.TheVariants.{Alike, NoMore, NoLess, MoreAndLess}

-- what is so of two profiles: each call that differs is told, of which there is one at least, or it is one of those that are not decided
abbrev pub IsComparison : Family → Policy → Policy → Comparison → Type 0
IsComparison family p q Same = SayTheSame p q
IsComparison family p q (Differ changes sides) =
    (changes.items ≢ []) × (AreListed family p q changes.items [] × IsSides p q changes.items sides)
IsComparison family p q (Undecided changes crowded) = AreListed family p q changes.items crowded.items × (crowded.items ≢ [])

-- ---- the text

-- its machine
abbrev pub machine_of : Option Arch → List ℕ
machine_of (Some arch) = machine_name arch
machine_of None = codes "no machine"

abbrev pub machine_after : Difference → List ℕ
machine_after d = codes ", " ++ machine_of d.arch

-- the word in front of an argument: of the first one that is told, and of others
abbrev pub word_of : Bool → List ℕ
word_of begun = if begun then codes " and" else codes " where"

abbrev pub argument_text : Bool → ℕ → ℕ → List ℕ
argument_text begun j u = word_of begun ++ codes " arg" ++ decimal j ++ codes " = " ++ decimal u

-- the arguments from this one on that are asked for, or are not 0: the others are 0
abbrev pub arguments_from : Bool → ℕ → List Bool → List ℕ → List ℕ
arguments_from begun j (asked ∷ rest) (u ∷ args) =
    if asked || not (u == 0)
    then argument_text begun j u ++ arguments_from true (suc j) rest args
    else arguments_from begun (suc j) rest args
arguments_from begun j rest args = []

abbrev pub arguments_text : Difference → List ℕ
arguments_text d = arguments_from false 0 d.asked d.args

-- the call and its machines
abbrev pub calls_text : Change → List ℕ
calls_text c = name_of c.first.arch c.first.nr ++ codes " of " ++ machine_of c.first.arch ++ flat_map machine_after c.others.items

-- both verdicts
abbrev pub verdicts_text : ℕ → ℕ → List ℕ
verdicts_text first second = codes ": " ++ action_text first ++ codes ", " ++ action_text second ++ line_feed ∷ []

-- the calls, the arguments and both verdicts
abbrev pub line_of : Change → List ℕ
line_of c = calls_text c ++ arguments_text c.first ++ verdicts_text c.first.first c.first.second

abbrev pub sides_text : Sides → List ℕ
sides_text Alike = codes "allows no more and no less\n"
sides_text NoMore = codes "allows no more\n"
sides_text NoLess = codes "allows no less\n"
sides_text MoreAndLess = codes "allows more and less\n"

-- a call that is not decided, with its machine
abbrev pub crowded_call : Crowded → List ℕ
crowded_call c = name_of c.arch c.nr ++ codes " of " ++ machine_of c.arch

abbrev pub crowded_line : Crowded → List ℕ
crowded_line c = codes "undecided 2 TooLarge " ++ crowded_call c ++ codes "\n"

-- the text that says it
abbrev pub text_of : Comparison → List ℕ
text_of Same = codes "same\n"
text_of (Differ changes sides) = flat_map line_of changes.items ++ sides_text sides
text_of (Undecided changes crowded) = flat_map line_of changes.items ++ flat_map crowded_line crowded.items

-- ---- the status

-- nothing is let through that was refused
abbrev pub is_no_more : Sides → Bool
is_no_more Alike = true
is_no_more NoMore = true
is_no_more NoLess = false
is_no_more MoreAndLess = false

-- the second profile says the same, or, where that is asked, allows no more
abbrev pub is_done : Bool → Comparison → Bool
is_done atmost Same = true
is_done atmost (Differ changes sides) = if atmost then is_no_more sides else false
is_done atmost (Undecided changes crowded) = false
