-- Which rules bear on a verdict by their conditions, each told at the place of its rule.
use Rattle.std.specs.Prelude.{◌≡◌, ◌==◌, ◌≤◌, ℕ, Bool, not, if◌then◌else◌, List, [], length, slice_get, slice_index_or}
use Rattle.std.specs.Prelude.{Option, None, Some, IfSome}
use Rattle.profile.specs.declared.rules.Rule.{Rule}
use Rattle.profile.specs.Rule.{is_narrow_rule}
use Rattle.profile.specs.Policy.{Policy}
use Rattle.cert_state.specs.declared.literal.Lit.{Lit}
use Rattle.cert_check.specs.declared.judged.Asked.{Asked}
use Rattle.cert_check.specs.declared.judged.Asked.TheVariants.{AllYes, OneNo}
use Rattle.cert_check.specs.inner.Judged.{IsAnswer}

-- a rule that says the verdict v is asked whether its conditions are all yes, another one whether one is no
abbrev pub question_of : ℕ → Rule → Asked
question_of v rule = if rule.word == v then AllYes else OneNo

-- It bears on the verdict if all are yes, or if none is no. So the answer tells whether it does, and that tells the
-- answer.
abbrev pub turn : Asked → Bool → Bool
turn AllYes so = so
turn OneNo so = not so

-- so it is of a rule where no condition is said to be met
abbrev pub IsToldOf : List Lit → ℕ → Rule → Bool → Type 0
IsToldOf known v rule bears =
    IsAnswer (question_of v rule) (is_narrow_rule rule) [] known 0 rule.conds.items (turn (question_of v rule) bears)
    × (length rule.conds.items ≤ 6)

-- and of each that a table tells of, at its place
abbrev pub AreTold : Policy → List Lit → ℕ → List (Option Bool) → Type 0
AreTold policy known v table =
    (k : ℕ) (rule : Rule) → slice_get policy.rules k ≡ Some rule → IfSome (slice_index_or table k None) (IsToldOf known v rule)
