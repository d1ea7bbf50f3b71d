-- Which records a rule matches.
use Rattle.std.specs.Prelude.{◌≡◌, ◌≢◌, ℕ, Bool, List}
use Rattle.std.specs.List.{All}
use Rattle.call_record.specs.Words.{IsRecord, word, argument}
use Rattle.machines.specs.Arch.{token_of}
use Rattle.machines.specs.Width.{compared, is_narrow}
use Rattle.profile.specs.declared.rules.Rule.{Rule}
use Rattle.profile.specs.Condition.{Meets}

-- what is compared of an argument of a record, by its token
abbrev pub argument_of : List ℕ → ℕ → ℕ
argument_of r j = compared (is_narrow (word r 1)) (argument r j)

-- whether arguments of a rule's machine are narrow: those of the records that it matches are compared so
abbrev pub is_narrow_rule : Rule → Bool
is_narrow_rule rule = is_narrow (token_of rule.arch)

-- the record is of the rule's machine and call, and each argument meets its conditions
pub record Matches (rule : Rule) (r : List ℕ) : Type 0 where
  pub machine : word r 1 ≡ token_of rule.arch
  pub number : word r 0 ≡ rule.nr
  pub conditions : All (λ c. Meets c (argument_of r c.index)) rule.conds.items

-- some record matches both
abbrev pub Overlap : Rule → Rule → Type 0
Overlap a b = (r : List ℕ) × IsRecord r × Matches a r × Matches b r

-- some record matches both, and they have unlike verdicts
abbrev pub Clash : Rule → Rule → Type 0
Clash a b = (a.word ≢ b.word) × Overlap a b
