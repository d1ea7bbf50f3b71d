-- What decides whether two rules overlap: numbers that meet the conditions of both.
use Rattle.std.specs.Prelude.{◌≡◌, ℕ, ◌≤◌, ◌-◌, ◌^◌, Bool, if◌then◌else◌, List, bit_and, bit_or}
use Rattle.std.specs.List.{All}
use Rattle.machines.specs.Arch.{token_of}
use Rattle.profile.specs.declared.conditions.Cond.{Cond}
use Rattle.profile.specs.declared.rules.Rule.{Rule}
use Rattle.profile.specs.Operator.{mask_of}
use Rattle.profile.specs.Condition.{Meets}
use Rattle.profile.specs.Rule.{is_narrow_rule}

-- the greatest number that may be compared of an argument
abbrev pub greatest : Bool → ℕ
greatest narrow = if narrow then 2 ^ 32 - 1 else 2 ^ 64 - 1

-- one number that may be compared meets both conditions
abbrev pub HaveCommon : Bool → Cond → Cond → Type 0
HaveCommon narrow a b = (u : ℕ) × (u ≤ greatest narrow) × Meets a u × Meets b u

-- the number u may be compared, and meets both
abbrev pub BothMeet : Bool → Cond → Cond → ℕ → Type 0
BothMeet narrow a b u = (u ≤ greatest narrow) × Meets a u × Meets b u

-- the least and the greatest number that may be compared and have the bits of both under their masks, where there is one
abbrev pub least_of : Cond → Cond → ℕ
least_of a b = bit_or a.datum b.datum

abbrev pub greatest_of : Bool → Cond → Cond → ℕ
greatest_of narrow a b =
    bit_or (least_of a b) (bit_and (greatest narrow) (2 ^ 64 - 1 - bit_or (mask_of a.op a.value) (mask_of b.op b.value)))

-- each condition of ys on the argument of c has a number in common with it
unfoldable pub HasCommon : Bool → List Cond → Cond → Type 0
HasCommon narrow ys c = All (λ d. c.index ≡ d.index → HaveCommon narrow c d) ys

-- for conditions of xs and ys on one argument there is a number that meets both
abbrev pub AllHaveCommon : Bool → List Cond → List Cond → Type 0
AllHaveCommon narrow xs ys = All (HasCommon narrow ys) xs

-- the machine and the number are one, and on each argument the conditions of both can be met
pub record CanOverlap (a b : Rule) : Type 0 where
  pub machine : token_of a.arch ≡ token_of b.arch
  pub number : a.nr ≡ b.nr
  pub left : AllHaveCommon (is_narrow_rule a) a.conds.items a.conds.items
  pub right : AllHaveCommon (is_narrow_rule a) b.conds.items b.conds.items
  pub both : AllHaveCommon (is_narrow_rule a) a.conds.items b.conds.items
