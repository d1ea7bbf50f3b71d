-- How many rules narrowing makes at most, and when they are too many.
use Rattle.std.specs.Prelude.{ℕ, ◌*◌, ◌<◌, max, nat_le, List, [], ◌∷◌, if◌then◌else◌, slice_index, sum_by}
use Rattle.widths.specs.Reads.{cut_bits}
use Rattle.machines.specs.Arch.{token_of}
use Rattle.profile.specs.declared.conditions.Cond.{Cond}
use Rattle.profile.specs.declared.conditions.Op.{Op}
use Rattle.profile.specs.declared.conditions.Op.TheVariants.{Eq, MaskedEq}
use Rattle.profile.specs.declared.rules.Rule.{Rule}
use Rattle.profile.specs.Policy.{most_rules}
use Rattle.widths.specs.declared.narrowing.fault.CutError.{CutError}
use Rattle.widths.specs.declared.narrowing.fault.CutError.TheVariants.{TooMany, OutOfMemory}

-- how many parts a comparison of so many bits has at most: one of EQ and MASKED_EQ, and else one for each bit
abbrev pub most_by : ℕ → Op → ℕ
most_by bits Eq = 1
most_by bits MaskedEq = 1
most_by bits op = max 1 bits

-- how many parts a condition has at most whose argument is cut to so many bits; above 32 it is left as it is
abbrev pub most_parts : ℕ → Cond → ℕ
most_parts bits c = if nat_le bits 32 then most_by bits c.op else 1

-- how many lists of one part of each condition there are at most
abbrev pub most_lists : List ℕ → List Cond → ℕ
most_lists plan [] = 1
most_lists plan (c ∷ cs) = most_parts (slice_index plan c.index) c * most_lists plan cs

-- to how many bits each argument of a call is cut
abbrev pub cut_plan : ℕ → ℕ → List ℕ
cut_plan token nr =
    cut_bits token nr 0 ∷ cut_bits token nr 1 ∷ cut_bits token nr 2
    ∷ cut_bits token nr 3 ∷ cut_bits token nr 4 ∷ cut_bits token nr 5 ∷ []

-- the same of a rule's call
abbrev pub own_plan : Rule → List ℕ
own_plan rule = cut_plan (token_of rule.arch) rule.nr

-- how many narrowed rules a rule has at most, and some rules together
abbrev pub most_of : Rule → ℕ
most_of rule = most_lists (own_plan rule) rule.conds.items

abbrev pub most_narrowed : List Rule → ℕ
most_narrowed rules = sum_by most_of rules

-- Why rules are not narrowed that are so many at most: they can be more than a profile may have. Memory may be refused at any.
abbrev pub IsCutCause : ℕ → CutError → Type 0
IsCutCause most TooMany = most_rules < most
IsCutCause most OutOfMemory = Unit {0}
