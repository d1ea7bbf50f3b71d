-- Conditions on one argument (OCI Runtime Specification, config-linux, Seccomp, `args`).
use Rattle.std.specs.Prelude.{◌≡◌, ℕ, ◌<◌, bit_and}
use Rattle.profile.specs.declared.conditions.Cond.{Cond}
use Rattle.profile.specs.declared.conditions.Op.{Op}
use Rattle.profile.specs.Operator.{Compares, mask_of}

-- the number u meets the condition
abbrev pub Meets : Cond → ℕ → Type 0
Meets c u = Compares c.op c.value c.datum u

-- these parts are a condition: there are six arguments, and the datum has no stray bit
abbrev pub IsCondition : ℕ → Op → ℕ → ℕ → Type 0
IsCondition index op value datum = (index < 6) × (bit_and datum (mask_of op value) ≡ datum)
