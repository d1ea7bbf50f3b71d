-- A profile as contracts see it, what each one is, and the verdict that it says of a record (OCI Runtime
-- Specification, config-linux, Seccomp; seccomp(2)).
use Rattle.std.specs.Prelude.{◌≡◌, ◌≤◌, ℕ, List, length, Some, slice_get}
use Rattle.std.specs.List.{All, Any, Contains}
use Rattle.call_record.specs.Words.{IsRecord, word}
use Rattle.machines.specs.declared.arch.Arch.{Arch}
use Rattle.machines.specs.declared.arch.Family.{Family}
use Rattle.machines.specs.Numbers.{HasCall}
use Rattle.profile.specs.declared.rules.Rule.{Rule}
use Rattle.profile.specs.Machines.{in_order}
use Rattle.profile.specs.Rule.{Matches}

pub record Policy : Type 0 where
  pub native : Arch
  pub machines : List Arch
  pub default_word : ℕ
  pub rules : List Rule

-- ---- what is said of a record

-- the record is a call of a listed machine: it has the machine's token, and its number is one of the machine's own
abbrev pub IsNative : Policy → List ℕ → Type 0
IsNative p r = Any (HasCall (word r 1) (word r 0)) p.machines

-- The verdict that the profile says of a record. No order of the rules is known here.
pub record Says (p : Policy) (r : List ℕ) (v : ℕ) : Type 0 where
  pub foreign : ¬ IsNative p r → v ≡ 0
  pub matched : IsNative p r → (rule : Rule) → Contains p.rules rule → Matches rule r → v ≡ rule.word
  pub unmatched : IsNative p r → All (λ rule. ¬ Matches rule r) p.rules → v ≡ p.default_word

-- ---- what each profile is

-- machines of one family, each once, x86-64 first
abbrev pub InOrder : List Arch → Type 0
InOrder machines = (family : Family) × (machines ≡ in_order family machines)

-- a rule stands at one place
abbrev pub AreDifferent : List Rule → Type 0
AreDifferent rules = (i j : ℕ) (rule : Rule) → slice_get rules i ≡ Some rule → slice_get rules j ≡ Some rule → i ≡ j

-- how many different rules there are at most
abbrev pub most_rules : ℕ
most_rules = 8192

-- no record matches two rules with unlike verdicts
abbrev pub IsClear : List Rule → Type 0
IsClear rules =
    (r : List ℕ) → IsRecord r → (a b : Rule) → Contains rules a → Contains rules b → Matches a r → Matches b r → a.word ≡ b.word

pub record IsProfile (p : Policy) : Type 0 where
  pub native_listed : Contains p.machines p.native
  pub machines_in_order : InOrder p.machines
  pub rules_differ : AreDifferent p.rules
  pub few : length p.rules ≤ most_rules
  pub rules_listed : All (λ rule. Contains p.machines rule.arch) p.rules
  pub clear : IsClear p.rules
