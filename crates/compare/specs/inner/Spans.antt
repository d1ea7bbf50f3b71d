-- Stretches of numbers in which all are of the same machines.
use Rattle.std.specs.Prelude.{ℕ, ◌≡◌, ◌≤◌, ◌<◌, ◌⊎◌, max, min, List, [], ◌∷◌}
use Rattle.std.specs.List.{All, Any}
use Rattle.machines.specs.declared.numbers.Numbers.{Numbers}
use Rattle.machines.specs.Arch.{token_of}
use Rattle.machines.specs.Numbers.{HasCall, IsOwn, IsWithin, from_to}
use Rattle.profile.specs.declared.rules.Rule.{Rule}
use Rattle.profile.specs.Policy.{Policy}
use Rattle.compare.specs.declared.behind_runc.stub.calls.Calls.{Calls}
use Rattle.compare.specs.Spared.{IsNoCall, IsVacant}

abbrev pub spans : List Numbers
spans =
    from_to 0 0 ∷ from_to 1 0x3fffffff ∷ from_to 0x40000000 0x7fffffff ∷ from_to 0x80000000 0xbfffffff
    ∷ from_to 0xc0000000 0xfffffffe ∷ from_to 0xffffffff 0xffffffff ∷ []

-- the numbers of a range that are in a stretch, if any
abbrev pub cut : Numbers → Numbers → Numbers
cut numbers span = from_to (max numbers.first span.first) (min numbers.last span.last)

-- The rule is for none of the numbers. If it is for the machine that has the first of them, it is for one below them, or no call has
-- the first.
pub record AreBeyond (token : ℕ) (numbers : Numbers) (rule : Rule) : Type 0 where
  pub others : token_of rule.arch ≡ token → IsWithin rule.nr numbers → ⊥
  pub above : HasCall token numbers.first rule.arch → (rule.nr < numbers.first) ⊎ IsVacant token numbers.first

-- the profile spares the numbers, which are of the same machines
pub record AreLeft (p : Policy) (token : ℕ) (numbers : Numbers) : Type 0 where
  pub listed : Any (HasCall token numbers.first) p.machines ⊎ IsNoCall token numbers.first
  pub beyond : All (AreBeyond token numbers) p.rules

-- the same of those of the calls that are in a stretch
pub record AreLeftIn (p : Policy) (calls : Calls) (span : Numbers) : Type 0 where
  pub left : (cut calls.numbers span).first ≤ (cut calls.numbers span).last → AreLeft p calls.token (cut calls.numbers span)
