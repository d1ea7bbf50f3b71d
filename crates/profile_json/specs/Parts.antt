-- Conditions, rules and entries as a text says them: without the facts that the types of a profile keep.
use Rattle.std.specs.Prelude.{ℕ, List, map}
use Rattle.machines.specs.declared.arch.Arch.{Arch}
use Rattle.profile.specs.declared.conditions.Op.{Op}
use Rattle.profile.specs.declared.conditions.Cond.{Cond}
use Rattle.profile.specs.declared.rules.Rule.{Rule}

pub record CondParts : Type 0 where
  pub index : ℕ
  pub op : Op
  pub value : ℕ
  pub datum : ℕ

pub record RuleParts : Type 0 where
  pub arch : Arch
  pub nr : ℕ
  pub conds : List CondParts
  pub word : ℕ

-- an entry: one rule for each name and machine
pub record EntryParts : Type 0 where
  pub names : List (List ℕ)
  pub conds : List CondParts
  pub word : ℕ

abbrev pub cond_parts : Cond → CondParts
cond_parts c = record { index = c.index; op = c.op; value = c.value; datum = c.datum }

abbrev pub rule_parts : Rule → RuleParts
rule_parts r = record { arch = r.arch; nr = r.nr; conds = map cond_parts r.conds.items; word = r.word }
