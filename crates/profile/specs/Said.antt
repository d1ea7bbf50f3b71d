-- The verdict that a profile says, as a function: that of the first rule that matches.
use Rattle.std.specs.Prelude.{◌≡◌, ◌↔◌, ℕ, ◌==◌, ◌&&◌, Bool, not, List, find, bit_and, nat_lt, nat_le, unwrap_or, if◌then◌else◌}
use Rattle.std.specs.List.{list_all, list_any}
use Rattle.std.specs.Option.{option_map}
use Rattle.call_record.specs.Words.{IsRecord, word}
use Rattle.machines.specs.Arch.{token_of}
use Rattle.machines.specs.Numbers.{has_call}
use Rattle.profile.specs.declared.conditions.Cond.{Cond}
use Rattle.profile.specs.declared.conditions.Op.{Op}
use Rattle.profile.specs.declared.conditions.Op.TheVariants.{Ne, Lt, Le, Eq, Ge, Gt, MaskedEq}
use Rattle.profile.specs.declared.rules.Rule.{Rule}
use Rattle.profile.specs.Rule.{argument_of}
use Rattle.profile.specs.Policy.{Policy, IsClear, Says}

abbrev pub compares : Op → ℕ → ℕ → ℕ → Bool
compares Ne value datum u = not (u == value)
compares Lt value datum u = nat_lt u value
compares Le value datum u = nat_le u value
compares Eq value datum u = u == value
compares Ge value datum u = nat_le value u
compares Gt value datum u = nat_lt value u
compares MaskedEq value datum u = bit_and u value == datum

abbrev pub meets : Cond → ℕ → Bool
meets c u = compares c.op c.value c.datum u

abbrev pub matches : Rule → List ℕ → Bool
matches rule r = word r 1 == token_of rule.arch && word r 0 == rule.nr && list_all (λ c. meets c (argument_of r c.index)) rule.conds.items

abbrev pub is_native : Policy → List ℕ → Bool
is_native p r = list_any (has_call (word r 1) (word r 0)) p.machines

-- the verdict of the first rule that matches, the default where none does, and 0 where the record is not native
abbrev pub said : Policy → List ℕ → ℕ
said p r = if is_native p r then unwrap_or (option_map (λ rule. rule.word) (find (λ rule. matches rule r) p.rules)) p.default_word else 0

-- where the rules are clear, one verdict is said of a record, and it is that of the function
abbrev pub EachRecordIsSaidOneVerdict : Type 0
EachRecordIsSaidOneVerdict = (p : Policy) (r : List ℕ) (v : ℕ) → IsClear p.rules → IsRecord r → (Says p r v ↔ (v ≡ said p r))
