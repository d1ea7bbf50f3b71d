-- What rules say of a record.
use Rattle.std.specs.Prelude.{ℕ, List, find, unwrap_or}
use Rattle.std.specs.Option.{option_map}
use Rattle.profile.specs.declared.rules.Rule.{Rule}
use Rattle.profile.specs.Said.{matches}

-- the verdict of the first rule that matches, and else this one
abbrev pub said_from : ℕ → List Rule → List ℕ → ℕ
said_from d rules r = unwrap_or (option_map (λ rule. rule.word) (find (λ rule. matches rule r) rules)) d
