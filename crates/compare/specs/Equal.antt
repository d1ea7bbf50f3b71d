-- When two profiles are the same but for the order of their rules.
use Rattle.std.specs.Prelude.{◌≡◌}
use Rattle.std.specs.List.{All, Contains}
use Rattle.profile.specs.Policy.{Policy}

-- the same machines and default verdict, and each rule of one is a rule of the other
pub record AreEqual (p q : Policy) : Type 0 where
  pub machines : p.machines ≡ q.machines
  pub default_word : p.default_word ≡ q.default_word
  pub first : All (λ rule. Contains q.rules rule) p.rules
  pub second : All (λ rule. Contains p.rules rule) q.rules
