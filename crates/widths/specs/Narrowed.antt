-- What narrowing rules answers.
use Rattle.std.specs.Prelude.{◌≡◌, ◌↔◌, ℕ, List}
use Rattle.std.specs.List.{All, Contains}
use Rattle.call_record.specs.Words.{IsRecord}
use Rattle.profile.specs.declared.rules.Rule.{Rule}
use Rattle.profile.specs.Rule.{Matches}
use Rattle.widths.specs.Alike.{Alike, IsCleared}

-- some element has it
abbrev pub Has : {A : Type 0} → (A → Type 0) → List A → Type 0
Has {A} P xs = (x : A) × Contains xs x × P x

-- a rule with this verdict matches the record
abbrev pub Answers : ℕ → List ℕ → Rule → Type 0
Answers word r rule = (rule.word ≡ word) × Matches rule r

-- the rule matches both of two records that are alike, or neither
abbrev pub MatchesRead : Rule → Type 0
MatchesRead rule = (r s : List ℕ) → IsRecord r → IsRecord s → Alike r s → Matches rule r → Matches rule s

-- The rules of the second list match a record if those of the first match it with the bits at 0 that are not read. They have
-- the same verdicts.
pub record AreNarrowed (rules narrowed : List Rule) : Type 0 where
  pub answers : (r s : List ℕ) → IsRecord r → IsRecord s → IsCleared r s → (word : ℕ)
      → Has (Answers word r) narrowed ↔ Has (Answers word s) rules
  pub alone : All MatchesRead narrowed
  pub machines : All (λ part. Has (λ rule. rule.arch ≡ part.arch) rules) narrowed
