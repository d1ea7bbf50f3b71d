-- A text without the spaces in front.
use Rattle.std.proofs.Common.{◌≡◌, ℕ, Bool, true, false, cond, List, [], ◌∷◌, refl, ap, sym, ◌∙◌}
use Rattle.std.specs.Prelude.{◌==◌, Option, Some, None, MatchOption, codes}
use Rattle.std.specs.Option.{option_map}
use denote.Ref.{Bor}
use Rattle.texts.specs.Lines.{space}
use Rattle.texts.specs.Splits.{behind}
use Rattle.strace_logs.specs.Line.{behind_spaces}

-- it is what it is without one of them, and without any the text
pub one_space : (text : List ℕ) → MatchOption (behind (codes " ") text) (behind_spaces text ≡ text) (λ rest. behind_spaces text ≡ behind_spaces rest)
one_space [] = refl
one_space (b ∷ text) = by_test (b == space) where
  by_test : (t : Bool) → MatchOption (cond {A = Option (List ℕ)} t (Some text) None) (cond t (behind_spaces text) (b ∷ text) ≡ b ∷ text)
      (λ rest. cond t (behind_spaces text) (b ∷ text) ≡ behind_spaces rest)
  by_test true = refl
  by_test false = refl

pub behind_one : (text : List ℕ) (r : Option (Bor (List ℕ))) → option_map (λ rest. rest.now) r ≡ behind (codes " ") text
    → MatchOption r (behind_spaces text ≡ text) (λ rest. behind_spaces text ≡ behind_spaces rest.now)
behind_one text r e = by_case (behind (codes " ") text) r e (one_space text) where
  by_case : (o : Option (List ℕ)) (r : Option (Bor (List ℕ))) → option_map (λ rest. rest.now) r ≡ o
      → MatchOption o (behind_spaces text ≡ text) (λ rest. behind_spaces text ≡ behind_spaces rest)
      → MatchOption r (behind_spaces text ≡ text) (λ rest. behind_spaces text ≡ behind_spaces rest.now)
  by_case None None g h = h
  by_case (Some x) (Some y) g h = let same : y.now ≡ x = cc in h ∙ ap behind_spaces (sym same)
  by_case None (Some y) g h = absurd (cc)
  by_case (Some x) None g h = absurd (cc)
