-- A line that was formatted of four parts.
use Rattle.std.proofs.Common.{◌≡◌, ◌++◌, append_assoc, ℕ, List, String, Global, ◌∙◌}
use Rattle.std.specs.Prelude.{IfOk, string_bytes, Result, Ok, Err}

-- the parts, joined from the right and from the left
pub four_parts : (a b c d : List ℕ) → a ++ (b ++ (c ++ d)) ≡ a ++ b ++ c ++ d
four_parts a b c d = simp append_assoc

-- what was formatted is this line
pub formatted : {E : Type 0} (r : Result (String Global) E) (made line : List ℕ) → made ≡ line
    → IfOk r (λ s. string_bytes s ≡ made) → IfOk r (λ s. string_bytes s ≡ line)
formatted (Ok s) made line same h = h ∙ same
formatted (Err e) made line same h = h
