-- Which processes events are of, each once.
use Rattle.std.proofs.Common.{◌≡◌, ℕ, Bool, List, [], ◌∷◌, refl, sym, ap, ◌∙◌}
use Rattle.std.specs.Prelude.{◌||◌, map}
use Rattle.std.specs.List.{fold, list_any}
use Rattle.explain.specs.Audit.{with_line}
use Rattle.explain.specs.inner.Origins.{origin_of}
use Rattle.explain.specs.declared.audited.event.Event.{Event}
use Rattle.explain.specs.declared.audited.origins.Origin.{Origin}

pub any_map : (p : Event × List ℕ → Bool) (xs : List Origin) → list_any p (map origin_of xs) ≡ list_any (λ x. p (origin_of x)) xs
any_map p [] = refl
any_map p (x ∷ xs) = ap (λ (t : Bool). p (origin_of x) || t) (any_map p xs)

-- one line more
pub line_more : (old new : List (Event × List ℕ)) (line : List ℕ) (lines rest : List (List ℕ)) (all : List (Event × List ℕ))
    → lines ≡ line ∷ rest → new ≡ with_line old line → fold with_line old lines ≡ all → fold with_line new rest ≡ all
line_more old new line lines rest all parts is before =
    ap (λ (o : List (Event × List ℕ)). fold with_line o rest) is ∙ sym (ap (fold with_line old) parts) ∙ before
