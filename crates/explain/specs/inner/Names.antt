-- Pairs of names.
use Rattle.std.specs.Prelude.{ℕ, List, map}
use denote.Ref.{Bor}

-- the pairs without where their names lie in memory
abbrev pub pairs : List (Bor (List ℕ) × Bor (List ℕ)) → List (List ℕ × List ℕ)
pairs = map (λ e. (e.0.now, e.1.now))
