-- Parts of a text.
use Rattle.std.specs.Prelude.{ℕ, ◌==◌, if◌then◌else◌, List, [], ◌∷◌, Option, Some, None}
use Rattle.std.specs.Option.{option_map}

-- a text at the first such byte in it
abbrev pub split_at : ℕ → List ℕ → Option (List ℕ × List ℕ)
split_at byte [] = None
split_at byte (b ∷ text) = if b == byte then Some ([], text) else option_map (λ parts. (b ∷ parts.0, parts.1)) (split_at byte text)

-- what follows such a text at the front
abbrev pub behind : List ℕ → List ℕ → Option (List ℕ)
behind [] text = Some text
behind (c ∷ front) [] = None
behind (c ∷ front) (b ∷ text) = if b == c then behind front text else None
