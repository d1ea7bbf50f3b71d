-- The lines of a log.
use Rattle.std.specs.Prelude.{ℕ, ◌==◌, List}
use Rattle.std.specs.List.{slice_split}
use Rattle.texts.specs.Lines.{line_feed}

-- what stands between the line feeds of a text, before the first and behind the last
abbrev pub lines_of : List ℕ → List (List ℕ)
lines_of text = slice_split (λ b. b == line_feed) text
