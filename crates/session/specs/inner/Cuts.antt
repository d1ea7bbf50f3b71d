-- A text as the lines that were ended in it, and what stands behind them.
use Rattle.std.specs.Prelude.{ℕ, ◌≡◌, ◌+◌, ◌++◌, true, List, [], ◌∷◌, take}
use Rattle.std.specs.List.{list_all}
use Rattle.texts.specs.Lines.{line_feed}
use Rattle.script.specs.Grammar.{lacks, max_line}

-- each line with its line feed
abbrev pub ended : List (List ℕ) → List ℕ
ended [] = []
ended (line ∷ lines) = line ++ line_feed ∷ ended lines

pub record IsCut (text : List ℕ) (lines : List (List ℕ)) (part : List ℕ) : Type 0 where
  pub joined : text ≡ ended lines ++ part
  pub each : list_all (lacks line_feed) lines ≡ true
  pub free : lacks line_feed part ≡ true

-- what is kept of a part of a line: one byte more than a line may have
abbrev pub kept_of : List ℕ → List ℕ
kept_of part = take (max_line + 1) part
