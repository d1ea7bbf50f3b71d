-- Lines without their machines.
use Rattle.std.specs.Prelude.{ℕ, List, string_bytes}
use Rattle.review.specs.declared.text.Line.{Line}

-- what stands before them, and what stands behind them
abbrev pub texts_of : Line → List ℕ × List ℕ
texts_of line = (string_bytes line.front, string_bytes line.end)
