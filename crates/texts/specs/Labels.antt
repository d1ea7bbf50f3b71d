-- How a fault is told.
use Rattle.std.specs.Prelude.{ℕ, List, ◌++◌, codes}
use Rattle.std.specs.Fmt.{decimal}

-- a number and a name as text
abbrev pub label_text : ℕ × List ℕ → List ℕ
label_text label = decimal label.0 ++ codes " " ++ label.1
