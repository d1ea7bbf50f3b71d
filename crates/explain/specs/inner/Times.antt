-- How often an event is told.
use Rattle.std.specs.Prelude.{ℕ, List, ◌++◌, codes}
use Rattle.std.specs.Fmt.{decimal}
use Rattle.explain.specs.Audit.{answer_line}
use Rattle.explain.specs.declared.audited.event.Answer.{Answer}

-- so many lines tell an answer
abbrev pub counted_line : ℕ → Answer → List ℕ
counted_line n answer = codes "told " ++ decimal n ++ codes " times, code " ++ answer_line answer
