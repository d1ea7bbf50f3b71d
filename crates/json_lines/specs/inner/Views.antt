-- What the code's values stand for.
use Rattle.std.specs.Prelude.{ℕ, List, map}
use denote.Ref.{Bor}
use Rattle.json_lines.specs.Lines.{Text}
use Rattle.json_lines.specs.Shapes as spec
use Rattle.json_lines.specs.declared.fitting.Row.{Row}

-- members, without where they lie in memory
abbrev pub member_of : Bor Text × Bor Text → spec.Member
member_of m = (m.0.now, m.1.now)

abbrev pub members : List (Bor Text × Bor Text) → List spec.Member
members ms = map member_of ms

abbrev pub row : Row → spec.Row
row r = (r.kind.now, members r.members.items)

-- lines, without where they lie in memory
abbrev pub texts : List (Bor Text) → List Text
texts lines = map (λ line. line.now) lines
