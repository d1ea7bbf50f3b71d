-- The table of groups.
use Rattle.std.specs.Prelude.{◌≡◌, ℕ, List, map}
use denote.Ref.{Bor}
use Rattle.review.specs.declared.table.TheConstants.{GROUPS}

abbrev pub Text : Type 0
Text = List ℕ

-- some records of a call: a name, the place of an argument, a mask, and the bits under it
abbrev pub PartEntry : Type 0
PartEntry = Bor Text × ℕ × ℕ × ℕ

-- calls, and which of their records are asked about
abbrev pub RowEntry : Type 0
RowEntry = Bor (List (Bor Text)) × PartEntry

-- a name, why it matters, and the calls
abbrev pub GroupEntry : Type 0
GroupEntry = Bor Text × Bor Text × Bor (List RowEntry)

-- ---- the same without where the texts lie in memory

abbrev pub PlainPart : Type 0
PlainPart = Text × ℕ × ℕ × ℕ

abbrev pub PlainRow : Type 0
PlainRow = List Text × PlainPart

abbrev pub PlainGroup : Type 0
PlainGroup = Text × Text × List PlainRow

abbrev pub row : RowEntry → PlainRow
row e = (map (λ name. name.now) e.0.now, (e.1.0.now, e.1.1, e.1.2, e.1.3))

abbrev pub group : GroupEntry → PlainGroup
group e = (e.0.now, e.1.now, map row e.2.now)

-- the groups of the table, in its order
unfoldable pub all_groups : List PlainGroup
all_groups =
    map (λ e. (e.0.now, e.1.now, map (λ r. (map (λ name. name.now) r.0.now, (r.1.0.now, r.1.1, r.1.2, r.1.3))) e.2.now)) GROUPS.now

-- these are the groups of the table
abbrev pub AreAllGroups : List GroupEntry → Type 0
AreAllGroups groups = map group groups ≡ all_groups
