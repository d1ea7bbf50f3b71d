-- In which order the rows of a table stand, and tests of tables that compute over them.
use Rattle.std.specs.Prelude.{◌≡◌, ℕ, ◌&&◌, Bool, true, List, [], ◌∷◌, is_none}
use Rattle.std.specs.declared.cmp.Ordering.{Ordering}
use Rattle.std.specs.declared.cmp.Ordering.TheVariants.{Less}
use Rattle.std.specs.Ordering.{is_lt, nat_cmp}
use Rattle.std.specs.Cmp.Lexicographic.{slice_cmp}
use Rattle.call_tables.specs.Table.{Table, name_in}
use Rattle.call_tables.specs.Rows.{Rows}

-- how names compare: byte by byte
abbrev pub order : List ℕ → List ℕ → Ordering
order m n = slice_cmp nat_cmp m n

-- each name of the rows comes after this one
abbrev pub AllAfter : List ℕ → Rows → Type 0
AllAfter n [] = Unit {0}
AllAfter n (e ∷ es) = (order n e.0 ≡ Less) × AllAfter n es

-- the names ascend
abbrev pub Ascends : Rows → Type 0
Ascends [] = Unit {0}
Ascends (e ∷ es) = AllAfter e.0 es × Ascends es

-- the same as a test: each name is compared with the next one alone
abbrev pub is_before : List ℕ → Rows → Bool
is_before name [] = true
is_before name (e ∷ es) = is_lt (order name e.0)

abbrev pub are_sorted : Rows → Bool
are_sorted [] = true
are_sorted (e ∷ es) = is_before e.0 es && are_sorted es

-- no number of the table stands twice
abbrev pub numbers_differ : Table → Bool
numbers_differ [] = true
numbers_differ (e ∷ es) = is_none (name_in es e.1) && numbers_differ es
