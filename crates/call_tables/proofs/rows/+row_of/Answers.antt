use Rattle.std.proofs.Common.{rules, [], sym, ◌∙◌}
use Rattle.call_tables.proofs.HalvingLaws.{Lent, halves, finds, goes_right, goes_left, front_sorted, behind_sorted}
use Rattle.call_tables.proofs.rows.+row_of.Goals as goal

-- what stands for the first entry of a list that has none
abbrev nothing : Lent
nothing = (record { ref_ptr = (0, 0); now = [] }, [])

pub row_of-requires : goal.row_of-requires
row_of-requires t c =
    let cut = halves c.args.table.now c.split_at.result.0.now c.split_at.result.1.now _ nothing c.split_at.ensures.front c.split_at.ensures.back
    c.in-len1-up.len_at_least in
    (search rules, behind_sorted _ _ _ _ c.args.name.now c.requires.1.1 cut)

pub row_of-requires-in-Greater : goal.row_of-requires-in-Greater
row_of-requires-in-Greater t c =
    let cut = halves c.args.table.now c.split_at.result.0.now c.split_at.result.1.now _ nothing c.split_at.ensures.front c.split_at.ensures.back
    c.in-len1-up.len_at_least in
    (search rules, front_sorted _ _ _ _ c.args.name.now c.requires.1.1 cut)

pub returns-in-Equal : goal.returns-in-Equal
returns-in-Equal t c =
    let cut = halves c.args.table.now c.split_at.result.0.now c.split_at.result.1.now _ nothing c.split_at.ensures.front c.split_at.ensures.back
    c.in-len1-up.len_at_least in
    finds _ _ _ _ c.args.name.now c.requires.1.1 cut (sym c.cmp.ensures ∙ c.in-Equal.is)

pub returns-in-Less : goal.returns-in-Less
returns-in-Less t c =
    let cut = halves c.args.table.now c.split_at.result.0.now c.split_at.result.1.now _ nothing c.split_at.ensures.front c.split_at.ensures.back
    c.in-len1-up.len_at_least in
    c.row_of.ensures ∙ goes_right _ _ _ _ c.args.name.now c.requires.1.1 cut (sym c.cmp.ensures ∙ c.in-Less.is)

pub returns-in-Greater : goal.returns-in-Greater
returns-in-Greater t c =
    let cut = halves c.args.table.now c.split_at.result.0.now c.split_at.result.1.now _ nothing c.split_at.ensures.front c.split_at.ensures.back
    c.in-len1-up.len_at_least in
    c.row_of-in-Greater.ensures ∙ goes_left _ _ _ _ c.args.name.now c.requires.1.1 cut (sym c.cmp.ensures ∙ c.in-Greater.is)
