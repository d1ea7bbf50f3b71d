use Rattle.std.proofs.Common.{[], ◌++◌, codes}
use Rattle.page.specs.Page.{groups_told, head_text, read}
use Rattle.page.specs.Table.{rows}
use Rattle.page.proofs.Added.{markup_next, on_ok}
use Rattle.page.proofs.pages.put_table.Goals as goal

pub returns : goal.returns
returns c =
    let page = c.args.page.now.items in
    let side = read c.args.side.now in
    let first = c.put_markup.new.page.items in
    let second = c.put_head.new.page.items in
    let third = c.put_markup-2.new.page.items in
    let fourth = c.put_groups.new.page.items in
    let begun = codes "<table>\n<tr><th>group</th><th>why</th>" in
    let heads = begun ++ head_text side in
    let head = heads ++ codes "</tr>\n" in
    let told = rows (groups_told side.review) [] in
    on_ok c.put_markup-3.result _ _
    (markup_next page (head ++ told) (codes "</table>\n") fourth c.put_markup-3.new.page.items
    (markup_next page head told third fourth
    (markup_next page heads (codes "</tr>\n") second third
    (markup_next page begun (head_text side) first second c.in_ok-put_markup.ensures c.in_ok-put_head.ensures)
    c.in_ok-put_markup-2.ensures)
    c.in_ok-put_groups.ensures))
    c.put_markup-3.ensures
