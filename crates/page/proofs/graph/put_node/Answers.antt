use Rattle.std.proofs.Common.{◌++◌, codes}
use Rattle.page.specs.Graph.{colour_in, instructions_text, number_in}
use Rattle.page.specs.Shown.{shown}
use Rattle.page.proofs.Added.{markup_next, on_ok, text_next}
use Rattle.page.proofs.graph.put_node.Goals as goal

pub returns : goal.returns
returns c =
    let page = c.args.page.now.items in
    let line = c.args.line.now in
    let mark = c.args.mark.now in
    let first = c.put_markup.new.page.items in
    let second = c.put.new.page.items in
    let third = c.put-2.new.page.items in
    let fourth = c.put_markup-2.new.page.items in
    let fifth = c.put_instructions.new.page.items in
    let style = codes "\" style=\"background:" in
    let begun = codes "<pre id=\"" in
    let named = (begun ++ mark) ++ shown (number_in line) in
    let coloured = (named ++ style) ++ shown (colour_in line) in
    let front = coloured ++ codes "\">" in
    on_ok c.put_markup-3.result _ _
    (markup_next page (front ++ instructions_text line) (codes "</pre>\n") fifth c.put_markup-3.new.page.items
    (markup_next page front (instructions_text line) fourth fifth
    (markup_next page coloured (codes "\">") third fourth
    (text_next page named style c.colour_in.result.now (colour_in line) second third
    (text_next page begun mark c.number_in.result.now (number_in line) first second c.in_ok-put_markup.ensures c.in_ok-put.ensures
    c.number_in.ensures)
    c.in_ok-put-2.ensures c.colour_in.ensures)
    c.in_ok-put_markup-2.ensures)
    c.in_ok-put_instructions.ensures))
    c.put_markup-3.ensures
