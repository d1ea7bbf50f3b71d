use Rattle.std.proofs.Common.{◌++◌, ap, codes, ◌∙◌}
use Rattle.json_lines.specs.Lines.{Text}
use Rattle.page.specs.Graph.{number_in, target_in}
use Rattle.page.specs.Shown.{past, shown, up_to}
use Rattle.page.proofs.Added.{markup_next, on_ok, text_next}
use Rattle.page.proofs.graph.put_edge.Goals as goal

pub returns : goal.returns
returns c =
    let page = c.args.page.now.items in
    let mark = c.args.mark.now in
    let target = target_in c.args.line.now in
    let found = c.number_in-target.result.now in
    let is_target = c.number_in-target.ensures ∙ ap number_in c.past.ensures in
    let is_label = c.up_to.ensures ∙ ap (up_to 93) c.past-2.ensures in
    let first = c.put.new.page.items in
    let second = c.put_markup.new.page.items in
    let third = c.put-2.new.page.items in
    let fourth = c.put-3.new.page.items in
    let label = codes "<p>" ++ shown (up_to 93 (past 61 c.args.line.now)) in
    let link = label ++ codes ": <a href=\"#" in
    let led = (link ++ mark) ++ shown target in
    let named = (led ++ codes "\">") ++ shown target in
    on_ok c.put_markup-2.result _ _
    (markup_next page named (codes "</a></p>\n") fourth c.put_markup-2.new.page.items
    (text_next page led (codes "\">") found target third fourth
    (text_next page link mark found target second third
    (markup_next page label (codes ": <a href=\"#") first second
    (c.in_ok-put.ensures ∙ ap (λ (t : Text). page ++ (codes "<p>" ++ shown t)) is_label) c.in_ok-put_markup.ensures)
    c.in_ok-put-2.ensures is_target)
    c.in_ok-put-3.ensures is_target))
    c.put_markup-2.ensures
