use Rattle.std.proofs.Common.{◌++◌, ap, codes, ◌∙◌}
use Rattle.json_lines.specs.Lines.{Text}
use Rattle.page.specs.Graph.{graph_text}
use Rattle.page.specs.Shown.{shown}
use Rattle.page.proofs.Added.{markup_next, on_ok}
use Rattle.page.proofs.pages.put_filter.Goals as goal

pub returns : goal.returns
returns c =
    let page = c.args.page.now.items in
    let side = c.args.side.now in
    let first = c.put.new.page.items in
    let second = c.put_markup.new.page.items in
    let head = codes "<h2>The filter of " ++ shown side.name.now in
    on_ok c.put_graph.result _ _
    (markup_next page (head ++ codes "</h2>\n") (graph_text c.args.mark.now side.is_drawn side.graph.now) second c.put_graph.new.page.items
    (markup_next page head (codes "</h2>\n") first second
    (c.in_ok-put.ensures ∙ ap (λ (t : Text). page ++ (codes "<h2>The filter of " ++ shown t)) c.as_bytes.ensures.value)
    c.in_ok-put_markup.ensures))
    c.put_graph.ensures
