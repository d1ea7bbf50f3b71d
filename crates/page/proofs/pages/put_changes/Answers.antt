use Rattle.std.proofs.Common.{◌++◌, ap, codes, List, ◌∙◌}
use Rattle.std.specs.List.{flat_map}
use Rattle.json_lines.specs.Lines.{Text, lines_of}
use Rattle.json_lines.specs.inner.Views.{texts}
use Rattle.page.specs.Page.{change_text}
use Rattle.page.proofs.Added.{markup_next, on_ok}
use Rattle.page.proofs.pages.put_changes.Goals as goal

pub returns : goal.returns
returns c =
    let page = c.args.page.now.items in
    let same = ap texts c.deref.ensures.value ∙ c.in_ok-lines.ensures in
    let first = c.put_markup.new.page.items in
    let second = c.put_list.new.page.items in
    let head = codes "<h2>What differs</h2>\n<ul>\n" in
    let list = flat_map change_text (lines_of c.args.compared.now) in
    on_ok c.put_markup-2.result _ _
    (markup_next page (head ++ list) (codes "</ul>\n") second c.put_markup-2.new.page.items
    (markup_next page head list first second c.in_ok-put_markup.ensures
    (c.in_ok-put_list.ensures ∙ ap (λ (ls : List Text). first ++ flat_map change_text ls) same)))
    c.put_markup-2.ensures
