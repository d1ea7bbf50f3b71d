use Rattle.std.proofs.Common.{◌++◌, codes, refl}
use Rattle.page.specs.Shown.{shown}
use Rattle.page.proofs.Added.{markup_next, on_ok, text_next}
use Rattle.page.proofs.table.put_state.Goals as goal

pub returns : goal.returns
returns c =
    let page = c.args.page.now.items in
    let state = c.args.state.now in
    let first = c.put.new.page.items in
    let second = c.put-2.new.page.items in
    let class = codes "<td class=\"" ++ shown state in
    let cell = (class ++ codes "\"><b>") ++ shown state in
    on_ok c.put_markup.result _ _
    (markup_next page cell (codes "</b>") second c.put_markup.new.page.items
    (text_next page class (codes "\"><b>") state state first second c.in_ok-put.ensures c.in_ok-put-2.ensures refl))
    c.put_markup.ensures
