use Rattle.std.proofs.Common.{ℕ, List, ap, refl, ◌∙◌}
use Rattle.page.specs.Page.{Side, page_of_two, read}
use Rattle.cli.specs.Paged.{side_of}
use Rattle.cli.proofs.reviewing.page_of_both.Goals as goal

pub returns : goal.returns
returns c = λ one_machine.
    let old = c.args.old.now in
    let new = c.args.new.now in
    let old_graph = c.in_ok-old_graph.old_graph in
    let new_graph = c.in_ok-new_graph.new_graph in
    let old_side = side_of old.name.now old.review.now old_graph in
    let new_side = side_of new.name.now new.review.now new_graph in
    let told = c.deref.result.now in
    let second = read c.side_of-new_side.result in
    record {
      compared = c.in_ok-compared.compared;
      is_compared = c.in_ok-compared.ensures one_machine;
      old_graph = old_graph;
      old_drawn = c.in_ok-old_graph.ensures;
      new_graph = new_graph;
      new_drawn = rw one_machine at c.in_ok-new_graph.ensures;
      text = record {
        bytes = c.in_ok-bytes.ensures
            ∙ ap (λ (side : Side). page_of_two side second told) c.side_of-old_side.ensures
            ∙ ap (λ (side : Side). page_of_two old_side side told) c.side_of-new_side.ensures
            ∙ ap (λ (text : List ℕ). page_of_two old_side new_side text) c.deref.ensures.value;
        end = refl;
      };
    }
