use Rattle.std.proofs.Common.{ap, refl, ◌∙◌}
use Rattle.page.specs.Page.{page_of_one}
use Rattle.cli.proofs.reviewing.page_of.Goals as goal

pub returns : goal.returns
returns c = record {
  graph = c.in_ok-graph.graph;
  drawn = c.in_ok-graph.ensures;
  text = record { bytes = c.in_ok-bytes.ensures ∙ ap page_of_one c.side_of.ensures; end = refl };
}
