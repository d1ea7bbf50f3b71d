use Rattle.std.proofs.Common.{ℕ, List, ap, subst, ◌∙◌}
use Rattle.std.specs.Global.{Vec}
use Rattle.cli.specs.Dispatch.{DoesWith}
use Rattle.cli.specs.Json.{WritesObjects, kept, kept_failures}
use Rattle.cli.specs.Parts.{Parts}
use Rattle.cli.proofs.program.answer_in_objects.Goals as goal

pub returns-clause-answers : goal.returns-clause-answers
returns-clause-answers g c = record {
  outcome = c.obey-outcome.result;
  before = c.new-answer.result;
  answer = c.obey-outcome.new.out;
  empty = ap (λ (v : Vec ℕ). v.items) c.new-answer.ensures.writer ∙ c.new.ensures.items;
  does =
      subst (λ (p : Parts). DoesWith g.I.Source.left g.I.Source.failures kept kept_failures (g.F.Files.folder c.args.files.now) c.args.input.now
      c.obey-outcome.new.input c.new-answer.result c.obey-outcome.new.out c.args.line.command p c.obey-outcome.result) c.parts_of-parts.ensures
      c.obey-outcome.ensures.does;
  writes =
      subst (λ (text : List ℕ). WritesObjects g.O.Sink.held g.O.Sink.failures c.args.out.now c.write_answer.new.out c.args.line.command c.args.name.now
      text c.obey-outcome.result c.write_answer.result) c.deref.ensures.value c.write_answer.ensures.writes;
}
