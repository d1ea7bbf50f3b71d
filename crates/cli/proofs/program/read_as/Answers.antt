use Rattle.std.proofs.Common.{[], ◌∷◌, subst}
use Rattle.cli.specs.Read.{TellsRead, TellsRules}
use Rattle.cli.specs.Told.{OfBundle, of_one}
use Rattle.cli.specs.Dispatch.{AnswersRead}
use Rattle.cli.specs.Parts.{read}
use Rattle.cli.proofs.DispatchLaws.{answers_told}
use Rattle.cli.proofs.program.read_as.Goals as goal

pub returns-then-eq : goal.returns-then-eq
returns-then-eq g c =
    subst (λ b. AnswersRead g.O.Sink.held g.O.Sink.failures (g.F.Files.folder c.args.files.now) c.args.out.now c.tell.new.out b (read c.args.parts) c.tell.result)
    c.if-eq.ensures
    (answers_told g.O.Sink.held g.O.Sink.failures (g.F.Files.folder c.args.files.now) (c.args.parts.two.now ∷ []) (of_one (OfBundle c.args.parts.native (TellsRules c.args.parts.native)))
    c.args.out.now c.tell.new.out c.tell.result c.rules.result c.rules.ensures c.tell.ensures)

pub returns : goal.returns
returns g c =
    subst (λ b. AnswersRead g.O.Sink.held g.O.Sink.failures (g.F.Files.folder c.args.files.now) c.args.out.now c.tell-2.new.out b (read c.args.parts) c.tell-2.result)
    c.if-eq.ensures
    (answers_told g.O.Sink.held g.O.Sink.failures (g.F.Files.folder c.args.files.now) (c.args.parts.two.now ∷ []) (of_one (OfBundle c.args.parts.native (TellsRead c.args.parts.native)))
    c.args.out.now c.tell-2.new.out c.tell-2.result c.describe.result c.describe.ensures c.tell-2.ensures)
