use Rattle.std.proofs.Common.{[], ◌∷◌, codes, subst}
use Rattle.std.specs.Str.{bytes_eq}
use Rattle.byte_order.specs.Turned.{read_as}
use Rattle.compare.specs.FiltersTold.{IsTold}
use Rattle.cli.specs.Compared.{TellsCompared}
use Rattle.cli.specs.Told.{OfBundles, of_two}
use Rattle.cli.specs.inner.Telling.{IsToldOf}
use Rattle.cli.specs.Dispatch.{AnswersCompare}
use Rattle.cli.specs.Parts.{read}
use Rattle.cli.proofs.DispatchLaws.{answers_told}
use Rattle.cli.proofs.text_commands.compare_as.Goals as goal

pub returns-then-eq : goal.returns-then-eq
returns-then-eq g c =
    subst (λ b. AnswersCompare g.O.Sink.held g.O.Sink.failures (g.F.Files.folder c.args.files.now) c.args.out.now c.tell.new.out b (read c.args.parts) c.tell.result)
    c.if-eq.ensures
    (answers_told g.O.Sink.held g.O.Sink.failures (g.F.Files.folder c.args.files.now) (c.args.parts.two.now ∷ c.args.parts.three.now ∷ [])
    (of_two (λ old new. IsTold c.args.parts.native (read_as c.args.parts.native old) (read_as c.args.parts.native new)))
    c.args.out.now c.tell.new.out c.tell.result c.filters_compared.result c.filters_compared.ensures c.tell.ensures)

pub returns : goal.returns
returns g c =
    let names = c.args.parts.two.now ∷ c.args.parts.three.now ∷ [] in
    let told = subst (λ b. IsToldOf (g.F.Files.folder c.args.files.now) names
    (of_two (OfBundles c.args.parts.native (TellsCompared b c.args.parts.native))) c.compared.result) c.eq-at_most.ensures c.compared.ensures in
    subst (λ b. AnswersCompare g.O.Sink.held g.O.Sink.failures (g.F.Files.folder c.args.files.now) c.args.out.now c.tell-2.new.out b (read c.args.parts) c.tell-2.result)
    c.if-eq.ensures
    (answers_told g.O.Sink.held g.O.Sink.failures (g.F.Files.folder c.args.files.now) names
    (of_two (OfBundles c.args.parts.native (TellsCompared (bytes_eq c.args.parts.four.now (codes "atmost")) c.args.parts.native)))
    c.args.out.now c.tell-2.new.out c.tell-2.result c.compared.result told c.tell-2.ensures)
