use Rattle.std.proofs.Common.{◌≡◌, ◌⊎◌, ap, inr, subst}
use Rattle.std.specs.Prelude.{Err}
use Rattle.command_line.specs.Lines.{Given}
use Rattle.cli.specs.Dispatch.{AskedChanges, AskedRefusal, DoesAsked, ExplainsBy}
use Rattle.cli.specs.Json.{is_json}
use Rattle.cli.specs.Parts.{parts_of}
use Rattle.cli.proofs.UnbegunLaws.{explained_why, is_misuse, unread_arguments}
use Rattle.cli.proofs.program.carry_out.Goals as goal

pub returns-in-Ok-clause-does : goal.returns-in-Ok-clause-does
returns-in-Ok-clause-does g c command is =
    inr (subst (λ (k : Given). DoesAsked g.I.Source.left g.I.Source.failures g.O.Sink.held g.O.Sink.failures (g.F.Files.folder c.args.files.now)
    c.args.input.now c.obey_line.new.input c.args.out.now c.obey_line.new.out (is_json k.0) k c.obey_line.result)
    (c.in-Ok.ensures.command command is) c.obey_line.ensures.does)

pub returns-in-Ok-clause-quiet : goal.returns-in-Ok-clause-quiet
returns-in-Ok-clause-quiet g c command is done =
    subst (λ (k : Given). AskedChanges k ⊎ (c.obey_line.new.err ≡ c.args.err.now)) (c.in-Ok.ensures.command command is) (c.obey_line.ensures.quiet done)

pub returns-in-Ok-clause-no : goal.returns-in-Ok-clause-no
returns-in-Ok-clause-no g c command is done =
    subst (λ (k : Given). AskedRefusal k ⊎ (c.obey_line.new.err ≡ c.args.err.now)) (c.in-Ok.ensures.command command is) (c.obey_line.ensures.no done)

pub returns-in-Ok-clause-refused : goal.returns-in-Ok-clause-refused
returns-in-Ok-clause-refused g c command is done =
    subst (λ (k : Given). AskedRefusal k ⊎ (c.obey_line.new.err ≡ c.args.err.now)) (c.in-Ok.ensures.command command is)
    (c.obey_line.ensures.refused done)

pub returns-in-Ok-clause-explained : goal.returns-in-Ok-clause-explained
returns-in-Ok-clause-explained g c command is =
    explained_why g.O.Sink.held g.O.Sink.failures g.E.Sink.held g.E.Sink.failures (g.F.Files.folder c.args.files.now) c.args.out.now c.obey_line.new.out
    c.args.err.now c.obey_line.new.err command.0 (parts_of command.1) c.obey_line.result
    (subst (λ (k : Given). ExplainsBy g.O.Sink.held g.O.Sink.failures g.E.Sink.held g.E.Sink.failures (g.F.Files.folder c.args.files.now)
    c.args.out.now c.obey_line.new.out c.args.err.now c.obey_line.new.err k.0 (parts_of k.1) c.obey_line.result)
    (c.in-Ok.ensures.command command is) c.obey_line.ensures.explained)

pub returns-in-Err-clause-does : goal.returns-in-Err-clause-does
returns-in-Err-clause-does g c command is =
    unread_arguments g.I.Source.left g.I.Source.failures g.O.Sink.held g.O.Sink.failures (g.F.Files.folder c.args.files.now) c.args.input.now
    c.args.out.now command c.in-Err.misuse (Err c.from.result) (c.in-Err.ensures.command command is) (ap Err c.from.ensures)

pub returns-in-Err-clause-misuse : goal.returns-in-Err-clause-misuse
returns-in-Err-clause-misuse g c none = is_misuse c.in-Err.misuse (Err c.from.result) (ap Err c.from.ensures)
