use Rattle.std.proofs.Common.{refl, subst}
use Rattle.texts.specs.Sink.{Wrote}
use Rattle.cli.proofs.DispatchLaws.{written_as}
use Rattle.cli.proofs.text_commands.tell.Goals as goal

pub returns-in-Ok-write_all : goal.returns-in-Ok-write_all
returns-in-Ok-write_all g c =
    rw (c.in-Ok.is, c.outcome_by.ensures) (written_as g.O.Sink.held g.O.Sink.failures c.args.out.now c.write_all.new.sink c.in-Ok.told
    c.in-Ok.told.end
    (subst (λ b. Wrote g.O.Sink.held g.O.Sink.failures c.args.out.now c.write_all.new.sink b) c.deref.ensures.value c.in-Ok-write_all.ensures) refl)
