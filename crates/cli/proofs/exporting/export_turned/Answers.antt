use Rattle.std.proofs.Common.{ℕ, List, ap, inr, subst, sym, ◌∙◌}
use Rattle.std.specs.Prelude.{Ok, Err}
use Rattle.texts.specs.Sink.{Writes}
use Rattle.wording.specs.Told.{was_done}
use Rattle.cli.specs.Json.{ends_by}
use Rattle.cli.proofs.exporting.export_turned.Goals as goal

pub returns-in-Ok-write_all : goal.returns-in-Ok-write_all
returns-in-Ok-write_all g c =
    inr (
      c.in-Ok.told,
      c.in-Ok.ensures,
      inr (
        c.write_all.result,
        subst (λ (b : List ℕ). Writes g.O.Sink.held g.O.Sink.failures c.args.out.now c.write_all.new.sink b c.write_all.result) c.deref.ensures.value
            c.write_all.ensures,
        ap Ok c.is_done.ensures ∙ sym (ap (ends_by (Ok (was_done c.in-Ok.told.end))) c.in-Ok-write_all.is),
      ),
    )

pub returns-in-Ok : goal.returns-in-Ok
returns-in-Ok g c =
    inr (
      c.in-Ok.told,
      c.in-Ok.ensures,
      inr (
        c.write_all.result,
        subst (λ (b : List ℕ). Writes g.O.Sink.held g.O.Sink.failures c.args.out.now c.write_all.new.sink b c.write_all.result) c.deref.ensures.value
            c.write_all.ensures,
        ap Err c.from.ensures ∙ sym (ap (ends_by (Ok (was_done c.in-Ok.told.end))) c.in-Err-write_all.is),
      ),
    )
