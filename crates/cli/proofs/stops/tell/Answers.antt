use Rattle.std.proofs.Common.{◌∙◌, ap, subst, sym}
use Rattle.cli.specs.Stop.{Reports, line_of}
use Rattle.cli.specs.declared.stops.Stop.TheVariants.{OutOfMemory}
use Rattle.cli.proofs.ReportLaws.{reported}
use Rattle.cli.proofs.stops.tell.Goals as goal

pub returns-in-CannotRead : goal.returns-in-CannotRead
returns-in-CannotRead g c =
    subst (λ s. Reports g.E.Sink.held g.E.Sink.failures c.args.err.now c.tell_name.new.err (line_of s)) (sym c.in-CannotRead.is)
    c.tell_name.ensures

pub returns-in-Read : goal.returns-in-Read
returns-in-Read g c =
    reported g.E.Sink.held g.E.Sink.failures c.args.err.now c.write_all-in-Read.new.sink c.as_slice.result.now (line_of c.args.stop.now)
    c.write_all-in-Read.result (c.as_slice.ensures.value ∙ (c.line_of_read.ensures ∙ ap line_of (sym c.in-Read.is)))
    c.write_all-in-Read.ensures

pub returns-in-Write : goal.returns-in-Write
returns-in-Write g c =
    reported g.E.Sink.held g.E.Sink.failures c.args.err.now c.write_all-in-Write.new.sink c.as_slice-in-Write.result.now
    (line_of c.args.stop.now) c.write_all-in-Write.result
    (c.as_slice-in-Write.ensures.value ∙ (c.line_of_write.ensures ∙ ap line_of (sym c.in-Write.is))) c.write_all-in-Write.ensures

pub returns-in-OutOfMemory : goal.returns-in-OutOfMemory
returns-in-OutOfMemory g c =
    reported g.E.Sink.held g.E.Sink.failures c.args.err.now c.write_all-in-OutOfMemory.new.sink (line_of OutOfMemory)
    (line_of c.args.stop.now) c.write_all-in-OutOfMemory.result (ap line_of (sym c.in-OutOfMemory.is)) c.write_all-in-OutOfMemory.ensures
