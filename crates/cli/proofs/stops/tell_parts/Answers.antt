use Rattle.std.proofs.Common.{List, [], ◌∷◌, ◌++◌, ℕ, refl}
use Rattle.std.specs.Prelude.{codes}
use Rattle.texts.specs.Lines.{line_feed}
use Rattle.cli.proofs.ReportLaws.{part_failed, part_written}
use Rattle.cli.proofs.stops.tell_parts.Goals as goal

abbrev head : List ℕ
head = codes "ccell: cannot read "

pub returns-in_err-write_all-2 : goal.returns-in_err-write_all-2
returns-in_err-write_all-2 g c =
    part_written g.E.Sink.held g.E.Sink.failures c.args.err.now c.write_all.new.sink c.write_all-2.new.sink head head
    (c.args.name.now ++ line_feed ∷ []) refl c.in_ok-write_all.ensures
    (part_failed g.E.Sink.held g.E.Sink.failures c.write_all.new.sink c.write_all-2.new.sink c.as_bytes.result.now c.args.name.now
    (line_feed ∷ []) c.in_err-write_all-2.field-0.0 c.as_bytes.ensures.value c.in_err-write_all-2.ensures)

pub returns : goal.returns
returns g c =
    part_written g.E.Sink.held g.E.Sink.failures c.args.err.now c.write_all.new.sink c.write_all-3.new.sink head head
    (c.args.name.now ++ line_feed ∷ []) refl c.in_ok-write_all.ensures
    (part_written g.E.Sink.held g.E.Sink.failures c.write_all.new.sink c.write_all-2.new.sink c.write_all-3.new.sink c.as_bytes.result.now
    c.args.name.now (line_feed ∷ []) c.as_bytes.ensures.value c.in_ok-write_all-2.ensures (c.write_all-3.result, c.write_all-3.ensures))
