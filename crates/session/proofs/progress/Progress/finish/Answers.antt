use Rattle.std.proofs.Common.{◌≡◌, ◌∙◌, length, sym, arith}
use Rattle.std.proofs.lemmas.Result.{on_ok_weaker}
use Rattle.session.specs.inner.Progress.{standing_of}
use Rattle.session.proofs.ComeLaws.{ends, last_answered, last_not_carried, last_not_written}
use Rattle.session.proofs.Tests.{is_not_zero, is_zero}
use Rattle.session.proofs.progress.Progress.finish.Goals as goal

pub returns-then-is_empty-clause-ok : goal.returns-then-is_empty-clause-ok
returns-then-is_empty-clause-ok g c = λ left end held come at.
    let ok = c.args.self.now.line.ok in
    let none : c.args.self.now.line.len ≡ 0 = is_zero c.args.self.now.line.len (sym c.is_empty.ensures ∙ c.if-is_empty.true) in
    let empty : length c.args.self.now.line.items ≡ 0 = omega arith in
    ends c.args.self.now.session.bundles (standing_of c.args.self.now) left end held (g.S.Sink.held c.args.sink.now) come at empty

pub returns-clause-ok : goal.returns-clause-ok
returns-clause-ok g c = λ left end held come at.
    let ok = c.args.self.now.line.ok in
    let filled = is_not_zero c.args.self.now.line.len (sym c.is_empty.ensures ∙ c.if-is_empty.false) in
    let some : length c.args.self.now.line.items ≡ 0 → ⊥ = λ e. filled (omega arith) in
    on_ok_weaker c.end_line.result
    (last_answered c.args.self.now.session.bundles (standing_of c.args.self.now) left end held (g.S.Sink.held c.args.sink.now) come at some
    (standing_of c.end_line.new.self) (g.S.Sink.held c.end_line.new.sink))
    (c.end_line.ensures.ok held come.lines come.part come.commands come.stands)

pub returns-clause-write : goal.returns-clause-write
returns-clause-write g c = λ left end held out come at e.
    let ok = c.args.self.now.line.ok in
    let filled = is_not_zero c.args.self.now.line.len (sym c.is_empty.ensures ∙ c.if-is_empty.false) in
    let some : length c.args.self.now.line.items ≡ 0 → ⊥ = λ e. filled (omega arith) in
    last_not_written c.args.self.now.session.bundles (standing_of c.args.self.now) left end held (g.S.Sink.held c.args.sink.now) come at
    some
    (g.S.Sink.held c.end_line.new.sink) out (c.end_line.ensures.write held come.lines come.part come.commands out come.stands e)

pub returns-clause-memory : goal.returns-clause-memory
returns-clause-memory g c = λ left end held line come at e.
    let ok = c.args.self.now.line.ok in
    let filled = is_not_zero c.args.self.now.line.len (sym c.is_empty.ensures ∙ c.if-is_empty.false) in
    let some : length c.args.self.now.line.items ≡ 0 → ⊥ = λ e. filled (omega arith) in
    last_not_carried c.args.self.now.session.bundles (standing_of c.args.self.now) left end held (g.S.Sink.held c.args.sink.now) come at some
    (g.S.Sink.held c.end_line.new.sink) line (c.end_line.ensures.memory held come.lines come.part come.commands line come.stands e)
