use Rattle.std.proofs.Common.{◌≡◌, ◌+◌, ap, arith, refl, sym, ◌∙◌}
use Rattle.lifecycle.specs.Views.{world_of}
use Rattle.session.specs.Answer.{counted}
use Rattle.session.specs.inner.Progress.{standing_of}
use Rattle.session.proofs.EndLaws.{breaks_off, failed_write, goes_on, not_asked, runs_out}
use Rattle.session.proofs.progress.Progress.end_line.Goals as goal

pub returns-in-Ok-clause-ok : goal.returns-in-Ok-clause-ok
returns-in-Ok-clause-ok g c = λ held lines part commands st.
    goes_on g.S.Sink.held g.S.Sink.failures c.args.self.now.session.bundles (standing_of c.args.self.now) held lines part commands
    c.deref.result.now c.saturating_add-number.result c.deref.ensures.value (omega arith) (world_of c.answer_line.new.session.runtime)
    c.args.sink.now c.answer_line.new.sink st _ c.in-Ok.n c.in-Ok.ensures.done refl c.clear.ensures.items refl (omega arith)

pub returns-in-Err-Write-clause-write : goal.returns-in-Err-Write-clause-write
returns-in-Err-Write-clause-write g c = λ held lines part commands out st e.
    let same : c.saturating_add.result ≡ out = cc in
    breaks_off g.S.Sink.held g.S.Sink.failures c.args.self.now.session.bundles (standing_of c.args.self.now) held lines part commands
    c.deref.result.now c.saturating_add-number.result c.deref.ensures.value (omega arith) (world_of c.answer_line.new.session.runtime)
    c.args.sink.now c.answer_line.new.sink st c.in-Err-Write.field-0 c.in-Err-Write.out out c.in-Err-Write.ensures.done
    c.in-Err-Write.field-0-is (sym same ∙ (c.saturating_add.ensures ∙ ap (λ m. counted (c.args.self.now.out + m)) c.in-Err-Write.out-is))

pub returns-in-Err-OutOfMemory-clause-memory : goal.returns-in-Err-OutOfMemory-clause-memory
returns-in-Err-OutOfMemory-clause-memory g c = λ held lines part commands line st e.
    let same : c.saturating_add-number.result ≡ line = cc in
    runs_out g.S.Sink.held g.S.Sink.failures c.args.self.now.session.bundles (standing_of c.args.self.now) held lines part commands
    c.deref.result.now c.saturating_add-number.result c.deref.ensures.value (omega arith) (world_of c.answer_line.new.session.runtime)
    c.args.sink.now c.answer_line.new.sink st c.in-Err-OutOfMemory.field-0 line c.in-Err-OutOfMemory.ensures.done
    c.in-Err-OutOfMemory.field-0-is (sym same)

pub returns-in-Ok-clause-failures : goal.returns-in-Ok-clause-failures
returns-in-Ok-clause-failures g c = c.in-Ok.ensures.done.written.1

pub returns-in-Err-Write-clause-failures : goal.returns-in-Err-Write-clause-failures
returns-in-Err-Write-clause-failures g c =
    failed_write g.S.Sink.held g.S.Sink.failures c.args.sink.now c.answer_line.new.sink _ c.in-Err-Write.field-0
    c.in-Err-Write.ensures.done.written
    c.in-Err-Write.out c.in-Err-Write.field-0-is

pub returns-in-Err-OutOfMemory-clause-failures : goal.returns-in-Err-OutOfMemory-clause-failures
returns-in-Err-OutOfMemory-clause-failures g c =
    not_asked g.S.Sink.held g.S.Sink.failures c.args.sink.now c.answer_line.new.sink _ c.in-Err-OutOfMemory.field-0
    c.in-Err-OutOfMemory.ensures.done.written c.in-Err-OutOfMemory.field-0-is
