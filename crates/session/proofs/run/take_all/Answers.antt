use Rattle.std.proofs.Common.{◌≡◌, ℕ, refl, sym, subst, ◌∙◌}
use Rattle.std.specs.Prelude.{Option, Err}
use Rattle.std.specs.Option.{option_to_list}
use Rattle.std.specs.Io.KnownBytes.{Consumes}
use Rattle.std.proofs.lemmas.Result.{on_ok_weaker}
use Rattle.texts.proofs.SinkLemmas.{has_failed}
use Rattle.session.specs.declared.bundles.Bundles.{Bundles}
use Rattle.session.specs.Scripts.{IsAnswered, StopsForMemory, StopsWriting}
use Rattle.session.specs.inner.Lines.{HasCome}
use Rattle.session.specs.inner.Progress.{standing_of}
use Rattle.session.proofs.ComeLaws.{stops_reading}
use Rattle.session.proofs.RunLaws.{came_all, came_here}
use Rattle.session.proofs.FailedLaws.{no_failed_read, since}
use Rattle.session.proofs.run.take_all.Goals as goal

pub byte-init : goal.byte-init
byte-init g c = record { come = c.requires; bundles = refl; given = refl; taken = refl }

pub returns-in-Err-take-clause-write : goal.returns-in-Err-take-clause-write
returns-in-Err-take-clause-write g c = λ out e.
    let left = g.I.Source.left c.args.source.now in
    let before = g.I.Source.left c.byte.source in
    let after = g.I.Source.left c.next_byte.new.source in
    let held = g.O.Sink.held c.args.sink.now in
    let come = came_here c.byte.progress.session.bundles c.args.progress.now.session.bundles c.byte.invariant.bundles
    (standing_of c.byte.progress) left before held (g.O.Sink.held c.byte.sink) c.byte.invariant.come in
    let taken = subst (λ (o : Option ℕ). Consumes before after (option_to_list o)) c.in-Ok-Some.field-0-is c.in-Ok-Some.ensures.byte in
    let stops = c.take.ensures.write left before after held out come taken (c.in-Err-take.is ∙ e) in
    subst (λ (b : Bundles). StopsWriting b left after held (g.O.Sink.held c.take.new.sink) out) c.byte.invariant.bundles stops

pub returns-in-Err-take-clause-memory : goal.returns-in-Err-take-clause-memory
returns-in-Err-take-clause-memory g c = λ line e.
    let left = g.I.Source.left c.args.source.now in
    let before = g.I.Source.left c.byte.source in
    let after = g.I.Source.left c.next_byte.new.source in
    let held = g.O.Sink.held c.args.sink.now in
    let come = came_here c.byte.progress.session.bundles c.args.progress.now.session.bundles c.byte.invariant.bundles
    (standing_of c.byte.progress) left before held (g.O.Sink.held c.byte.sink) c.byte.invariant.come in
    let taken = subst (λ (o : Option ℕ). Consumes before after (option_to_list o)) c.in-Ok-Some.field-0-is c.in-Ok-Some.ensures.byte in
    let stops = c.take.ensures.memory left before after held line come taken (c.in-Err-take.is ∙ e) in
    subst (λ (b : Bundles). StopsForMemory b left after held (g.O.Sink.held c.take.new.sink) line) c.byte.invariant.bundles stops

pub byte-preserved : goal.byte-preserved
byte-preserved g c =
    let left = g.I.Source.left c.args.source.now in
    let before = g.I.Source.left c.byte.source in
    let after = g.I.Source.left c.next_byte.new.source in
    let held = g.O.Sink.held c.args.sink.now in
    let come = came_here c.byte.progress.session.bundles c.args.progress.now.session.bundles c.byte.invariant.bundles
    (standing_of c.byte.progress) left before held (g.O.Sink.held c.byte.sink) c.byte.invariant.come in
    let taken = subst (λ (o : Option ℕ). Consumes before after (option_to_list o)) c.in-Ok-Some.field-0-is c.in-Ok-Some.ensures.byte in
    let grown = c.in_default.ensures.ok left before after held come taken in
    record {
      come = subst (λ (b : Bundles). HasCome b (standing_of c.take.new.self) left after held (g.O.Sink.held c.take.new.sink)) c.byte.invariant.bundles grown;
      bundles = c.take.ensures.bundles ∙ c.byte.invariant.bundles;
      given = c.in-Ok-Some.ensures.none_failed ∙ c.byte.invariant.given;
      taken = c.in_default.ensures.failures ∙ c.byte.invariant.taken;
    }

pub returns-in-Ok-None-clause-ok : goal.returns-in-Ok-None-clause-ok
returns-in-Ok-None-clause-ok g c =
    let left = g.I.Source.left c.args.source.now in
    let after = g.I.Source.left c.next_byte.new.source in
    let held = g.O.Sink.held c.args.sink.now in
    let all = came_all c.byte.progress.session.bundles c.args.progress.now.session.bundles c.byte.invariant.bundles
    (standing_of c.byte.progress) left (g.I.Source.left c.byte.source) held (g.O.Sink.held c.byte.sink) c.byte.invariant.come
    after c.in-Ok-None.field-0 c.in-Ok-None.field-0-is c.in-Ok-None.ensures.byte in
    let answer = c.finish.ensures.ok left after held all (c.in-Ok-None.ensures.end c.in-Ok-None.field-0-is) in
    on_ok_weaker c.finish.result (subst (λ (b : Bundles). IsAnswered b left after held (g.O.Sink.held c.finish.new.sink)) c.byte.invariant.bundles) answer

pub returns-in-Ok-None-clause-write : goal.returns-in-Ok-None-clause-write
returns-in-Ok-None-clause-write g c = λ out e.
    let left = g.I.Source.left c.args.source.now in
    let after = g.I.Source.left c.next_byte.new.source in
    let held = g.O.Sink.held c.args.sink.now in
    let all = came_all c.byte.progress.session.bundles c.args.progress.now.session.bundles c.byte.invariant.bundles
    (standing_of c.byte.progress) left (g.I.Source.left c.byte.source) held (g.O.Sink.held c.byte.sink) c.byte.invariant.come
    after c.in-Ok-None.field-0 c.in-Ok-None.field-0-is c.in-Ok-None.ensures.byte in
    let stops = c.finish.ensures.write left after held out all (c.in-Ok-None.ensures.end c.in-Ok-None.field-0-is) e in
    subst (λ (b : Bundles). StopsWriting b left after held (g.O.Sink.held c.finish.new.sink) out) c.byte.invariant.bundles stops

pub returns-in-Ok-None-clause-memory : goal.returns-in-Ok-None-clause-memory
returns-in-Ok-None-clause-memory g c = λ line e.
    let left = g.I.Source.left c.args.source.now in
    let after = g.I.Source.left c.next_byte.new.source in
    let held = g.O.Sink.held c.args.sink.now in
    let all = came_all c.byte.progress.session.bundles c.args.progress.now.session.bundles c.byte.invariant.bundles
    (standing_of c.byte.progress) left (g.I.Source.left c.byte.source) held (g.O.Sink.held c.byte.sink) c.byte.invariant.come
    after c.in-Ok-None.field-0 c.in-Ok-None.field-0-is c.in-Ok-None.ensures.byte in
    let stops = c.finish.ensures.memory left after held line all (c.in-Ok-None.ensures.end c.in-Ok-None.field-0-is) e in
    subst (λ (b : Bundles). StopsForMemory b left after held (g.O.Sink.held c.finish.new.sink) line) c.byte.invariant.bundles stops

pub returns-in-Err-clause-read : goal.returns-in-Err-clause-read
returns-in-Err-clause-read g c = λ line e.
    let left = g.I.Source.left c.args.source.now in
    let before = g.I.Source.left c.byte.source in
    let after = g.I.Source.left c.next_byte.new.source in
    let held = g.O.Sink.held c.args.sink.now in
    let same : c.number-line.result ≡ line = cc in
    stops_reading c.args.progress.now.session.bundles (standing_of c.byte.progress) left before held (g.O.Sink.held c.byte.sink)
    c.byte.invariant.come after line
    c.in-Err.ensures.err (sym same ∙ c.number-line.ensures)

pub returns-in-Err-take-clause-failed_read : goal.returns-in-Err-take-clause-failed_read
returns-in-Err-take-clause-failed_read g c =
    no_failed_read (g.I.Source.failures c.args.source.now) (g.I.Source.failures c.next_byte.new.source) (Err c.in-Err-take.fault)
    (λ line e. c.take.ensures.no_read line (c.in-Err-take.is ∙ e)) (c.in-Ok-Some.ensures.none_failed ∙ c.byte.invariant.given)

pub returns-in-Err-take-clause-failed_write : goal.returns-in-Err-take-clause-failed_write
returns-in-Err-take-clause-failed_write g c =
    since (g.O.Sink.failures c.args.sink.now) (g.O.Sink.failures c.byte.sink) (g.O.Sink.failures c.take.new.sink) c.take.result
    (Err c.in-Err-take.fault)
    c.in-Err-take.is c.byte.invariant.taken c.take.ensures.failures

pub returns-in-Ok-None-clause-failed_read : goal.returns-in-Ok-None-clause-failed_read
returns-in-Ok-None-clause-failed_read g c =
    no_failed_read (g.I.Source.failures c.args.source.now) (g.I.Source.failures c.next_byte.new.source) c.finish.result
    c.finish.ensures.no_read (c.in-Ok-None.ensures.none_failed ∙ c.byte.invariant.given)

pub returns-in-Ok-None-clause-failed_write : goal.returns-in-Ok-None-clause-failed_write
returns-in-Ok-None-clause-failed_write g c =
    since (g.O.Sink.failures c.args.sink.now) (g.O.Sink.failures c.byte.sink) (g.O.Sink.failures c.finish.new.sink) c.finish.result
    c.finish.result
    refl c.byte.invariant.taken c.finish.ensures.failures

pub returns-in-Err-clause-failed_read : goal.returns-in-Err-clause-failed_read
returns-in-Err-clause-failed_read g c =
    has_failed (g.I.Source.failures c.args.source.now) (g.I.Source.failures c.byte.source) (g.I.Source.failures c.next_byte.new.source)
    c.byte.invariant.given c.in-Err.ensures.failed
