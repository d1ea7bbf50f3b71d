use Rattle.std.proofs.Common.{◌≡◌, inl, inr, refl, subst}
use Rattle.std.proofs.lemmas.Result.{on_ok_weaker}
use Rattle.session.specs.declared.bundles.Bundles.{Bundles}
use Rattle.session.specs.Scripts.{IsAnswered, StopsForMemory, StopsReading, StopsWriting}
use Rattle.session.specs.inner.Progress.{standing_of}
use Rattle.session.proofs.ComeLaws.{nothing_came}
use Rattle.session.proofs.run.run_script.Goals as goal

pub take_all-requires : goal.take_all-requires
take_all-requires g c =
    nothing_came c.in-Ok.progress.session.bundles (standing_of c.in-Ok.progress) (g.I.Source.left c.args.source.now) (g.O.Sink.held c.args.sink.now)
    c.in-Ok.ensures.world c.in-Ok.ensures.line c.in-Ok.ensures.count c.in-Ok.ensures.out

pub returns-in_default-clause-memory : goal.returns-in_default-clause-memory
returns-in_default-clause-memory g c = λ line e.
    let none : line ≡ 0 = cc in
    inr (none, refl, refl)

pub returns-clause-ok : goal.returns-clause-ok
returns-clause-ok g c =
    let left = g.I.Source.left c.args.source.now in
    let after = g.I.Source.left c.take_all.new.source in
    let held = g.O.Sink.held c.args.sink.now in
    on_ok_weaker c.take_all.result (subst (λ (b : Bundles). IsAnswered b left after held (g.O.Sink.held c.take_all.new.sink)) c.in-Ok.ensures.bundles)
    c.take_all.ensures.ok

pub returns-clause-read : goal.returns-clause-read
returns-clause-read g c = λ line e.
    let left = g.I.Source.left c.args.source.now in
    let after = g.I.Source.left c.take_all.new.source in
    let held = g.O.Sink.held c.args.sink.now in
    subst (λ (b : Bundles). StopsReading b left after held (g.O.Sink.held c.take_all.new.sink) line) c.in-Ok.ensures.bundles
    (c.take_all.ensures.read line e)

pub returns-clause-write : goal.returns-clause-write
returns-clause-write g c = λ out e.
    let left = g.I.Source.left c.args.source.now in
    let after = g.I.Source.left c.take_all.new.source in
    let held = g.O.Sink.held c.args.sink.now in
    subst (λ (b : Bundles). StopsWriting b left after held (g.O.Sink.held c.take_all.new.sink) out) c.in-Ok.ensures.bundles
    (c.take_all.ensures.write out e)

pub returns-clause-memory : goal.returns-clause-memory
returns-clause-memory g c = λ line e.
    let left = g.I.Source.left c.args.source.now in
    let after = g.I.Source.left c.take_all.new.source in
    let held = g.O.Sink.held c.args.sink.now in
    let stops = c.take_all.ensures.memory line e in
    inl (subst (λ (b : Bundles). StopsForMemory b left after held (g.O.Sink.held c.take_all.new.sink) line) c.in-Ok.ensures.bundles stops)
