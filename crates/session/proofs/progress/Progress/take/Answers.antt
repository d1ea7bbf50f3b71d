use Rattle.std.proofs.Common.{ℕ, [], ◌∷◌, ap, subst}
use Rattle.std.specs.Io.KnownBytes.{Consumes}
use Rattle.std.proofs.lemmas.Result.{on_ok_weaker}
use Rattle.lifecycle.specs.Views.{world_of}
use Rattle.session.specs.declared.carry.Session.{Session}
use Rattle.session.specs.inner.Progress.{standing_of}
use Rattle.session.proofs.ComeLaws.{came_byte, came_line, line_not_carried, line_not_written}
use Rattle.session.proofs.Tests.{other_byte}
use Rattle.session.proofs.progress.Progress.take.Goals as goal

pub returns-then-byte-eq-LINE_FEED-clause-ok : goal.returns-then-byte-eq-LINE_FEED-clause-ok
returns-then-byte-eq-LINE_FEED-clause-ok g c = λ left before after held come taken.
    let feed = subst (λ (b : ℕ). Consumes before after (b ∷ [])) c.if-byte-eq-LINE_FEED.true taken in
    on_ok_weaker c.end_line.result
    (came_line c.args.self.now.session.bundles (standing_of c.args.self.now) left before held (g.S.Sink.held c.args.sink.now) come after feed
    (standing_of c.end_line.new.self) (g.S.Sink.held c.end_line.new.sink))
    (c.end_line.ensures.ok held come.lines come.part come.commands come.stands)

pub returns-then-byte-eq-LINE_FEED-clause-write : goal.returns-then-byte-eq-LINE_FEED-clause-write
returns-then-byte-eq-LINE_FEED-clause-write g c = λ left before after held out come taken e.
    let feed = subst (λ (b : ℕ). Consumes before after (b ∷ [])) c.if-byte-eq-LINE_FEED.true taken in
    line_not_written c.args.self.now.session.bundles (standing_of c.args.self.now) left before held (g.S.Sink.held c.args.sink.now) come
    after feed
    (g.S.Sink.held c.end_line.new.sink) out (c.end_line.ensures.write held come.lines come.part come.commands out come.stands e)

pub returns-then-byte-eq-LINE_FEED-clause-memory : goal.returns-then-byte-eq-LINE_FEED-clause-memory
returns-then-byte-eq-LINE_FEED-clause-memory g c = λ left before after held line come taken e.
    let feed = subst (λ (b : ℕ). Consumes before after (b ∷ [])) c.if-byte-eq-LINE_FEED.true taken in
    line_not_carried c.args.self.now.session.bundles (standing_of c.args.self.now) left before held (g.S.Sink.held c.args.sink.now) come after feed
    (g.S.Sink.held c.end_line.new.sink) line (c.end_line.ensures.memory held come.lines come.part come.commands line come.stands e)

pub returns-else-byte-eq-LINE_FEED-clause-ok : goal.returns-else-byte-eq-LINE_FEED-clause-ok
returns-else-byte-eq-LINE_FEED-clause-ok g c = λ left before after held come taken.
    came_byte c.args.self.now.session.bundles (standing_of c.args.self.now) left before held (g.S.Sink.held c.args.sink.now) come
    (standing_of c.keep.new.self) after c.args.byte taken (other_byte c.args.byte 10 c.if-byte-eq-LINE_FEED.false)
    (ap (λ (s : Session). world_of s.runtime) c.keep.ensures.session) c.keep.ensures.line c.keep.ensures.count c.keep.ensures.out
