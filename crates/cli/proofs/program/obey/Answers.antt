use Rattle.std.proofs.Common.{[], ◌∷◌, codes, inl, inr, refl, ⊎_elim}
use Rattle.byte_order.specs.Turned.{read_as}
use Rattle.explain.specs.Told.{IsAssembled, IsRecorded, IsVersion}
use Rattle.show.specs.Shown.{IsDrawn}
use Rattle.command_line.specs.Lines.{texts}
use Rattle.cli.specs.Dispatch.{any_call, explained_as}
use Rattle.cli.specs.Told.{OfArguments, OfBundle, TellsFilter, of_none, of_one, of_two}
use Rattle.cli.specs.Flat.{TellsFlat}
use Rattle.cli.specs.Recovered.{TellsAsked, has_word}
use Rattle.cli.specs.Written.{WritesMade}
use Rattle.together.specs.declared.way.Way.TheVariants.{Laxest, Strictest}
use Rattle.cli.specs.inner.Telling.{told_in}
use Rattle.cli.specs.Read.{TellsLinted}
use Rattle.cli.specs.Parts.{read}
use Rattle.cli.proofs.AuditLaws.{answers_audited}
use Rattle.cli.proofs.DispatchLaws.{answers_adapted, answers_combined, answers_manual, answers_stack, answers_replayed, answers_told}
use Rattle.cli.proofs.LogLaws.{answers_learned}
use Rattle.cli.proofs.program.obey.Goals as goal

pub returns-in-Explain-clause-does : goal.returns-in-Explain-clause-does
returns-in-Explain-clause-does g c = rw c.in-Explain.is (⊎_elim
    (λ asks. inl (
      asks,
      answers_audited g.I.Source.left g.I.Source.failures (g.F.Files.folder c.args.files.now) c.args.input.now c.explain.new.input
          g.O.Sink.held g.O.Sink.failures c.args.out.now c.tell.new.out (read c.args.parts) c.tell.result c.explain.result
          (c.explain.ensures.audit asks) c.tell.ensures,
    ))
    (λ told. inr (
      told.0,
      answers_told g.O.Sink.held g.O.Sink.failures (g.F.Files.folder c.args.files.now)
          (c.args.parts.two.now ∷ [])
          (of_one (OfBundle c.args.parts.native
          (explained_as c.args.parts.native (texts c.args.parts.from_three.now) (any_call (texts c.args.parts.from_three.now)))))
          c.args.out.now c.tell.new.out c.tell.result c.explain.result told.1 c.tell.ensures,
    ))
    c.explain.ensures.call)

pub returns-in-Record-clause-does : goal.returns-in-Record-clause-does
returns-in-Record-clause-does g c = rw c.in-Record.is (
  refl,
  answers_told g.O.Sink.held g.O.Sink.failures (g.F.Files.folder c.args.files.now) [] (of_none (OfArguments (IsRecorded c.args.parts.native) (texts c.args.parts.from_two.now)))
      c.args.out.now c.tell-in-Record.new.out c.tell-in-Record.result c.record.result (c.record.ensures (g.F.Files.folder c.args.files.now)) c.tell-in-Record.ensures,
)

pub returns-in-Assemble-clause-does : goal.returns-in-Assemble-clause-does
returns-in-Assemble-clause-does g c = rw c.in-Assemble.is (
  refl,
  answers_told g.O.Sink.held g.O.Sink.failures (g.F.Files.folder c.args.files.now) (c.args.parts.one.now ∷ []) (of_one IsAssembled)
      c.args.out.now c.tell-in-Assemble.new.out c.tell-in-Assemble.result c.assembled.result c.assembled.ensures c.tell-in-Assemble.ensures,
)

pub returns-in-Lint-clause-does : goal.returns-in-Lint-clause-does
returns-in-Lint-clause-does g c = rw c.in-Lint.is (
  refl,
  answers_told g.O.Sink.held g.O.Sink.failures (g.F.Files.folder c.args.files.now) (c.args.parts.two.now ∷ []) (of_one (OfBundle c.args.parts.native (TellsLinted c.args.parts.native)))
      c.args.out.now c.tell-in-Lint.new.out c.tell-in-Lint.result c.linted.result c.linted.ensures c.tell-in-Lint.ensures,
)

pub returns-in-Annotate-clause-does : goal.returns-in-Annotate-clause-does
returns-in-Annotate-clause-does g c = rw c.in-Annotate.is (
  refl,
  answers_told g.O.Sink.held g.O.Sink.failures (g.F.Files.folder c.args.files.now) (c.args.parts.two.now ∷ [])
      (of_one (λ file. TellsFilter (read_as c.args.parts.native file)))
      c.args.out.now c.tell-in-Annotate.new.out c.tell-in-Annotate.result c.annotated.result c.annotated.ensures c.tell-in-Annotate.ensures,
)

pub returns-in-Draw-clause-does : goal.returns-in-Draw-clause-does
returns-in-Draw-clause-does g c = rw c.in-Draw.is (
  refl,
  answers_told g.O.Sink.held g.O.Sink.failures (g.F.Files.folder c.args.files.now) (c.args.parts.two.now ∷ [])
      (of_one (λ file. IsDrawn (read_as c.args.parts.native file)))
      c.args.out.now c.tell-in-Draw.new.out c.tell-in-Draw.result c.drawn.result c.drawn.ensures c.tell-in-Draw.ensures,
)

pub returns-in-Version-clause-does : goal.returns-in-Version-clause-does
returns-in-Version-clause-does g c = rw c.in-Version.is (
  refl,
  answers_told g.O.Sink.held g.O.Sink.failures (g.F.Files.folder c.args.files.now) [] (of_none IsVersion)
      c.args.out.now c.tell-in-Version.new.out c.tell-in-Version.result c.version.result (c.version.ensures (g.F.Files.folder c.args.files.now)) c.tell-in-Version.ensures,
)

pub returns-in-Recover-clause-does : goal.returns-in-Recover-clause-does
returns-in-Recover-clause-does g c = rw c.in-Recover.is (
  refl,
  answers_told g.O.Sink.held g.O.Sink.failures (g.F.Files.folder c.args.files.now) (c.args.parts.two.now ∷ [])
      (of_one (λ file. WritesMade c.args.parts.native (has_word (codes "bundle") (texts c.args.parts.from_three.now))
      (TellsAsked c.args.parts.native (texts c.args.parts.from_three.now) (read_as c.args.parts.native file)))) c.args.out.now c.tell_both-in-Recover.new.out
      c.tell_both-in-Recover.result (told_in c.recovered.result) c.recovered.ensures c.tell_both-in-Recover.ensures.told,
)

pub returns-in-Manual-clause-does : goal.returns-in-Manual-clause-does
returns-in-Manual-clause-does g c = rw c.in-Manual.is (
  refl,
  answers_manual g.O.Sink.held g.O.Sink.failures (g.F.Files.folder c.args.files.now) c.args.out.now c.tell-in-Manual.new.out _
      c.tell-in-Manual.result c.manual.result (c.manual.ensures (g.F.Files.folder c.args.files.now)) c.tell-in-Manual.ensures,
)

pub returns-in-Adapt-clause-does : goal.returns-in-Adapt-clause-does
returns-in-Adapt-clause-does g c = rw c.in-Adapt.is (
  refl,
  answers_adapted g.O.Sink.held g.O.Sink.failures (g.F.Files.folder c.args.files.now) c.args.out.now c.tell_both.new.out
      c.args.parts.native c.args.parts.two.now (texts c.args.parts.from_three.now) c.tell_both.result c.adapted.result c.adapted.ensures
      c.tell_both.ensures.told,
)

pub returns-in-Learn-clause-does : goal.returns-in-Learn-clause-does
returns-in-Learn-clause-does g c = rw c.in-Learn.is (
  refl,
  answers_learned g.O.Sink.held g.O.Sink.failures (g.F.Files.folder c.args.files.now) c.args.out.now c.tell_both-in-Learn.new.out
      c.args.parts.native c.tell_both-in-Learn.result (texts c.args.parts.from_two.now) c.learned.result c.learned.ensures
      c.tell_both-in-Learn.ensures.told,
)

pub returns-in-Replay-clause-does : goal.returns-in-Replay-clause-does
returns-in-Replay-clause-does g c = rw c.in-Replay.is (
  refl,
  answers_replayed g.O.Sink.held g.O.Sink.failures (g.F.Files.folder c.args.files.now) c.args.out.now c.tell-in-Replay.new.out
      c.args.parts.native c.args.parts.two.now (texts c.args.parts.from_three.now) c.tell-in-Replay.result c.replayed.result
      c.replayed.ensures c.tell-in-Replay.ensures,
)

pub returns-in-Join-clause-does : goal.returns-in-Join-clause-does
returns-in-Join-clause-does g c = rw c.in-Join.is (
  refl,
  answers_combined g.O.Sink.held g.O.Sink.failures (g.F.Files.folder c.args.files.now) c.args.out.now c.tell_both-in-Join.new.out
      c.args.parts.native Laxest (texts c.args.parts.from_two.now) c.tell_both-in-Join.result c.combined.result c.combined.ensures
      c.tell_both-in-Join.ensures.told,
)

pub returns-in-Meet-clause-does : goal.returns-in-Meet-clause-does
returns-in-Meet-clause-does g c = rw c.in-Meet.is (
  refl,
  answers_combined g.O.Sink.held g.O.Sink.failures (g.F.Files.folder c.args.files.now) c.args.out.now c.tell_both-in-Meet.new.out
      c.args.parts.native Strictest (texts c.args.parts.from_two.now) c.tell_both-in-Meet.result c.combined-in-Meet.result
      c.combined-in-Meet.ensures c.tell_both-in-Meet.ensures.told,
)

pub returns-in-Stack-clause-does : goal.returns-in-Stack-clause-does
returns-in-Stack-clause-does g c = rw c.in-Stack.is (
  refl,
  answers_stack g.O.Sink.held g.O.Sink.failures (g.F.Files.folder c.args.files.now) c.args.out.now c.tell_both-in-Stack.new.out
      c.args.parts.native (texts c.args.parts.from_two.now) c.tell_both-in-Stack.result c.stacked.result c.stacked.ensures
      c.tell_both-in-Stack.ensures.told,
)

pub returns-in-Flatten-clause-does : goal.returns-in-Flatten-clause-does
returns-in-Flatten-clause-does g c = rw c.in-Flatten.is (
  refl,
  answers_told g.O.Sink.held g.O.Sink.failures (g.F.Files.folder c.args.files.now) (texts c.args.parts.from_two.now) (TellsFlat c.args.parts.native)
      c.args.out.now c.tell-in-Flatten.new.out c.tell-in-Flatten.result c.flattened.result c.flattened.ensures c.tell-in-Flatten.ensures,
)

pub returns-in-Review-clause-does : goal.returns-in-Review-clause-does
returns-in-Review-clause-does g c = rw c.in-Review.is (refl, c.review_as.ensures)
