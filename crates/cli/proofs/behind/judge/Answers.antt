use Rattle.std.proofs.Common.{List, ℕ, inl, inr, refl, subst}
use Rattle.std.specs.Prelude.{Ok}
use Rattle.cli.specs.Explained.{WritesSome}
use Rattle.cli.proofs.ExplainedLaws.{quiet_of, told_of, why_of}
use Rattle.cli.proofs.behind.judge.Goals as goal

pub returns-in-Err-clause-written : goal.returns-in-Err-clause-written
returns-in-Err-clause-written g c = inr (refl, refl)

pub returns-in-Err-lines_of-clause-written : goal.returns-in-Err-lines_of-clause-written
returns-in-Err-lines_of-clause-written g c = inr (refl, refl)

pub returns-in-Err-write_behind-clause-written : goal.returns-in-Err-write_behind-clause-written
returns-in-Err-write_behind-clause-written g c = inl (
  c.in-Ok.behind.rest.now,
  c.in-Ok.behind.answered.items,
  c.judge_behind-judged.result.whole,
  c.in-Ok.ensures,
  c.in-Err-write_behind.ensures.found c.args.document.now.native c.args.document.now.bytes c.args.filter.now c.in-Ok.behind.rest.now
      c.in-Ok.behind.answered.items c.in-Ok.ensures c.judge_behind-judged.ensures,
)

pub returns-clause-written : goal.returns-clause-written
returns-clause-written g c = inl (
  c.in-Ok.behind.rest.now,
  c.in-Ok.behind.answered.items,
  c.judge_behind-judged.result.whole,
  c.in-Ok.ensures,
  c.in-Ok-write_behind.ensures.found c.args.document.now.native c.args.document.now.bytes c.args.filter.now c.in-Ok.behind.rest.now
      c.in-Ok.behind.answered.items c.in-Ok.ensures c.judge_behind-judged.ensures,
)

pub returns-clause-told : goal.returns-clause-told
returns-clause-told g c =
    let quiet = quiet_of g.O.Sink.held g.O.Sink.failures c.args.out.now c.write_behind.new.sink g.E.Sink.held g.E.Sink.failures
    c.put_text.new.err c.tell_found.new.err c.args.document.now.native c.args.document.now.bytes (Ok c.in-Ok-write_behind.done)
    c.judge_behind-judged.result.evidence c.in-Ok-write_behind.ensures.told c.tell_found.ensures.quiet in
    let told = told_of g.O.Sink.held g.O.Sink.failures c.args.out.now c.write_behind.new.sink g.E.Sink.held g.E.Sink.failures
    c.put_text.new.err c.tell_found.new.err c.args.document.now.native c.args.document.now.bytes (Ok c.in-Ok-write_behind.done)
    c.judge_behind-judged.result.evidence c.in-Ok-write_behind.ensures.told c.tell_found.ensures.why c.tell_found.ensures.quiet in
    record {
      rest = c.in-Ok.behind.rest.now;
      answered = c.in-Ok.behind.answered.items;
      whole = c.judge_behind-judged.result.whole;
      behind = c.in-Ok.ensures;
      written = c.in-Ok-write_behind.ensures.found c.args.document.now.native c.args.document.now.bytes c.args.filter.now c.in-Ok.behind.rest.now
          c.in-Ok.behind.answered.items c.in-Ok.ensures c.judge_behind-judged.ensures;
      between = c.put_text.new.err;
      calls = subst (λ (text : List ℕ). WritesSome g.E.Sink.held g.E.Sink.failures c.args.err.now c.put_text.new.err text)
          (rw c.native.ensures at c.in-Ok-lines_of.ensures) c.put_text.ensures;
      why = why_of g.O.Sink.held g.O.Sink.failures c.args.out.now c.write_behind.new.sink g.E.Sink.held g.E.Sink.failures
          c.put_text.new.err c.tell_found.new.err c.args.document.now.native c.args.document.now.bytes c.in-Ok-write_behind.done
          (Ok c.in-Ok-write_behind.done) refl quiet told;
    }
