use Rattle.std.proofs.Common.{List, ℕ, inr, refl, subst, sym, ◌∙◌}
use Rattle.std.specs.Prelude.{Err, Ok}
use Rattle.maker.specs.declared.evidence.evidence.Counterexample.{Counterexample}
use Rattle.cli.specs.Explained.{AreFoundOf, MayTellEach, WritesSome}
use Rattle.cli.proofs.AllBehindLaws.{certified, found_of, found_written, written_of}
use Rattle.cli.proofs.all_behind.judge.Goals as goal

pub returns-in-Err-clause-written : goal.returns-in-Err-clause-written
returns-in-Err-clause-written g c = inr (refl, refl)

pub returns-in-Err-lines_of-clause-written : goal.returns-in-Err-lines_of-clause-written
returns-in-Err-lines_of-clause-written g c = inr (refl, refl)

pub returns-in-Err-counterexamples_behind-clause-written : goal.returns-in-Err-counterexamples_behind-clause-written
returns-in-Err-counterexamples_behind-clause-written g c = inr (refl, refl)

pub returns-in-Err-write_found-clause-written : goal.returns-in-Err-write_found-clause-written
returns-in-Err-write_found-clause-written g c =
    let answered = c.in-Ok.behind.answered.items in
    let whole = c.judge_behind-judged.result.whole in
    let judged = c.judge_behind-judged.result.evidence in
    let are = found_of c.args.document.now.native c.args.document.now.bytes c.args.filter.now answered whole judged c.in-Ok-counterexamples_behind.all.items
    c.in-Ok-counterexamples_behind.ensures.none c.in-Ok-counterexamples_behind.ensures.found in
    certified g.O.Sink.held g.O.Sink.failures c.args.out.now c.write_found.new.out c.args.document.now.native c.args.document.now.bytes c.args.filter.now
    c.in-Ok.behind.rest.now answered whole c.deref.result.now (Err c.in-Err-write_found.fault) c.in-Ok.ensures
    (written_of g.O.Sink.held g.O.Sink.failures c.args.out.now c.write_found.new.out c.args.document.now.native c.args.document.now.bytes c.args.filter.now
    c.in-Ok.behind.rest.now answered whole c.deref.result.now (Err c.in-Err-write_found.fault) judged c.in-Err-write_found.ensures.found
    (λ no. c.in-Err-write_found.ensures.none no c.args.document.now.native c.args.document.now.bytes c.args.filter.now c.in-Ok.behind.rest.now answered c.in-Ok.ensures
    c.judge_behind-judged.ensures)
    (subst (λ (all : List Counterexample). AreFoundOf c.args.document.now.native c.args.document.now.bytes c.args.filter.now answered whole judged all)
    (sym c.deref.ensures.value) are))

pub returns-clause-written : goal.returns-clause-written
returns-clause-written g c =
    let answered = c.in-Ok.behind.answered.items in
    let whole = c.judge_behind-judged.result.whole in
    let judged = c.judge_behind-judged.result.evidence in
    let are = found_of c.args.document.now.native c.args.document.now.bytes c.args.filter.now answered whole judged c.in-Ok-counterexamples_behind.all.items
    c.in-Ok-counterexamples_behind.ensures.none c.in-Ok-counterexamples_behind.ensures.found in
    certified g.O.Sink.held g.O.Sink.failures c.args.out.now c.write_found.new.out c.args.document.now.native c.args.document.now.bytes c.args.filter.now
    c.in-Ok.behind.rest.now answered whole c.deref.result.now (Ok c.in-Ok-write_found.done) c.in-Ok.ensures
    (written_of g.O.Sink.held g.O.Sink.failures c.args.out.now c.write_found.new.out c.args.document.now.native c.args.document.now.bytes c.args.filter.now
    c.in-Ok.behind.rest.now answered whole c.deref.result.now (Ok c.in-Ok-write_found.done) judged c.in-Ok-write_found.ensures.found
    (λ no. c.in-Ok-write_found.ensures.none no c.args.document.now.native c.args.document.now.bytes c.args.filter.now c.in-Ok.behind.rest.now answered c.in-Ok.ensures
    c.judge_behind-judged.ensures)
    (subst (λ (all : List Counterexample). AreFoundOf c.args.document.now.native c.args.document.now.bytes c.args.filter.now answered whole judged all)
    (sym c.deref.ensures.value) are))

pub returns-clause-told : goal.returns-clause-told
returns-clause-told g c =
    let answered = c.in-Ok.behind.answered.items in
    let whole = c.judge_behind-judged.result.whole in
    let judged = c.judge_behind-judged.result.evidence in
    let are = found_of c.args.document.now.native c.args.document.now.bytes c.args.filter.now answered whole judged c.in-Ok-counterexamples_behind.all.items
    c.in-Ok-counterexamples_behind.ensures.none c.in-Ok-counterexamples_behind.ensures.found in
    record {
      rest = c.in-Ok.behind.rest.now;
      answered = answered;
      whole = whole;
      behind = c.in-Ok.ensures;
      all = c.deref.result.now;
      written = found_written g.O.Sink.held g.O.Sink.failures c.args.out.now c.write_found.new.out c.args.document.now.native c.args.document.now.bytes
          c.args.filter.now c.in-Ok.behind.rest.now answered whole c.deref.result.now c.in-Ok-write_found.done
          (written_of g.O.Sink.held g.O.Sink.failures c.args.out.now c.write_found.new.out c.args.document.now.native c.args.document.now.bytes c.args.filter.now
          c.in-Ok.behind.rest.now answered whole c.deref.result.now (Ok c.in-Ok-write_found.done) judged c.in-Ok-write_found.ensures.found
          (λ no. c.in-Ok-write_found.ensures.none no c.args.document.now.native c.args.document.now.bytes c.args.filter.now c.in-Ok.behind.rest.now answered c.in-Ok.ensures
          c.judge_behind-judged.ensures)
          (subst (λ (all : List Counterexample). AreFoundOf c.args.document.now.native c.args.document.now.bytes c.args.filter.now answered whole judged all)
          (sym c.deref.ensures.value) are));
      between = c.put_text.new.err;
      calls = subst (λ (text : List ℕ). WritesSome g.E.Sink.held g.E.Sink.failures c.args.err.now c.put_text.new.err text)
          (rw c.native.ensures at c.in-Ok-lines_of.ensures) c.put_text.ensures;
      each = subst (λ (all : List Counterexample). MayTellEach g.E.Sink.held g.E.Sink.failures c.args.document.now.native c.args.document.now.bytes all
          c.put_text.new.err c.explain_each.new.err)
          (c.deref-2.ensures.value ∙ sym c.deref.ensures.value) c.explain_each.ensures;
    }
