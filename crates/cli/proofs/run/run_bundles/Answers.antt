use Rattle.std.proofs.Common.{◌∙◌, List, ap, inl, inr, map, refl, subst, sym}
use Rattle.std.specs.Prelude.{Ok, Err}
use Rattle.std.proofs.lemmas.Result.{err_from_is_err_and}
use Rattle.session.specs.declared.bundles.Bundle.{Bundle}
use Rattle.cli.specs.Running.{BeginsNoScript, InTurn, IsBundleOf}
use Rattle.cli.proofs.RunLaws.{refused_script, script_is_answered, script_is_run}
use Rattle.cli.proofs.run.run_bundles.Goals as goal

pub returns-in_err-rooms : goal.returns-in_err-rooms
returns-in_err-rooms g c =
    let texts = map (λ t. t.items) c.args.texts.now in
    let told = err_from_is_err_and c.from_residual.result c.from_residual.ensures.1 in
    let begins : BeginsNoScript c.args.input.now c.args.input.now c.args.out.now c.args.out.now c.from_residual.result =
    record { unread = refl; unwritten = refl; told = told.1 ∙ ap Err told.2 } in record {
      runs = inr (inr begins);
      done = script_is_answered g.I.Source.left g.I.Source.failures g.O.Sink.held g.O.Sink.failures c.args.input.now c.args.input.now
          c.args.out.now c.args.out.now c.args.native texts c.from_residual.result (inr (inr begins));
      own = λ _. inr begins;
    }

pub returns-in-Ok : goal.returns-in-Ok
returns-in-Ok g c =
    let texts = map (λ t. t.items) c.args.texts.now in
    let each = c.in-Ok.ensures.ok in
    let runs = c.run_checked.ensures texts (subst (λ (l : List Bundle). InTurn (IsBundleOf c.args.native) 1 texts l)
    (sym c.deref.ensures.value) each) in record {
      runs = inl runs;
      done = script_is_answered g.I.Source.left g.I.Source.failures g.O.Sink.held g.O.Sink.failures c.args.input.now
          c.run_checked.new.input c.args.out.now c.run_checked.new.out c.args.native texts c.run_checked.result (inl runs);
      own = λ _. inl runs;
    }

pub returns : goal.returns
returns g c =
    let texts = map (λ t. t.items) c.args.texts.now in
    let runs = refused_script g.I.Source.left g.I.Source.failures g.O.Sink.held g.O.Sink.failures c.args.input.now c.args.out.now
    c.refuse.new.sink
    c.args.native texts c.in-Err.make_error (Ok c.in_ok-refuse-in-Err.field-0) (Ok c.in_ok-refuse-in-Err.field-0)
    c.in-Err.ensures.err c.in_ok-refuse-in-Err.ensures refl in record {
      runs = runs;
      done = script_is_answered g.I.Source.left g.I.Source.failures g.O.Sink.held g.O.Sink.failures c.args.input.now c.args.input.now
          c.args.out.now c.refuse.new.sink c.args.native texts (Ok c.in_ok-refuse-in-Err.field-0) runs;
      own = script_is_run g.I.Source.left g.I.Source.failures g.O.Sink.held g.O.Sink.failures c.args.input.now c.args.input.now
          c.args.out.now c.refuse.new.sink c.args.native texts (Ok c.in_ok-refuse-in-Err.field-0) runs;
    }

pub returns-in_err-refuse-in-Err : goal.returns-in_err-refuse-in-Err
returns-in_err-refuse-in-Err g c =
    let texts = map (λ t. t.items) c.args.texts.now in
    let told = err_from_is_err_and c.from_residual-in_err-refuse-in-Err.result c.from_residual-in_err-refuse-in-Err.ensures.1 in
    let runs = refused_script g.I.Source.left g.I.Source.failures g.O.Sink.held g.O.Sink.failures c.args.input.now c.args.out.now
    c.refuse.new.sink
    c.args.native texts c.in-Err.make_error (Err c.in_err-refuse-in-Err.field-0.0) c.from_residual-in_err-refuse-in-Err.result
    c.in-Err.ensures.err c.in_err-refuse-in-Err.ensures (told.1 ∙ ap Err told.2) in record {
      runs = runs;
      done = script_is_answered g.I.Source.left g.I.Source.failures g.O.Sink.held g.O.Sink.failures c.args.input.now c.args.input.now
          c.args.out.now c.refuse.new.sink c.args.native texts c.from_residual-in_err-refuse-in-Err.result runs;
      own = script_is_run g.I.Source.left g.I.Source.failures g.O.Sink.held g.O.Sink.failures c.args.input.now c.args.input.now
          c.args.out.now c.refuse.new.sink c.args.native texts c.from_residual-in_err-refuse-in-Err.result runs;
    }
