use Rattle.std.proofs.Common.{[], ◌∷◌, ap, codes, false, refl, subst, true}
use Rattle.std.specs.Prelude.{Err, Ok}
use Rattle.command_line.specs.declared.prose.Command.TheVariants.{Certify, Check, Run}
use Rattle.command_line.specs.Lines.{texts}
use Rattle.cli.specs.Dispatch.{Does, ExplainsWhy}
use Rattle.cli.specs.Parts.{parts_of}
use Rattle.cli.proofs.StatusLaws.{all_behind_is_right, behind_is_right, but_is_right, certify_is_right, check_is_right, run_is_answered}
use Rattle.cli.proofs.UnbegunLaws.{ends_stop, tells_misuse}
use Rattle.cli.proofs.program.dispatch.Goals as goal

pub returns-in-Err-clause-misuse : goal.returns-in-Err-clause-misuse
returns-in-Err-clause-misuse g c none =
    tells_misuse g.E.Sink.held g.E.Sink.failures c.args.err.now c.carry_out.new.err c.status_on.new.err (texts c.args.arguments.now)
    c.in-Err.stop c.status_on.result (c.in-Err.ensures.misuse none) c.status_on.ensures.status c.in-Err.ensures.stopped
    c.status_on.ensures.lines

pub returns-in-Err-clause-answers : goal.returns-in-Err-clause-answers
returns-in-Err-clause-answers g c command is =
    let ends = ends_stop g.E.Sink.held g.E.Sink.failures c.args.err.now c.carry_out.new.err c.status_on.new.err (texts c.args.arguments.now) command
    c.in-Err.stop c.in-Err.ensures.stopped (c.in-Err.ensures.refused command is) (λ e. c.status_on.ensures.remarks e command is)
    c.status_on.ensures.quiet c.status_on.ensures.lines in
    record {
      outcome = Err c.in-Err.stop;
      does = c.in-Err.ensures.does command is;
      ends = c.status_on.ensures.status;
      between = ends.0;
      tells = ends.1;
      explained = tt;
      remarks = ends.2;
    }

pub returns-in-Ok-true-clause-answers : goal.returns-in-Ok-true-clause-answers
returns-in-Ok-true-clause-answers g c command is = record {
  outcome = Ok true;
  does =
      subst (λ b. Does g.I.Source.left g.I.Source.failures g.O.Sink.held g.O.Sink.failures (g.F.Files.folder c.args.files.now)
      c.args.input.now c.carry_out.new.input c.args.out.now c.carry_out.new.out command (Ok b)) c.in-Ok-true.field-0-test
      (c.in-Ok-true.ensures.does command is);
  ends = refl;
  between = c.carry_out.new.err;
  tells = c.in-Ok-true.ensures.quiet command is (ap Ok c.in-Ok-true.field-0-test);
  explained =
      subst (λ b. ExplainsWhy g.O.Sink.held g.O.Sink.failures g.E.Sink.held g.E.Sink.failures (g.F.Files.folder c.args.files.now)
      c.args.out.now c.carry_out.new.out c.args.err.now c.carry_out.new.err command.0 (parts_of command.1) (Ok b)) c.in-Ok-true.field-0-test
      (c.in-Ok-true.ensures.explained command is);
  remarks = refl;
}

pub returns-in-Ok-false-clause-answers : goal.returns-in-Ok-false-clause-answers
returns-in-Ok-false-clause-answers g c command is = record {
  outcome = Ok false;
  does =
      subst (λ b. Does g.I.Source.left g.I.Source.failures g.O.Sink.held g.O.Sink.failures (g.F.Files.folder c.args.files.now)
      c.args.input.now c.carry_out.new.input c.args.out.now c.carry_out.new.out command (Ok b)) c.in-Ok-false.field-0-test
      (c.in-Ok-false.ensures.does command is);
  ends = refl;
  between = c.carry_out.new.err;
  tells = c.in-Ok-false.ensures.no command is (ap Ok c.in-Ok-false.field-0-test);
  explained =
      subst (λ b. ExplainsWhy g.O.Sink.held g.O.Sink.failures g.E.Sink.held g.E.Sink.failures (g.F.Files.folder c.args.files.now)
      c.args.out.now c.carry_out.new.out c.args.err.now c.carry_out.new.err command.0 (parts_of command.1) (Ok b)) c.in-Ok-false.field-0-test
      (c.in-Ok-false.ensures.explained command is);
  remarks = c.remark_on.ensures command is;
}

pub returns-in-Ok-true-clause-check : goal.returns-in-Ok-true-clause-check
returns-in-Ok-true-clause-check g c machine bundle filter cert is e =
    check_is_right g.I.Source.left g.I.Source.failures g.O.Sink.held g.O.Sink.failures (g.F.Files.folder c.args.files.now) c.args.input.now
    c.carry_out.new.input c.args.out.now c.carry_out.new.out machine bundle filter cert
    (subst (λ b. Does g.I.Source.left g.I.Source.failures g.O.Sink.held g.O.Sink.failures (g.F.Files.folder c.args.files.now)
    c.args.input.now c.carry_out.new.input c.args.out.now c.carry_out.new.out (Check, machine ∷ bundle ∷ filter ∷ cert ∷ []) (Ok b))
    c.in-Ok-true.field-0-test (c.in-Ok-true.ensures.does (Check, machine ∷ bundle ∷ filter ∷ cert ∷ []) is))

pub returns-in-Ok-true-clause-certify : goal.returns-in-Ok-true-clause-certify
returns-in-Ok-true-clause-certify g c machine bundle filter is e =
    certify_is_right g.I.Source.left g.I.Source.failures g.O.Sink.held g.O.Sink.failures (g.F.Files.folder c.args.files.now) c.args.input.now
    c.carry_out.new.input c.args.out.now c.carry_out.new.out machine bundle filter
    (subst (λ b. Does g.I.Source.left g.I.Source.failures g.O.Sink.held g.O.Sink.failures (g.F.Files.folder c.args.files.now)
    c.args.input.now c.carry_out.new.input c.args.out.now c.carry_out.new.out (Certify, machine ∷ bundle ∷ filter ∷ []) (Ok b))
    c.in-Ok-true.field-0-test (c.in-Ok-true.ensures.does (Certify, machine ∷ bundle ∷ filter ∷ []) is))

pub returns-in-Ok-true-clause-certify_runc : goal.returns-in-Ok-true-clause-certify_runc
returns-in-Ok-true-clause-certify_runc g c machine bundle filter is e =
    behind_is_right g.I.Source.left g.I.Source.failures g.O.Sink.held g.O.Sink.failures (g.F.Files.folder c.args.files.now) c.args.input.now
    c.carry_out.new.input c.args.out.now c.carry_out.new.out machine bundle filter
    (subst (λ b. Does g.I.Source.left g.I.Source.failures g.O.Sink.held g.O.Sink.failures (g.F.Files.folder c.args.files.now)
    c.args.input.now c.carry_out.new.input c.args.out.now c.carry_out.new.out (Certify, machine ∷ bundle ∷ filter ∷ codes "runc" ∷ []) (Ok b))
    c.in-Ok-true.field-0-test (c.in-Ok-true.ensures.does (Certify, machine ∷ bundle ∷ filter ∷ codes "runc" ∷ []) is))

pub returns-in-Ok-true-clause-certify_runc_all : goal.returns-in-Ok-true-clause-certify_runc_all
returns-in-Ok-true-clause-certify_runc_all g c machine bundle filter is e =
    all_behind_is_right g.I.Source.left g.I.Source.failures g.O.Sink.held g.O.Sink.failures (g.F.Files.folder c.args.files.now) c.args.input.now
    c.carry_out.new.input c.args.out.now c.carry_out.new.out machine bundle filter
    (subst (λ b. Does g.I.Source.left g.I.Source.failures g.O.Sink.held g.O.Sink.failures (g.F.Files.folder c.args.files.now)
    c.args.input.now c.carry_out.new.input c.args.out.now c.carry_out.new.out (Certify, machine ∷ bundle ∷ filter ∷ codes "runc" ∷ codes "all" ∷ []) (Ok b))
    c.in-Ok-true.field-0-test (c.in-Ok-true.ensures.does (Certify, machine ∷ bundle ∷ filter ∷ codes "runc" ∷ codes "all" ∷ []) is))

pub returns-in-Ok-true-clause-certify_but : goal.returns-in-Ok-true-clause-certify_but
returns-in-Ok-true-clause-certify_but g c machine bundle filter words is asks e =
    but_is_right g.I.Source.left g.I.Source.failures g.O.Sink.held g.O.Sink.failures (g.F.Files.folder c.args.files.now) c.args.input.now
    c.carry_out.new.input c.args.out.now c.carry_out.new.out machine bundle filter words asks
    (subst (λ b. Does g.I.Source.left g.I.Source.failures g.O.Sink.held g.O.Sink.failures (g.F.Files.folder c.args.files.now)
    c.args.input.now c.carry_out.new.input c.args.out.now c.carry_out.new.out (Certify, machine ∷ bundle ∷ filter ∷ words) (Ok b))
    c.in-Ok-true.field-0-test (c.in-Ok-true.ensures.does (Certify, machine ∷ bundle ∷ filter ∷ words) is))

pub returns-in-Ok-true-clause-run : goal.returns-in-Ok-true-clause-run
returns-in-Ok-true-clause-run g c machine bundles is e =
    run_is_answered g.I.Source.left g.I.Source.failures g.O.Sink.held g.O.Sink.failures (g.F.Files.folder c.args.files.now) c.args.input.now
    c.carry_out.new.input c.args.out.now c.carry_out.new.out machine bundles
    (subst (λ b. Does g.I.Source.left g.I.Source.failures g.O.Sink.held g.O.Sink.failures (g.F.Files.folder c.args.files.now)
    c.args.input.now c.carry_out.new.input c.args.out.now c.carry_out.new.out (Run, machine ∷ bundles) (Ok b))
    c.in-Ok-true.field-0-test (c.in-Ok-true.ensures.does (Run, machine ∷ bundles) is))
