use Rattle.std.proofs.Common.{◌≡◌, ℕ, List, ap, false, true, inl, inr, refl, subst, ⊎_elim}
use Rattle.command_line.specs.Lines.{Given, given, texts}
use Rattle.cli.specs.Dispatch.{AnswersObjects}
use Rattle.cli.specs.Parts.{Parts, part}
use Rattle.cli.proofs.ObjectLaws.{read_is}
use Rattle.cli.proofs.program.json.Goals as goal

pub returns-in-Ok-clause-does : goal.returns-in-Ok-clause-does
returns-in-Ok-clause-does g c = record {
  lying = c.args.arguments.now;
  same = refl;
  of_command = λ inner is. inr (
      subst (λ (k : Given). AnswersObjects g.I.Source.left g.I.Source.failures g.O.Sink.held g.O.Sink.failures (g.F.Files.folder c.args.files.now)
      c.args.input.now c.answer_in_objects.new.input c.args.out.now c.answer_in_objects.new.out k (part 0 (texts c.args.arguments.now))
      c.answer_in_objects.result) (c.in-Ok.ensures.command inner is)
      (subst (λ (name : List ℕ). AnswersObjects g.I.Source.left g.I.Source.failures g.O.Sink.held g.O.Sink.failures
      (g.F.Files.folder c.args.files.now) c.args.input.now c.answer_in_objects.new.input c.args.out.now c.answer_in_objects.new.out
      (given c.in-Ok.line) name c.answer_in_objects.result) (ap (λ (p : Parts). p.one) c.parts_of.ensures) c.answer_in_objects.ensures.answers));
  of_none = λ none. let no : false ≡ true = c.in-Ok.ensures.none none in absurd (cc);
}

pub returns-in-Ok-clause-quiet : goal.returns-in-Ok-clause-quiet
returns-in-Ok-clause-quiet g c done =
    let is = read_is c.args.arguments.now c.in-Ok.line (λ k i. c.in-Ok.ensures.command k i) c.in-Ok.ensures.none in
    ⊎_elim (λ changes. inl (given c.in-Ok.line, is.command, changes)) inr (c.answer_in_objects.ensures.quiet done)

pub returns-in-Ok-clause-no : goal.returns-in-Ok-clause-no
returns-in-Ok-clause-no g c done =
    let is = read_is c.args.arguments.now c.in-Ok.line (λ k i. c.in-Ok.ensures.command k i) c.in-Ok.ensures.none in
    ⊎_elim (λ changes. inl (given c.in-Ok.line, is.command, changes)) inr (c.answer_in_objects.ensures.no done)

pub returns-in-Ok-clause-refused : goal.returns-in-Ok-clause-refused
returns-in-Ok-clause-refused g c done =
    let is = read_is c.args.arguments.now c.in-Ok.line (λ k i. c.in-Ok.ensures.command k i) c.in-Ok.ensures.none in
    ⊎_elim (λ changes. inl (given c.in-Ok.line, is.command, changes)) inr (c.answer_in_objects.ensures.refused done)
