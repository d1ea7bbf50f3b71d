use Rattle.std.proofs.Common.{◌≡◌, ◌∙◌, ◌≤◌, ap, arith, length, rules, subst, sym, true≢false}
use Rattle.std.specs.Prelude.{Any, Err}
use Rattle.clap.specs.Lexer.{usize_max}
use Rattle.clap.specs.Words.{app_of}
use Rattle.command_line.specs.Lines.{IsDashed, Reads}
use Rattle.command_line.specs.inner.Grammar.{grammar_of}
use Rattle.command_line.specs.inner.Misused.{misuse_by}
use Rattle.command_line.proofs.Readings.{grammar, none_is, read_is, read_is_one, refused}
use Rattle.command_line.proofs.reading.read_arguments.Goals as goal

pub returns-in-Some-clause-command : goal.returns-in-Some-clause-command
returns-in-Some-clause-command c = read_is c.args.arguments.now c.in-Some.line c.in-Some.ensures

pub returns-in-Some-clause-none : goal.returns-in-Some-clause-none
returns-in-Some-clause-none c none =
    let plain = λ (any : Any (λ w. IsDashed w.now) c.args.arguments.now). true≢false (sym (c.if-has_dashed.ensures.1 any)) in
    absurd (read_is_one c.args.arguments.now c.in-Some.line plain c.in-Some.ensures none)

pub returns-in-Ok-try_get_matches_from-clause-command : goal.returns-in-Ok-try_get_matches_from-clause-command
returns-in-Ok-try_get_matches_from-clause-command c = none_is c.args.arguments.now c.in-None.ensures

pub returns-clause-command : goal.returns-clause-command
returns-clause-command c g line =
    let words = c.args.arguments.now in
    let few : length words ≤ usize_max = first_of (omega (arith, c.well_formed), omega arith, search rules) in
    let is : app_of c.in-Ok.grammar ≡ grammar = c.in-Ok.ensures.0 ∙ ap grammar_of c.commands.ensures in
    let memory = refused words g line few (app_of c.in-Ok.grammar) is c.in-Err.error c.in-Err.ensures.kinds in
    subst (λ m. Reads g (Err m)) (sym (c.misuse_of.ensures ∙ ap misuse_by (c.kind.ensures ∙ memory))) tt
