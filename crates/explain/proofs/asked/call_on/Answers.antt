use Rattle.std.proofs.Common.{ℕ, List, subst}
use Rattle.std.specs.Prelude.{Some, None}
use Rattle.script.specs.Grammar.{LineIs}
use Rattle.script.specs.Requests.{command_of}
use Rattle.explain.proofs.AskedLaws.{not_on_line, on_line}
use Rattle.explain.proofs.asked.call_on.Goals as goal

pub returns-in-Some-clause-found : goal.returns-in-Some-clause-found
returns-in-Some-clause-found c =
    let line = subst (λ (l : List ℕ). LineIs c.args.native l (Some (command_of c.in-Some.request))) c.as_bytes.ensures.value c.in-Some.ensures in
    on_line c.args.native c.args.line.now (command_of c.in-Some.request) c.record_in.result line c.record_in.ensures

pub returns-in-Some-clause-none : goal.returns-in-Some-clause-none
returns-in-Some-clause-none c =
    let line = subst (λ (l : List ℕ). LineIs c.args.native l (Some (command_of c.in-Some.request))) c.as_bytes.ensures.value c.in-Some.ensures in
    not_on_line c.args.native c.args.line.now c.one_command.ensures (command_of c.in-Some.request) c.record_in.result line c.record_in.ensures

pub returns-in-None-clause-none : goal.returns-in-None-clause-none
returns-in-None-clause-none c = λ none r on.
    let no_line = subst (λ (l : List ℕ). LineIs c.args.native l None) c.as_bytes.ensures.value c.in-None.ensures in
    no_line _ on.is_line
