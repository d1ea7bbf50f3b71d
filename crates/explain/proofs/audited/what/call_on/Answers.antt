use Rattle.std.proofs.Common.{◌≡◌, ℕ, List, refl, subst, sym, ◌∙◌}
use Rattle.std.specs.Prelude.{Option, Some, None, IfSome}
use Rattle.machines.specs.declared.arch.Arch.{Arch}
use Rattle.explain.specs.Any.{IsWhat}
use Rattle.explain.specs.inner.Found.{call_of}
use Rattle.script.specs.Grammar.{LineIs}
use Rattle.script.specs.Requests.{command_of}
use Rattle.explain.proofs.WhatLaws.{what_found, what_none}
use Rattle.explain.proofs.audited.what.call_on.Goals as goal

pub returns-in-Some-clause-found : goal.returns-in-Some-clause-found
returns-in-Some-clause-found c = λ word same.
    let command = command_of c.in-Some.request in
    let line = subst (λ (l : List ℕ). LineIs c.args.native l (Some command)) c.as_bytes.ensures.value c.in-Some.ensures in
    subst (λ (o : Option (Arch × ℕ)). IfSome o (λ (call : Arch × ℕ). IsWhat c.args.native word call.0 call.1)) (sym c.call_of.ensures)
    (what_found c.args.native c.args.line.now word same command line)

pub returns-in-Some-clause-none : goal.returns-in-Some-clause-none
returns-in-Some-clause-none c = λ word same none.
    let command = command_of c.in-Some.request in
    let line = subst (λ (l : List ℕ). LineIs c.args.native l (Some command)) c.as_bytes.ensures.value c.in-Some.ensures in
    let nothing : call_of command ≡ None = sym c.call_of.ensures ∙ none in
    what_none c.args.native c.args.line.now word same c.one_command.ensures (Some command) line nothing

pub returns-in-None-clause-none : goal.returns-in-None-clause-none
returns-in-None-clause-none c = λ word same none.
    let no_line = subst (λ (l : List ℕ). LineIs c.args.native l None) c.as_bytes.ensures.value c.in-None.ensures in
    what_none c.args.native c.args.line.now word same c.one_command.ensures None no_line refl
