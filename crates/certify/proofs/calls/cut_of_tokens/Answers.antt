use Rattle.std.proofs.Common.{rules, ◌≡◌, ◌<◌, ◌^◌, List, true, false, subst, refl, arith, ⊎_elim}
use Rattle.std.proofs.lemmas.Option.{get_or_from_slice_get, slice_get_within}
use Rattle.machines.specs.declared.arch.Arch.{Arch}
use Rattle.machines.specs.Arch.{token_of}
use Rattle.cert_state.specs.declared.literal.Lit.{Lit}
use Rattle.cert_state.proofs.BitLaws.{and_all}
use Rattle.cert_form.specs.Nodes.{literals}
use Rattle.cert_check.proofs.SoFar.{one_more_at}
use Rattle.certify.specs.inner.Apart.{IsTold}
use Rattle.certify.proofs.OpenLaws.{first_open, match_some}
use Rattle.certify.proofs.calls.cut_of_tokens.Goals as goal

pub returns-then-not-is_told : goal.returns-then-not-is_told
returns-then-not-is_told c =
    let known : List Lit = literals c.args.facts.now.state.now.entries.now c.args.facts.now.state.now.number in
    let token = c.token-token.result in
    let small : token < 2 ^ 32 = search rules in
    match_some c.bits.result _ _ _
    (λ e. ⊎_elim (λ past. omega (arith, past)) (λ other. other (and_all token small)) (c.bits.ensures.none e))
    c.bits.ensures.cut
    (λ cut is. first_open known c.args.machines.now c.loop-machine.machine-index _ token c.loop-machine-test.true c.token-token.ensures
    c.loop-machine.invariant (λ told. let e : false ≡ true = c.if-not-is_told.ensures.1 told in cc) cut.one cut.other is.0 is.1)

pub loop-machine-preserved : goal.loop-machine-preserved
loop-machine-preserved c =
    let known : List Lit = literals c.args.facts.now.state.now.entries.now c.args.facts.now.state.now.number in
    one_more_at (λ (arch : Arch). IsTold known (token_of arch)) c.args.machines.now c.loop-machine.machine-index _
    c.loop-machine-test.true c.loop-machine.invariant
    (subst (IsTold known) c.token-token.ensures (c.if-not-is_told.ensures.0 refl))

pub returns : goal.returns
returns c = λ k arch there.
    let known : List Lit = literals c.args.facts.now.state.now.entries.now c.args.facts.now.state.now.number in
    let low = slice_get_within c.args.machines.now k arch there in
    subst (λ a. IsTold known (token_of a)) (get_or_from_slice_get c.args.machines.now k arch arch there)
    (c.loop-machine.invariant k arch (omega (arith, low, c.loop-machine-test.false)))
