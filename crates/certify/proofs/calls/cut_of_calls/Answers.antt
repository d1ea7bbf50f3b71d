use Rattle.std.proofs.Common.{rules, ◌≡◌, List, None, subst, arith, inl}
use Rattle.std.specs.Prelude.{MatchOption}
use Rattle.machines.specs.declared.arch.Arch.{Arch}
use Rattle.cert_state.specs.declared.literal.Lit.{Lit}
use Rattle.cert_state.specs.Points.{IsRange}
use Rattle.cert_form.specs.Nodes.{literals}
use Rattle.certify.specs.inner.Apart.{AreTold, IsFirstOpen}
use Rattle.certify.proofs.CallLaws.{halves_parted, not_left_whole, some_open, tokens_parted}
use Rattle.certify.proofs.OpenLaws.{match_option}
use Rattle.certify.proofs.calls.cut_of_calls.Goals as goal

pub returns-in_err-from : goal.returns-in_err-from
returns-in_err-from c = λ word nodes is.
    let none : c.from_residual.result ≡ None = search rules in
    rw none (is.alive (1, omega arith, inl c.in_err-from.ensures))

pub returns-then-from-to : goal.returns-then-from-to
returns-then-from-to c = λ word nodes is.
    let known : List Lit = literals c.args.facts.now.state.now.entries.now c.args.facts.now.state.now.number in
    let policy = c.args.profile.now in
    let from = c.in_ok-from.from in
    let to = c.in_ok-from.to in
    let low = c.in_ok-low.low in
    let high = c.in_ok-low.high in
    let tokens : IsRange known 1 from to = c.in_ok-from.ensures in
    let numbers : IsRange known 0 low high = c.in_ok-low.ensures in
    let several : from ≡ to → ⊥ = λ e. omega (arith, e, c.if-from-to.true) in
    match_option c.cut_of_tokens.result _ _ _ _
    (subst (λ (ms : List Arch). MatchOption c.cut_of_tokens.result (AreTold known ms) (λ cut. IsFirstOpen known ms cut.one cut.other))
    c.machines.ensures.machines c.cut_of_tokens.ensures)
    (some_open policy known word nodes is low high from to numbers tokens several)
    (λ cut first. tokens_parted policy known word nodes is low high from to numbers tokens several cut.one cut.other first)

pub cut_of_numbers-requires : goal.cut_of_numbers-requires
cut_of_numbers-requires c =
    let known : List Lit = literals c.args.facts.now.state.now.entries.now c.args.facts.now.state.now.number in
    let numbers : IsRange known 0 c.in_ok-low.low c.in_ok-low.high = c.in_ok-low.ensures in
    (numbers.between c.in_ok-low.low numbers.least).1

pub returns : goal.returns
returns c = λ word nodes is.
    let known : List Lit = literals c.args.facts.now.state.now.entries.now c.args.facts.now.state.now.number in
    let policy = c.args.profile.now in
    let from = c.in_ok-from.from in
    let to = c.in_ok-from.to in
    let low = c.in_ok-low.low in
    let high = c.in_ok-low.high in
    let tokens : IsRange known 1 from to = c.in_ok-from.ensures in
    let numbers : IsRange known 0 low high = c.in_ok-low.ensures in
    let alone : from ≡ to = omega (arith, c.if-from-to.false) in
    match_option c.cut_of_numbers.result _ _ _ _ c.cut_of_numbers.ensures
    (not_left_whole policy known word nodes is low high from to numbers tokens alone)
    (λ cut halved. halves_parted policy known word nodes is low high from to numbers tokens alone cut.one cut.other halved)
