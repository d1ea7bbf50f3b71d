use Rattle.std.proofs.Common.{rules, subst, arith, inl, inr}
use Rattle.std.proofs.lemmas.Bool.{cases_eq, false≢true}
use Rattle.cert_state.specs.Entailment.{IsDeadAt}
use Rattle.cert_state.proofs.entailment.dead.Goals as goal

pub loop-word-preserved : goal.loop-word-preserved
loop-word-preserved g c = λ w lt h.
    let known = g.S.State.known c.args.state.now in
    let alive : IsDeadAt known c.loop-word.word → ⊥ = search rules in
    elim (cases_eq w c.loop-word.word) [
      | inl e ↦ alive (subst (IsDeadAt known) e h)
      | inr ne ↦ c.loop-word.invariant w (omega arith) h
    ]

pub returns : goal.returns
returns g c = (λ t. absurd (false≢true t), λ h. absurd (c.loop-word.invariant h.0 (omega (arith, h.1)) h.2))
