use Rattle.std.proofs.Common.{rules, ◌≡◌, inl, inr, refl}
use Rattle.std.specs.Prelude.{Contains}
use Rattle.cert_state.proofs.ListLaws.{contains_here, contains_split, contains_later}
use Rattle.cert_state.proofs.entailment.is_stated.Goals as goal

pub loop-literal-preserved : goal.loop-literal-preserved
loop-literal-preserved g c =
    let differ : c.in-Some.literal ≡ c.args.wanted.now → ⊥ = search rules in (
      λ h. elim (contains_split c.in-Some.literal _ _ c.in-Some.ensures.more c.args.wanted.now (c.loop-literal.invariant.0 h)) [
        | inl is ↦ absurd {A = Contains (g.S.State.rest c.args.state.now c.in-Some.next) c.args.wanted.now} (differ is)
        | inr later ↦ later
      ],
      λ h. c.loop-literal.invariant.1 (contains_later c.in-Some.literal _ _ c.in-Some.ensures.more c.args.wanted.now h),
    )

pub loop-literal-init : goal.loop-literal-init
loop-literal-init g c = rw c.start-at.ensures.all (λ h. h, λ h. h)

pub returns-then-eq : goal.returns-then-eq
returns-then-eq g c =
    let is : c.in-Some.literal ≡ c.args.wanted.now = search rules in
    (λ _. c.loop-literal.invariant.1 (contains_here c.in-Some.literal _ _ c.in-Some.ensures.more c.args.wanted.now is), λ _. refl)
