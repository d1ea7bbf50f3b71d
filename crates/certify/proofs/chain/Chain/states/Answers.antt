use Rattle.std.proofs.Common.{rules, ◌≡◌, inl, inr}
use Rattle.std.specs.Prelude.{Contains}
use Rattle.cert_form.specs.Nodes.{literals}
use Rattle.cert_state.proofs.ListLaws.{contains_split, contains_later}
use Rattle.certify.proofs.chain.Chain.states.Goals as goal

pub loop-literal-preserved : goal.loop-literal-preserved
loop-literal-preserved c =
    let differ : c.in-Some.literal ≡ c.args.wanted → ⊥ = search rules in (
      λ h. elim (contains_split c.in-Some.literal _ _ c.in-Some.ensures.more c.args.wanted (c.loop-literal.invariant.0 h)) [
        | inl is ↦ absurd {A = Contains (literals c.args.self.now.entries.now c.in-Some.next) c.args.wanted} (differ is)
        | inr later ↦ later
      ],
      λ h. c.loop-literal.invariant.1 (contains_later c.in-Some.literal _ _ c.in-Some.ensures.more c.args.wanted h),
    )
