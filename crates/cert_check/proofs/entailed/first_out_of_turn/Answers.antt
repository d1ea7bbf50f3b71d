use Rattle.std.proofs.Common.{◌++◌, inl}
use Rattle.std.specs.Prelude.{option_to_list}
use Rattle.cert_state.specs.Entailment.{Entails}
use Rattle.cert_check.proofs.Elements.{all_but_first}
use Rattle.cert_check.proofs.entailed.first_out_of_turn.Goals as goal

pub loop-literal-preserved : goal.loop-literal-preserved
loop-literal-preserved g c =
    let P = Entails (g.S.State.known c.args.known.now.state.now ++ option_to_list c.args.known.now.more) in
    let so = c.loop-literal.invariant.0 in
    let one = all_but_first P c.in-Some.literal _ _ c.in-Some.ensures.more (inl c.in-Some-in_turn.ensures.0) in
    ((λ h. so.0 (one.1 h), λ h. one.0 (so.1 h)), c.in-Some-in_turn.ensures.1)
