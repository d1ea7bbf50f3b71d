use Rattle.std.proofs.Common.{◌≡◌, ◌++◌, true, false, subst}
use Rattle.std.specs.Prelude.{All, option_to_list}
use Rattle.std.proofs.lemmas.List.Elements.{All-head}
use Rattle.cert_state.specs.Entailment.{Entails}
use Rattle.cert_check.proofs.Elements.{all_but_first}
use Rattle.cert_check.proofs.entailed.follow_from.Goals as goal

pub look-requires : goal.look-requires
look-requires g c = rw c.of-facts.ensures c.loop-literal.invariant.1

pub returns-in_default-look : goal.returns-in_default-look
returns-in_default-look g c =
    let P = Entails (g.S.State.known c.args.known.now.state.now ++ option_to_list c.args.known.now.more) in (
      λ t. let e : false ≡ true = t in cc,
      λ all. absurd ((simp c.of-facts.ensures at c.in_default-look.ensures) (All-head P c.in-Some.literal _ (subst (All P) c.in-Some.ensures.more (c.loop-literal.invariant.0.1 all)))),
    )

pub loop-literal-preserved : goal.loop-literal-preserved
loop-literal-preserved g c =
    let P = Entails (g.S.State.known c.args.known.now.state.now ++ option_to_list c.args.known.now.more) in
    let so = c.loop-literal.invariant.0 in
    let found = simp c.of-facts.ensures at c.in-Some-look.ensures in
    let one = all_but_first P c.in-Some.literal _ _ c.in-Some.ensures.more found.0 in
    ((λ h. so.0 (one.1 h), λ h. one.0 (so.1 h)), found.1)
