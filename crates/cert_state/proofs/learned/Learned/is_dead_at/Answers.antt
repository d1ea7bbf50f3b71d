use Rattle.std.proofs.Common.{List, sym, subst}
use Rattle.cert_state.specs.declared.literal.Lit.{Lit}
use Rattle.cert_state.specs.Entailment.{IsDeadAt}
use Rattle.cert_state.specs.Learned.{lits_of}
use Rattle.cert_state.proofs.LearnedLaws.{dead_known, place_has, place_is}
use Rattle.cert_state.proofs.learned.Learned.is_dead_at.Goals as goal

pub returns : goal.returns
returns c =
    let learned = c.args.self.now in
    let w = c.args.word in
    let x = c.index.result.now in
    let at = dead_known learned w c.requires in
    let has = place_has learned w x c.requires c.index.ensures in
    let is = place_is learned w x c.requires c.index.ensures in (
      λ t. at.0 (subst (λ (ks : List Lit). IsDeadAt ks w) (sym has) (subst (IsDeadAt (lits_of x)) is (c.is_dead.ensures.0 t))),
      λ h. c.is_dead.ensures.1 (subst (IsDeadAt (lits_of x)) (sym is) (subst (λ (ks : List Lit). IsDeadAt ks w) has (at.1 h))),
    )
