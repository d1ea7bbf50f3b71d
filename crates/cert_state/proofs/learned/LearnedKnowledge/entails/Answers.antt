use Rattle.std.proofs.Common.{List, ◌<◌, sym, subst, arith}
use Rattle.cert_state.specs.declared.literal.Lit.{Lit}
use Rattle.cert_state.specs.Entailment.{Entails}
use Rattle.cert_state.proofs.LearnedLaws.{entails_known, place_has, sure_known}
use Rattle.cert_state.proofs.learned.LearnedKnowledge.entails.Goals as goal

pub returns-then-word-gt15 : goal.returns-then-word-gt15
returns-then-word-gt15 c =
    let at = sure_known c.args.self.now c.args.literal.now c.word-word.result (sym c.word-word.ensures)
    (omega (arith, c.if-word-gt15.true)) in
    (λ t. at.0 (c.is_sure.ensures.0 t), λ h. c.is_sure.ensures.1 (at.1 h))

pub returns : goal.returns
returns c =
    let learned = c.args.self.now in
    let l = c.args.literal.now in
    let w = c.word-word.result in
    let small : w < 16 = omega (arith, c.if-word-gt15.false) in
    let at = entails_known learned l w (sym c.word-word.ensures) small in
    let has = place_has learned w c.index.result.now small c.index.ensures in (
      λ t. at.0 (subst (λ (ks : List Lit). Entails ks l) (sym has) (c.entails.ensures.0 t)),
      λ h. c.entails.ensures.1 (subst (λ (ks : List Lit). Entails ks l) has (at.1 h)),
    )
