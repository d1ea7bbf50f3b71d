use Rattle.std.proofs.Common.{◌≡◌, List, ◌∙◌, sym, subst}
use Rattle.std.specs.Prelude.{All}
use Rattle.cert_state.specs.declared.literal.Lit.{Lit}
use Rattle.cert_state.specs.Literals.{index_of}
use Rattle.cert_state.specs.Entailment.{Entails}
use Rattle.cert_state.proofs.WordLaws.{all_own, entails_of_all, entails_of_own}
use Rattle.cert_state.proofs.sorted.FactsKnowledge.entails.Goals as goal

pub rows-own-requires-clause-own : goal.rows-own-requires-clause-own
rows-own-requires-clause-own g c =
    let known = g.S.State.known c.args.self.now.state.now in
    subst (All (λ (l : Lit). index_of l ≡ c.word-word.result)) (sym c.part-part.ensures.literals) (all_own c.word-word.result known)

pub returns : goal.returns
returns g c =
    let known = g.S.State.known c.args.self.now.state.now in
    let l = c.args.literal.now in
    let same = c.rows-own.ensures ∙ c.part-part.ensures.literals in
    let at = sym c.word-word.ensures in (
      λ t. entails_of_all c.word-word.result known l at (subst (λ (ks : List Lit). Entails ks l) same (c.gives.ensures.0 t)),
      λ h. c.gives.ensures.1 (subst (λ (ks : List Lit). Entails ks l) (sym same) (entails_of_own c.word-word.result known l at h)),
    )
