use Rattle.std.proofs.Common.{List, sym, subst}
use Rattle.cert_state.specs.declared.literal.Lit.{Lit}
use Rattle.cert_state.specs.Entailment.{IsDeadAt}
use Rattle.cert_state.specs.Learned.{lits_of, word_of}
use Rattle.cert_state.proofs.one_word.LearnedWord.is_dead.Goals as goal

pub returns : goal.returns
unfolding lits_of word_of
returns c =
    let w = c.args.self.now.word in
    let same = c.deref.ensures.value in (
      λ t. subst (λ (ks : List Lit). IsDeadAt ks w) same (c.dies.ensures.0 t),
      λ h. c.dies.ensures.1 (subst (λ (ks : List Lit). IsDeadAt ks w) (sym same) h),
    )
