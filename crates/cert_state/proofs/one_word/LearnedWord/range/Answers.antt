use Rattle.cert_state.specs.Learned.{lits_of, word_of}
use Rattle.cert_state.proofs.one_word.LearnedWord.range.Goals as goal

pub returns-then-self : goal.returns-then-self
unfolding lits_of word_of
returns-then-self c = c.args.self.now.told.none c.if-self.true
