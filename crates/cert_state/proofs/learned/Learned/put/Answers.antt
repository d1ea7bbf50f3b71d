use Rattle.std.proofs.Common.{sym, ◌∙◌, arith}
use Rattle.cert_state.specs.Learned.{own_of}
use Rattle.cert_state.proofs.LearnedLaws.{stays_at, written_at}
use Rattle.cert_state.proofs.learned.Learned.put.Goals as goal

pub returns-clause-own : goal.returns-clause-own
unfolding own_of
returns-clause-own c =
    let items = c.args.self.now.words.items in
    rw (sym c.word-word.ensures.is)
    (written_at items c.word-word.result c.args.own (omega (arith, c.args.self.now.sixteen, c.word-word.ensures.small)))

pub returns-clause-others : goal.returns-clause-others
unfolding own_of
returns-clause-others c = λ w ne.
    stays_at c.args.self.now.words.items c.word-word.result w c.args.own (λ e. ne (e ∙ c.word-word.ensures.is))
