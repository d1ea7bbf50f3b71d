use Rattle.std.proofs.Common.{◌<◌, ap, sym, ◌∙◌, arith, length, take, ◌-◌}
use Rattle.cert_state.specs.Learned.{own_of}
use Rattle.cert_state.proofs.LearnedLaws.{read_at, stays_at, written_at}
use Rattle.cert_state.proofs.learned.Learned.pop.Goals as goal

pub returns-clause-own : goal.returns-clause-own
unfolding own_of
returns-clause-own c =
    let items = c.args.self.now.words.items in
    let w = c.args.word in
    let room : w < length items = omega (arith, c.requires, c.args.self.now.sixteen) in
    let old = read_at items w c.index_mut.result.now room c.index_mut.ensures.value in
    written_at items w c.pop.new.self room ∙ c.pop.ensures.lits ∙ ap (λ ls. take (length ls - 1) ls) (sym old)

pub returns-clause-others : goal.returns-clause-others
unfolding own_of
returns-clause-others c = λ w ne. stays_at c.args.self.now.words.items c.args.word w c.pop.new.self ne
