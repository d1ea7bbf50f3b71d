use Rattle.std.proofs.Common.{◌<◌, ap, ◌∙◌, arith, length}
use Rattle.cert_state.specs.Learned.{lits_of, own_of}
use Rattle.cert_state.proofs.LearnedLaws.{stays_at, written_at}
use Rattle.cert_state.proofs.learned.Learned.take.Goals as goal

pub returns-clause-own : goal.returns-clause-own
unfolding own_of
returns-clause-own c =
    let items = c.args.self.now.words.items in
    let w = c.args.word in
    let room : w < length items = omega (arith, c.requires, c.args.self.now.sixteen) in
    written_at items w c.replace.new.dest room ∙ ap lits_of c.replace.ensures.after ∙ c.none-none.ensures.none

pub returns-clause-others : goal.returns-clause-others
unfolding own_of
returns-clause-others c = λ w ne. stays_at c.args.self.now.words.items c.args.word w c.replace.new.dest ne
