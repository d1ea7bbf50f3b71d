use Rattle.cert_state.proofs.WordLaws.{no_point_of_all, range_of_all}
use Rattle.cert_state.proofs.sorted.FactsKnowledge.range.Goals as goal

pub returns-then-facts : goal.returns-then-facts
returns-then-facts g c =
    no_point_of_all c.args.word (g.S.State.known c.args.self.now.state.now) (c.part.ensures.facts.none c.if-facts.true)

pub returns : goal.returns
returns g c =
    range_of_all c.args.word (g.S.State.known c.args.self.now.state.now) c.part.result.now.facts.low c.part.result.now.facts.high
    (c.part.ensures.facts.range c.if-facts.false)
