use Rattle.maker.proofs.EvidenceLaws.{evidence_refuting}
use Rattle.maker.proofs.certifying.write_evidence.Goals as goal

pub returns-in-Refuting-clause-found : goal.returns-in-Refuting-clause-found
returns-in-Refuting-clause-found g c = λ native bundle filter is.
    evidence_refuting g.S.Sink.held g.S.Sink.failures c.args.sink.now c.tell.new.sink native bundle filter c.args.evidence.now
    c.in-Refuting.found c.tell.result c.in-Refuting.is is c.words_are_a_record.ensures c.tell.ensures
