use Rattle.std.proofs.Common.{[]}
use Rattle.explain.specs.Audit.{last_behind, words_on}
use Rattle.explain.proofs.FieldLaws.{last_more}
use Rattle.explain.proofs.audited.fields.last_behind.Goals as goal

pub word-preserved : goal.word-preserved
word-preserved c =
    let key = c.args.key.now in
    last_more key c.in-Some.word.now (words_on c.word.rest.now) (words_on c.in-Some.more.now) c.rest_behind.result c.word.found
    c.or-found.result (last_behind key (words_on c.args.line.now)) c.in-Some.ensures.words c.rest_behind.ensures c.or-found.ensures
    c.word.invariant

pub returns : goal.returns
returns c =
    let key = c.args.key.now in
    last_more key c.word.rest.now (words_on c.word.rest.now) [] c.rest_behind-2.result c.word.found c.or.result
    (last_behind key (words_on c.args.line.now)) c.in_default.ensures.words c.rest_behind-2.ensures c.or.ensures c.word.invariant
