use Rattle.explain.proofs.FieldLaws.{less_left, words_split}
use Rattle.explain.proofs.audited.fields.split_word.Goals as goal

pub returns-clause-words : goal.returns-clause-words
returns-clause-words c = words_split c.args.line.now c.split.result c.split.ensures

pub returns-clause-shorter : goal.returns-clause-shorter
returns-clause-shorter c = less_left c.args.line.now c.split.result c.split.ensures
