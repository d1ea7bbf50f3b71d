use Rattle.call_words.proofs.SumLaws.{less_left, names_split}
use Rattle.call_words.proofs.sums.split_name.Goals as goal

pub returns-clause-names : goal.returns-clause-names
returns-clause-names c = names_split c.args.word.now c.split.result c.split.ensures

pub returns-clause-shorter : goal.returns-clause-shorter
returns-clause-shorter c = less_left c.args.word.now c.split.result c.split.ensures
