use Rattle.std.proofs.Common.{sym}
use Rattle.call_words.proofs.nearest.with_name.Goals as goal

pub returns : goal.returns
returns c = λ at places there is. c.lesser.ensures at places c.args.word.now c.args.name.now there (sym c.in_ok-edits.ensures) is
