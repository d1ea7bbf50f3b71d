use Rattle.call_words.proofs.SumLaws.{numbers_stay}
use Rattle.call_words.proofs.law.numbers_stay.Goals as goal

pub returns : goal.returns
returns c = numbers_stay
