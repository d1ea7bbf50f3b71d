use Rattle.call_words.proofs.SumLaws.{number_in_both}
use Rattle.call_words.specs.Constants.{constant_of}
use Rattle.call_words.proofs.sums.constant.Goals as goal

pub returns : goal.returns
unfolding constant_of
returns c = simp number_in_both (cc)
