use Rattle.script.specs.Requests.{bytes_of}
use Rattle.script.proofs.PairLaws.{length-spelled}
use Rattle.script.proofs.digits.Hex.byte_count.Goals as goal

pub returns : goal.returns
unfolding bytes_of
returns c = length-spelled c.args.self.now.text.now
