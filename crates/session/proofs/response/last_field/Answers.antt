use Rattle.session.proofs.SplitLaws.{split_is}
use Rattle.session.proofs.response.last_field.Goals as goal

pub returns : goal.returns
returns c = split_is c.args.text.now c.rsplit_once.result c.rsplit_once.ensures.cases
