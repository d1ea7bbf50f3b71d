use Rattle.cli.proofs.HeadlineLaws.{headline}
use Rattle.cli.proofs.law.headline.Goals as goal

pub returns : goal.returns
returns c = headline
