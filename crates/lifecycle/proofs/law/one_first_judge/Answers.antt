use Rattle.std.proofs.Common.{ap}
use Rattle.lifecycle.specs.Worlds.{First}
use Rattle.lifecycle.proofs.Headline.{same_first}
use Rattle.lifecycle.proofs.law.one_first_judge.Goals as goal

pub returns : goal.returns
returns c = λ given. ap (λ (F : First). F given) same_first
