use Rattle.recover.proofs.UnsayableLaws.{by_machine, by_pointer, by_upper}
use Rattle.recover.proofs.law.such_filters_are_no_bundles.Goals as goal

pub returns-clause-machine : goal.returns-clause-machine
returns-clause-machine c = λ native filter one is. by_machine native filter one is.0 is.1 is.2

pub returns-clause-pointer : goal.returns-clause-pointer
returns-clause-pointer c = λ native filter one other is. by_pointer native filter one other is.0 is.1

pub returns-clause-upper : goal.returns-clause-upper
returns-clause-upper c = λ native filter one other is. by_upper native filter one other is.0 is.1 is.2
