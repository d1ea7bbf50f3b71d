use Rattle.std.proofs.Common.{◌∙◌, ap}
use Rattle.processes.specs.inner.Numbers.{call_at}
use Rattle.processes.proofs.NumberLaws.{call_numbered}
use Rattle.processes.proofs.calls.Call.numbered.Goals as goal

pub returns : goal.returns
returns c = λ name is.
    c.find_call.ensures ∙ (ap (λ numbers. call_at numbers c.args.number) c.numbers_of.ensures
    ∙ call_numbered c.args.native name c.args.number is)
