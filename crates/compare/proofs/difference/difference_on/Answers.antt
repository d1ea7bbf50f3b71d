use Rattle.std.proofs.Common.{◌≡◌, subst, sym}
use Rattle.std.specs.Prelude.{IfSome, Option}
use Rattle.machines.specs.declared.arch.Arch.{Arch}
use Rattle.machines.specs.Arch.{token_of}
use Rattle.compare.proofs.MachineLaws.{with_token}
use Rattle.compare.proofs.difference.difference_on.Goals as goal

pub returns-clause-machine : goal.returns-clause-machine
returns-clause-machine c =
    let call = c.args.call.now in
    subst (λ (m : Option Arch). IfSome m (λ arch. token_of arch ≡ call.arch)) (sym c.machine_with.ensures) (with_token c.args.family call.arch call.nr)
