use Rattle.std.proofs.lemmas.Bool.Decides.{same_from_decides}
use Rattle.machines.specs.Numbers.{has_call}
use Rattle.profile.proofs.SaidLaws.{Decides-has_call}
use Rattle.profile.proofs.machine_order.has_call.Goals as goal

pub returns : goal.returns
returns c =
    same_from_decides c.is_of.result (has_call c.args.token c.args.number c.args.arch) c.is_of.ensures
    (Decides-has_call c.args.token c.args.number c.args.arch)
