use Rattle.std.proofs.Common.{refl}
use Rattle.machines.specs.Arch.{native_called}
use Rattle.cli.proofs.parts.machines_are_called.Goals as goal

pub returns : goal.returns
unfolding native_called
returns c = (refl, (refl, (refl, (refl, (refl, (refl, (refl, (refl, tt))))))))
