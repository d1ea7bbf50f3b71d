use Rattle.std.proofs.Common.{refl}
use Rattle.std.specs.Prelude.{◌≡◌}
use Rattle.std.specs.Option.{option_map}
use Rattle.script.specs.Requests.{bytes_of}
use Rattle.session.proofs.carry.command_of.Goals as goal

pub returns-in-Call : goal.returns-in-Call
returns-in-Call c =
    let same : option_map (λ a. a.now) c.args.program ≡ option_map bytes_of c.in-Call.program = rw c.in-Call.is at c.requires in
    rw (c.in-Call.is, same) (c.record_of.result, c.record_of.ensures, refl)
