use Rattle.std.proofs.Common.{arith}
use Rattle.std.specs.Prelude.{◌↔◌, IsTrue}
use Rattle.machines.specs.Numbers.{HasCall, has_call}
use Rattle.widths.proofs.OwnerLaws.{Decides-has_call, same_answer}
use Rattle.widths.proofs.arguments.owner.has_call.Goals as goal

pub returns : goal.returns
returns c =
    let its : IsTrue c.has_number.result ↔ HasCall c.args.token c.args.nr c.args.arch =
    (λ h. (grind (arith, c.token.ensures, c.if-token.false), c.has_number.ensures.0 h), λ has. c.has_number.ensures.1 has.1) in
    same_answer c.has_number.result (has_call c.args.token c.args.nr c.args.arch) (HasCall c.args.token c.args.nr c.args.arch) its
    (Decides-has_call c.args.token c.args.nr c.args.arch)
