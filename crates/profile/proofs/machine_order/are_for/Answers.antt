use Rattle.std.proofs.Common.{sym, ◌∙◌}
use Rattle.machines.specs.Numbers.{HasCall, has_call}
use Rattle.profile.proofs.MachineLaws.{Decides-any}
use Rattle.profile.proofs.SaidLaws.{Decides-has_call}
use Rattle.profile.proofs.machine_order.are_for.Goals as goal

pub returns : goal.returns
returns c =
    let token = c.args.token in
    let nr = c.args.number in
    let decides = Decides-any (has_call token nr) (HasCall token nr) (Decides-has_call token nr) c.args.machines.now in
    (λ h. decides.0 (sym c.is_in.ensures ∙ h), λ some. c.is_in.ensures ∙ decides.1 some)
