use Rattle.std.proofs.Common.{ap, ◌∙◌, sym, arith}
use Rattle.std.specs.Prelude.{Some}
use Rattle.std.proofs.lemmas.Option.{slice_get-get_or}
use Rattle.cert_check.proofs.TestLaws.{not_so}
use Rattle.cert_check.proofs.conditions.is_open_at.Goals as goal

pub returns : goal.returns
returns g c = λ t all.
    let conds = c.args.conds.now in
    let n = c.args.own in
    let cond = c.index-conds-own.result in
    let stands = slice_get-get_or conds n cond (omega (arith, c.if-own-conds.false)) ∙ ap Some (sym c.index-conds-own.is) in
    not_so c.is_yes_or_met.result t (c.is_yes_or_met.ensures.1 (all n cond stands))
