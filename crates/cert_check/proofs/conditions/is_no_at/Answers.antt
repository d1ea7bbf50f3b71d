use Rattle.std.proofs.Common.{ap, ◌∙◌, sym, arith}
use Rattle.std.specs.Prelude.{Some}
use Rattle.std.proofs.lemmas.Option.{slice_get-get_or}
use Rattle.cert_check.proofs.conditions.is_no_at.Goals as goal

pub returns : goal.returns
returns g c = λ t.
    let conds = c.args.conds.now in
    let n = c.args.own in
    let cond = c.index-conds-own.result in
    let no = c.is_no_nor_met.ensures.0 t in
    record {
      own = n;
      cond = cond;
      stands = slice_get-get_or conds n cond (omega (arith, c.if-own-conds.false)) ∙ ap Some (sym c.index-conds-own.is);
      not_met = no.0;
      is_no = no.1;
    }
