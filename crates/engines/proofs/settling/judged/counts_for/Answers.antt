use Rattle.std.proofs.Common.{inr}
use Rattle.std.proofs.lemmas.Option.{slice_get-get_or}
use Rattle.engines.proofs.settling.judged.counts_for.Goals as goal
use Rattle.std.proofs.Common.{◌∙◌, sym, ap, Some}

pub returns : goal.returns
returns c = λ t.
    let at = slice_get-get_or c.args.rules.now c.args.j c.index-rules-j.result c.if-j-rules.false ∙ ap Some (sym c.index-rules-j.is) in
    inr (
      c.args.j,
      c.index-rules-j.result,
      at,
      c.is_among.ensures c.if-not-is_among.false,
      c.covers.ensures c.if-not-covers.false,
      c.precedes.ensures t,
    )
