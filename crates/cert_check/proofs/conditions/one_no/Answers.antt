use Rattle.std.proofs.Common.{◌≡◌, true, false, refl, ap, ◌∙◌, sym, arith}
use Rattle.std.specs.Prelude.{Some}
use Rattle.std.proofs.lemmas.Option.{slice_get-get_or}
use Rattle.cert_check.specs.inner.Claimed.{mets_of}
use Rattle.cert_check.specs.inner.Judged.{IsNoNorMet}
use Rattle.cert_check.proofs.RulesLaws.{each_at}
use Rattle.cert_check.proofs.SoFar.{one_more_placed}
use Rattle.cert_check.proofs.conditions.one_no.Goals as goal

pub returns-then-is_no_nor_met : goal.returns-then-is_no_nor_met
returns-then-is_no_nor_met g c =
    let conds = c.args.conds.now in
    let n = c.loop-own.own in
    let cond = c.index-conds-own.result in
    let no = c.if-is_no_nor_met.ensures.0 refl in
    record {
      own = n;
      cond = cond;
      stands = slice_get-get_or conds n cond c.loop-own-test.true ∙ ap Some (sym c.index-conds-own.is);
      not_met = no.0;
      is_no = no.1;
    }

pub loop-own-preserved : goal.loop-own-preserved
loop-own-preserved g c =
    let known = g.K.Knowledge.known c.args.known.now in
    let met = mets_of c.args.mets.now.node in
    one_more_placed (λ k x. IsNoNorMet c.args.narrow met known c.args.place k x → ⊥) c.args.conds.now c.loop-own.own c.index-conds-own.result
    c.loop-own-test.true (sym c.index-conds-own.is) c.loop-own.invariant
    (λ no. let e : false ≡ true = c.if-is_no_nor_met.ensures.1 no in cc)

pub returns : goal.returns
returns g c =
    let known = g.K.Knowledge.known c.args.known.now in
    let met = mets_of c.args.mets.now.node in
    λ one. each_at (λ k x. IsNoNorMet c.args.narrow met known c.args.place k x → ⊥) c.args.conds.now c.loop-own.own one.own one.cond
    (omega (arith, c.loop-own-test.false)) one.stands c.loop-own.invariant (one.not_met, one.is_no)
