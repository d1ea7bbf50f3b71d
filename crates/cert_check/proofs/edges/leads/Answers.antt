use Rattle.std.proofs.Common.{◌≡◌, ◌<◌, true, false, sym, ap, ◌∙◌, arith}
use Rattle.std.specs.Prelude.{slice_get, Some}
use Rattle.std.proofs.lemmas.Bool.{eqb-true, eq-eqb}
use Rattle.std.proofs.lemmas.Option.{same_Some, slice_get_within}
use Rattle.cert_form.specs.Views.{nodes_of, says}
use Rattle.cert_check.proofs.edges.leads.Goals as goal

pub returns : goal.returns
returns c =
    let ns = nodes_of c.args.view.now in
    let way = c.args.way.now in
    let n = says c.node.result in
    let greater : c.args.i < way.to = let past = c.if-to-i.false in omega (arith, past) in
    let at : slice_get ns way.to ≡ Some n = c.node.ensures.node in
    let its : c.from.result ≡ n.pc = c.from.ensures ∙ c.pc.ensures in (
      λ t. (greater, (n, at, sym its ∙ eqb-true c.from.result way.pc t)),
      λ l. eq-eqb c.from.result way.pc (its ∙ (ap (λ m. m.pc) (same_Some n l.1.0 (sym at ∙ l.1.1)) ∙ l.1.2)),
    )

pub node-requires : goal.node-requires
node-requires c =
    let size = c.len.ensures in
    let past = c.if-to-len.false in
    omega (arith, size, past)

pub returns-then-to-i : goal.returns-then-to-i
returns-then-to-i c = (λ t. let e : false ≡ true = t in cc, λ l. absurd (omega (arith, c.if-to-i.true, l.0)))

pub returns-then-to-len : goal.returns-then-to-len
returns-then-to-len c =
    let size = c.len.ensures in
    let past = c.if-to-len.true in (
      λ t. let e : false ≡ true = t in cc,
      λ l. absurd (omega (arith, size, past, slice_get_within (nodes_of c.args.view.now) c.args.way.now.to l.1.0 l.1.1)),
    )
