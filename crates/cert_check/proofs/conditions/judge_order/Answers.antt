use Rattle.std.proofs.Common.{true, false, inl, inr}
use Rattle.cert_check.proofs.JudgedLaws.{both_ends, not_both_ends, no_ends}
use Rattle.cert_check.proofs.conditions.judge_order.Goals as goal

pub returns-in_default : goal.returns-in_default
returns-in_default g c =
    let known = g.K.Knowledge.known c.args.known.now in
    let cond = c.args.cond.now in (
      no_ends c.args.narrow known cond.index cond.op cond.value true c.in_default.ensures,
      λ h. no_ends c.args.narrow known cond.index cond.op cond.value false c.in_default.ensures h.0,
    )

pub returns-else-holds-2 : goal.returns-else-holds-2
returns-else-holds-2 g c =
    let known = g.K.Knowledge.known c.args.known.now in
    let cond = c.args.cond.now in
    let low = c.in-Some.low in
    let high = c.in-Some.high in (
      not_both_ends c.args.narrow known cond.index cond.op cond.value cond.datum low high false true c.requires c.in-Some.ensures (inr c.if-holds-2.ensures) (λ q. cc),
      λ h. not_both_ends c.args.narrow known cond.index cond.op cond.value cond.datum low high true false c.requires c.in-Some.ensures (inl c.if-holds.ensures) (λ q. cc) h.0,
    )

pub returns-then-holds-3 : goal.returns-then-holds-3
returns-then-holds-3 g c =
    let known = g.K.Knowledge.known c.args.known.now in
    let cond = c.args.cond.now in
    let low = c.in-Some.low in
    let high = c.in-Some.high in (
      not_both_ends c.args.narrow known cond.index cond.op cond.value cond.datum low high false true c.requires c.in-Some.ensures (inl c.if-holds.ensures) (λ q. cc),
      λ h. not_both_ends c.args.narrow known cond.index cond.op cond.value cond.datum low high true false c.requires c.in-Some.ensures (inr c.if-holds-3.ensures) (λ q. cc) h.0,
    )

pub returns-else-holds-3 : goal.returns-else-holds-3
returns-else-holds-3 g c =
    let known = g.K.Knowledge.known c.args.known.now in
    let cond = c.args.cond.now in
    let low = c.in-Some.low in
    let high = c.in-Some.high in (
      both_ends c.args.narrow known cond.index cond.op cond.value cond.datum low high false c.requires c.in-Some.ensures c.if-holds.ensures c.if-holds-3.ensures,
      not_both_ends c.args.narrow known cond.index cond.op cond.value cond.datum low high false true c.requires c.in-Some.ensures (inl c.if-holds.ensures) (λ q. cc),
    )
