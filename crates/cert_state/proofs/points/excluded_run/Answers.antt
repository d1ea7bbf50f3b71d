use Rattle.std.proofs.Common.{◌<◌, ◌-◌, ◌^◌, subst, arith}
use Rattle.std.proofs.lemmas.Nat.{trailing_le}
use Rattle.cert_state.specs.inner.Window.{Excludes}
use Rattle.cert_state.proofs.WindowLaws.{low_ones, same_number}
use Rattle.cert_state.proofs.points.excluded_run.Goals as goal

pub returns-clause-all : goal.returns-clause-all
returns-clause-all g c = λ k d lt at.
    let small : k < 64 = let most = trailing_le 64 (2 ^ 64 - 1 - c.excluded_near.result) in omega (arith, c.trailing_ones.ensures, most) in
    let ones = low_ones c.excluded_near.result c.trailing_ones.result (omega arith) c.trailing_ones.ensures in
    let has = (c.excluded_near.ensures k small).0 (ones.0 k lt small) in
    subst (Excludes (g.S.State.known c.args.state.now) c.args.word) {x = has.0} (same_number c.args.up c.args.from k has.0 d has.1 at) has.2

pub returns-clause-next : goal.returns-clause-next
returns-clause-next g c = λ lt d at has.
    let set = (c.excluded_near.ensures c.trailing_ones.result lt).1 (d, at, has) in
    let unset = (low_ones c.excluded_near.result c.trailing_ones.result (omega arith) c.trailing_ones.ensures).1 lt in
    absurd (omega (arith, set, unset))
