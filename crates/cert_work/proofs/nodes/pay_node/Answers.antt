use Rattle.std.proofs.Common.{◌≡◌, ℕ, ◌+◌, length, sym, subst, arith}
use Rattle.std.specs.Prelude.{Option}
use Rattle.cert_form.specs.Views.{nodes_of, says}
use Rattle.cert_work.specs.Work.{IsWorkAt, PaysOne, stated_next}
use Rattle.cert_work.proofs.WorkLaws.{pays_rest, work_at}
use Rattle.cert_work.proofs.nodes.pay_node.Goals as goal

pub returns-in_err-rest : goal.returns-in_err-rest
returns-in_err-rest c =
    let rules = c.args.rules.now in
    let ns = nodes_of c.args.view.now in
    let n = says c.args.node.now in
    let kind = c.kind-kind.result in
    let short = c.in_err-rest.ensures in
    subst (λ (r : Option ℕ). PaysOne c.args.budget (IsWorkAt rules ns n) r) (sym c.from_residual.ensures) (
      short.0 + length n.known + stated_next rules ns kind,
      work_at rules ns n kind short.0 c.kind-kind.ensures short.1,
      omega (arith, short.2),
    )

pub returns-in_err-left : goal.returns-in_err-left
returns-in_err-left c =
    let rules = c.args.rules.now in
    let ns = nodes_of c.args.view.now in
    let n = says c.args.node.now in
    let kind = c.kind-kind.result in
    let paid = c.in_ok-rest.ensures in
    subst (λ (r : Option ℕ). PaysOne c.args.budget (IsWorkAt rules ns n) r) (sym c.from_residual-in_err-left.ensures) (
      paid.0 + length n.known + stated_next rules ns kind,
      work_at rules ns n kind paid.0 c.kind-kind.ensures paid.1,
      omega (arith, paid.2, c.in_err-left.ensures),
    )

pub returns : goal.returns
returns c =
    let rules = c.args.rules.now in
    let ns = nodes_of c.args.view.now in
    let n = says c.args.node.now in
    let kind = c.kind-kind.result in
    let paid = c.in_ok-rest.ensures in
    let before : c.in_ok-left.left + (paid.0 + length n.known) ≡ c.args.budget = omega (arith, paid.2, c.in_ok-left.ensures) in
    pays_rest (IsWorkAt rules ns n) c.args.budget c.in_ok-left.left (paid.0 + length n.known) (stated_next rules ns kind) c.pay_next.result
    before (work_at rules ns n kind paid.0 c.kind-kind.ensures paid.1) c.pay_next.ensures
