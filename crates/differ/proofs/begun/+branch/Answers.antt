use Rattle.std.proofs.Common.{◌≡◌, ◌+◌, ◌-◌, ◌*◌, ◌^◌, ℕ, List, Err, rules, arith, sym, subst}
use Rattle.differ.specs.Cells.{IsMet}
use Rattle.differ.specs.inner.Branch.{AllBegin, AreBranch, IsFull}
use Rattle.differ.proofs.BitLaws.{bits_left}
use Rattle.differ.proofs.BranchLaws.{begin_up, branch_skipped, branch_joined, branch_narrowed, err_weaker, ok_weaker, full_up, full_narrowed}
use Rattle.differ.proofs.begun.+branch.Goals as goal

pub branch-alloc-requires : goal.branch-alloc-requires
branch-alloc-requires t c =
    let up : 2 ^ (64 - (c.args.rest - 1)) ≡ 2 * 2 ^ (64 - c.args.rest) = bits_left c.args.rest (omega arith) (omega arith) in
    (omega arith, (omega arith, omega arith))

pub branch-alloc-requires-2 : goal.branch-alloc-requires-2
branch-alloc-requires-2 t c =
    let up : 2 ^ (64 - (c.args.rest - 1)) ≡ 2 * 2 ^ (64 - c.args.rest) = bits_left c.args.rest (omega arith) (omega arith) in
    (omega arith, (omega arith, omega arith))

pub branch-alloc-requires-3 : goal.branch-alloc-requires-3
branch-alloc-requires-3 t c =
    let up : 2 ^ (64 - (c.args.rest - 1)) ≡ 2 * 2 ^ (64 - c.args.rest) = bits_left c.args.rest (omega arith) (omega arith) in
    (omega arith, (omega arith, omega arith))

pub returns-then-not-look_at-clause-ok : goal.returns-then-not-look_at-clause-ok
returns-then-not-look_at-clause-ok t c =
    ok_weaker c.branch-alloc.result _ _ (λ list b.
    branch_skipped c.args.conds.now c.args.high (c.args.rest - 1) c.args.rest list.items (omega arith)
    (c.look_at.ensures c.if-not-look_at.true) b) c.branch-alloc.ensures.ok

pub returns-then-not-look_at-clause-err : goal.returns-then-not-look_at-clause-err
returns-then-not-look_at-clause-err t c =
    err_weaker c.branch-alloc.result _ _ (λ e f.
    full_up c.args.conds.now c.args.high (2 * c.args.high) (c.args.rest - 1) c.args.rest e (omega arith) (omega arith) f) c.branch-alloc.ensures.err

pub returns-in_err-list-clause-err : goal.returns-in_err-list-clause-err
returns-in_err-list-clause-err t c =
    let is : c.from_residual-in_err-list.result ≡ Err c.in_err-list.field-0.0 = search rules in
    let conds = c.args.conds.now in
    let low = 2 * c.args.high in
    let place = c.args.rest - 1 in
    let r : c.args.rest ≡ place + 1 = omega arith in
    let e = c.in_err-list.field-0.0 in
    let full : IsFull c.in_ok-open.open.items low place e =
    subst (λ ks. IsFull ks low place e) c.deref.ensures.value c.in_err-list.ensures.err in
    rw is
    (full_up conds c.args.high low place c.args.rest e r (omega arith) (full_narrowed conds c.in_ok-open.open.items low place e c.in_ok-open.ensures full))

pub returns-in_err-upper-clause-err : goal.returns-in_err-upper-clause-err
returns-in_err-upper-clause-err t c =
    let is : c.from_residual-in_err-upper.result ≡ Err c.in_err-upper.field-0.0 = search rules in
    let conds = c.args.conds.now in
    let next = 2 * c.args.high + 1 in
    let place = c.args.rest - 1 in
    let r : c.args.rest ≡ place + 1 = omega arith in
    let e = c.in_err-upper.field-0.0 in
    let full : IsFull c.in_ok-open-2.open.items next place e =
    subst (λ ks. IsFull ks next place e) c.deref-2.ensures.value c.in_err-upper.ensures.err in
    rw is
    (full_up conds c.args.high next place c.args.rest e r (omega arith)
    (full_narrowed conds c.in_ok-open-2.open.items next place e c.in_ok-open-2.ensures full))

pub returns-in_err-add_apart-clause-err : goal.returns-in_err-add_apart-clause-err
returns-in_err-add_apart-clause-err t c =
    let is : c.from_residual-in_err-add_apart.result ≡ Err c.in_err-add_apart.field-0.0 = search rules in
    let conds = c.args.conds.now in
    let high = c.args.high in
    let place = c.args.rest - 1 in
    let r : c.args.rest ≡ place + 1 = omega arith in
    let list : List ℕ = c.in_ok-list.list.items in
    let upper : List ℕ = c.in_ok-upper.upper.items in
    let low_is : AreBranch conds (2 * high) place list =
    branch_narrowed (2 * high) place conds c.in_ok-open.open.items list c.in_ok-open.ensures
    (subst (λ ks. AreBranch ks (2 * high) place list) c.deref.ensures.value c.in_ok-list.ensures.ok) in
    let upper_is : AreBranch conds (2 * high + 1) place upper =
    branch_narrowed (2 * high + 1) place conds c.in_ok-open-2.open.items upper c.in_ok-open-2.ensures
    (subst (λ ks. AreBranch ks (2 * high + 1) place upper) c.deref-2.ensures.value c.in_ok-upper.ensures.ok) in
    let more : AllBegin high c.args.rest c.deref-3.result.now =
    subst (λ ys. AllBegin high c.args.rest ys) (sym c.deref-3.ensures.value)
    (begin_up high (2 * high + 1) place c.args.rest upper r (omega arith) upper_is.begin) in
    let begin : AllBegin high c.args.rest list = begin_up high (2 * high) place c.args.rest list r (omega arith) low_is.begin in
    rw is (c.in_err-add_apart.ensures.full high c.args.rest begin more low_is.apart)

pub returns-clause-ok : goal.returns-clause-ok
returns-clause-ok t c =
    let conds = c.args.conds.now in
    let high = c.args.high in
    let place = c.args.rest - 1 in
    let r : c.args.rest ≡ place + 1 = omega arith in
    let list : List ℕ = c.in_ok-list.list.items in
    let upper : List ℕ = c.in_ok-upper.upper.items in
    let new : List ℕ = c.add_apart.new.list.items in
    let low_is : AreBranch conds (2 * high) place list =
    branch_narrowed (2 * high) place conds c.in_ok-open.open.items list c.in_ok-open.ensures
    (subst (λ ks. AreBranch ks (2 * high) place list) c.deref.ensures.value c.in_ok-list.ensures.ok) in
    let upper_is : AreBranch conds (2 * high + 1) place upper =
    branch_narrowed (2 * high + 1) place conds c.in_ok-open-2.open.items upper c.in_ok-open-2.ensures
    (subst (λ ks. AreBranch ks (2 * high + 1) place upper) c.deref-2.ensures.value c.in_ok-upper.ensures.ok) in
    branch_joined conds high place c.args.rest list upper new r low_is upper_is
    (λ a b. c.in_ok-add_apart.ensures.begin high c.args.rest a (subst (λ ys. AllBegin high c.args.rest ys) (sym c.deref-3.ensures.value) b))
    (λ u m. c.in_ok-add_apart.ensures.stay u m)
    (λ u m. c.in_ok-add_apart.ensures.come u (subst (λ ys. IsMet conds ys u) (sym c.deref-3.ensures.value) m))
    c.in_ok-add_apart.ensures.apart
