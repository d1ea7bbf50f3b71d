use Rattle.std.proofs.Common.{◌≡◌, ◌≢◌, ℕ, eqb, [], false, length, ap, sym, arith}
use Rattle.std.proofs.lemmas.Bool.Decides.{nat_tests}
use Rattle.profile_json.specs.inner.View.{entry_parts}
use Rattle.profile_json.proofs.Lists.{now_at, now_none}
use Rattle.profile_json.proofs.clashing.Clashing.{clash_under, passed_step}
use Rattle.profile_json.proofs.overlaps.clash_of.Goals as goal

-- that the verdicts are unlike
words : (a b : ℕ) → eqb a b ≡ false → a ≢ b
words a b h = grind (arith, nat_tests)

pub returns-then-overlap_by_name-clause-found : goal.returns-then-overlap_by_name-clause-found
returns-then-overlap_by_name-clause-found c =
    let p = c.overlap_by_name.ensures.0 c.if-overlap_by_name.true in
    let lt = c.loop-name-test.true in
    let size = ap length c.deref-name-items.ensures.value in
    clash_under c.args.machines.now (entry_parts c.args.first.now) (entry_parts c.args.second.now) _
    (words c.args.first.now.word c.args.second.now.word (sym c.if-eq.ensures)) p.0
    (now_at c.deref-name-items.result.now c.args.second.now.names.items c.loop-name.name-index (record { ref_ptr = (0, 0); now = [] })
    c.deref-name-items.ensures.value (omega (arith, lt, size))) p.1

pub loop-name-preserved : goal.loop-name-preserved
loop-name-preserved c = λ name in_x in_y any. passed_step c.args.machines.now (entry_parts c.args.first.now)
    (entry_parts c.args.second.now) c.deref-name-items.result.now c.args.second.now.names.items c.loop-name.name-index
    (record { ref_ptr = (0, 0); now = [] }) name c.overlap_by_name.result c.deref-name-items.ensures.value c.if-overlap_by_name.false
    c.overlap_by_name.ensures.1 in_x any (c.loop-name.invariant name in_x in_y any)

pub returns-clause-none : goal.returns-clause-none
returns-clause-none c = λ unlike name in_x in_y any.
    let all = c.loop-name-test.false in
    let size = ap length c.deref-name-items.ensures.value in
    now_none c.args.second.now.names.items c.loop-name.name-index name (omega (arith, all, size))
    (c.loop-name.invariant name in_x in_y any)
