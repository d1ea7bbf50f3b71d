use Rattle.std.proofs.Common.{◌≡◌, ◌↔◌, ◌<◌, sym, subst, inl, inr, arith, length}
use Rattle.std.specs.Prelude.{Contains, IsTrue, slice_index_or, slice_range}
use Rattle.std.proofs.lemmas.Bool.{or_cases, or_left, or_right}
use Rattle.cert_state.specs.inner.Columns.{HasNumbers}
use Rattle.cert_state.proofs.ColumnsLaws.{last_or_before, numbers_same, same_numbers}
use Rattle.cert_state.proofs.columns.RowsSearched.states.Goals as goal

pub loop-row-preserved : goal.loop-row-preserved
loop-row-preserved c =
    let r = c.args.self.now in
    let so = c.loop-row.invariant in
    let lits = r.table.now.lits in
    let wanted = c.args.literal.now in
    let row = c.loop-row.row in
    let at = c.loop-row-test.true in
    let lt : row < length lits = omega (arith, at, r.within.1) in
    let last = slice_index_or lits row wanted in
    let more = last_or_before lits r.from row wanted so.from lt wanted in
    let is = c.numbers_of-tag.ensures in
    let here = c.has_at-found.ensures wanted in
    record {
      from = omega (arith, so.from);
      to = omega (arith, at);
      found = (
        λ t. more.1 (elim (or_cases c.loop-row.found c.has_at-found.result t) [
          | inl before ↦ inl (so.found.0 before)
          | inr now ↦ inr (same_numbers last wanted (subst (λ n. HasNumbers last n.0 n.1 n.2) is (here.0 now)))
        ]),
        λ h. elim (more.0 h) [
          | inl before ↦ or_left c.loop-row.found c.has_at-found.result (so.found.1 before)
          | inr now ↦ or_right c.loop-row.found c.has_at-found.result
              (here.1 (subst (λ n. HasNumbers last n.0 n.1 n.2) (sym is) (numbers_same last wanted now)))
        ],
      );
    }

pub returns : goal.returns
returns c =
    let r = c.args.self.now in
    let so = c.loop-row.invariant in
    let at = c.loop-row-test.false in
    let end : c.loop-row.row ≡ r.to = omega (arith, at, so.to) in
    subst (λ n. IsTrue c.loop-row.found ↔ Contains (slice_range r.table.now.lits r.from n) c.args.literal.now) end so.found
