use Rattle.std.proofs.Common.{◌≡◌, ◌↔◌, ◌<◌, subst, inl, inr, arith, length}
use Rattle.std.specs.Prelude.{IsTrue, slice_index_or, slice_range}
use Rattle.std.proofs.lemmas.Bool.{or_cases, or_left, or_right}
use Rattle.std.proofs.lemmas.List.Elements.{All-contains}
use Rattle.cert_state.specs.declared.literal.Lit.TheVariants.{In}
use Rattle.cert_state.specs.Literals.{index_of}
use Rattle.cert_state.specs.Entailment.{IsExcluded}
use Rattle.cert_state.proofs.ColumnsLaws.{excluded_or_before, row_among}
use Rattle.cert_state.proofs.columns.Rows.some_excludes.Goals as goal

pub loop-row-preserved : goal.loop-row-preserved
loop-row-preserved c =
    let r = c.args.self.now in
    let so = c.loop-row.invariant in
    let lits = r.table.now.lits in
    let row = c.loop-row.row in
    let at = c.loop-row-test.true in
    let lt : row < length lits = omega (arith, at, r.within.1) in
    let none = In 0 0 0 in
    let last = slice_index_or lits row none in
    let own = All-contains (λ l. index_of l ≡ r.word) (slice_range lits r.from r.to) last r.own
    (row_among lits r.from r.to row none so.from (omega (arith, at)) r.within.1) in
    let more = excluded_or_before lits r.from row none so.from lt r.word c.args.mask c.args.datum own in
    let here = c.excludes_at-found.ensures none in
    record {
      from = omega (arith, so.from);
      to = omega (arith, at);
      found = (
        λ t. more.1 (elim (or_cases c.loop-row.found c.excludes_at-found.result t) [
          | inl before ↦ inl (so.found.0 before)
          | inr now ↦ inr (here.0 now)
        ]),
        λ h. elim (more.0 h) [
          | inl before ↦ or_left c.loop-row.found c.excludes_at-found.result (so.found.1 before)
          | inr now ↦ or_right c.loop-row.found c.excludes_at-found.result (here.1 now)
        ],
      );
    }

pub returns : goal.returns
returns c =
    let r = c.args.self.now in
    let so = c.loop-row.invariant in
    let at = c.loop-row-test.false in
    let end : c.loop-row.row ≡ r.to = omega (arith, at, so.to) in
    subst (λ n. IsTrue c.loop-row.found ↔ IsExcluded (slice_range r.table.now.lits r.from n) r.word c.args.mask c.args.datum) end so.found
