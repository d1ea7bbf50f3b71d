use Rattle.std.proofs.Common.{◌≡◌, ◌≤◌, sym, subst, ◌∙◌, arith, inl, inr, length}
use Rattle.std.specs.Prelude.{slice_index_or, slice_set}
use Rattle.std.proofs.lemmas.Bool.{cases_eq}
use Rattle.std.proofs.lemmas.List.{get_or-set_same, get_or-set_other, length-set}
use Rattle.cert_state.specs.inner.Sorted.{IsPartOf}
use Rattle.cert_state.proofs.SortedLaws.{part_stays}
use Rattle.cert_state.proofs.sorted.by_words.Goals as goal

pub loop-i-preserved : goal.loop-i-preserved
loop-i-preserved g c =
    let known = g.S.State.known c.args.state.now in
    let i = c.loop-i.i in
    let parts = c.loop-i.parts in
    let lits = c.put_word.new.table.lits in
    let so = c.loop-i.invariant in
    let size = so.sixteen in
    let one = c.part_of.result in
    let put = c.in-Some.ensures.put in
    let room : length lits ≡ length c.args.table.now.lits = c.put_word.ensures.size ∙ so.room in
    record {
      within = omega (arith, put.1, so.room);
      room = room;
      sixteen = length-set parts i one ∙ size;
      parts = λ w d lt.
          elim (cases_eq w i) [
            | inl same ↦
                subst (λ k. (IsPartOf known lits k (slice_index_or (slice_set parts i one) k d)) × ((slice_index_or (slice_set parts i one) k d).to ≤ c.in-Some.to)) (sym same)
                (rw (get_or-set_same parts i one d (omega (arith, size))) (c.part_of.ensures.part, omega (arith, c.part_of.ensures.end)))
            | inr other ↦
                rw (get_or-set_other parts i w one d other)
                (let old = so.parts w d (omega arith) in (
                  part_stays known c.loop-i.table.lits lits w c.loop-i.from (slice_index_or parts w d) old.1 (omega (arith, room, so.within)) c.in-Some.ensures.before old.0,
                  omega (arith, old.1, put.0),
                ))
          ];
    }
