use Rattle.std.proofs.Common.{◌≡◌, ◌+◌, ◌<◌, ◌≤◌, ℕ, List, ap, subst, ◌∙◌, inl, inr, arith}
use Rattle.std.specs.Prelude.{◌⊎◌}
use Rattle.std.proofs.lemmas.Bool.{cases_lt}
use Rattle.std.proofs.lemmas.Result.{err_from_is_err_and}
use Rattle.cert_form.specs.Reading.{place_of, offset_at, node_end}
use Rattle.cert_form.specs.inner.Standing.{IsChainedThere, AreChainedThere}
use Rattle.cert_form.proofs.PlaceLaws.{next_place, first_chained, is_faulty}
use Rattle.cert_form.proofs.chained.judge_nodes.Goals as goal

pub loop-i-init : goal.loop-i-init
loop-i-init c = record {
  sound = record { nodes = λ i less. absurd (omega (arith, less)); table = λ i less. absurd (omega (arith, less)) };
  place = omega (arith, first_chained c.args.bytes.now c.requires.form, c.read_long.ensures, c.read_long-count.ensures);
  room = omega (arith, c.requires.table, c.read_long.ensures, c.read_long-count.ensures);
}

pub returns-in_err-at-clause-fault : goal.returns-in_err-at-clause-fault
returns-in_err-at-clause-fault c =
    let bytes = c.args.bytes.now in
    let p = err_from_is_err_and c.from_residual.result c.from_residual.ensures.1 in
    rw (p.1, p.2) (is_faulty c.in_err-at.field-0.0 bytes (place_of bytes (c.loop-i.i + 1))
    (λ short. inr (
      c.loop-i.i,
      omega (arith, c.loop-i-test.true, c.read_long-count.ensures),
      omega (arith, short, next_place bytes c.loop-i.i),
    ))
    c.in_err-at.ensures.fault)

-- one node more
more : (bytes : List ℕ) (n at : ℕ) → at ≡ place_of bytes n → AreChainedThere bytes n → IsChainedThere bytes at → offset_at bytes n ≡ at
    → AreChainedThere bytes (n + 1)
more bytes n at e all one offset = record {
  nodes = λ i less. node_at i (cases_lt i n) less;
  table =
      λ i less. offset_of i (cases_lt i n) less;
} where
  node_at : (i : ℕ) → (i < n) ⊎ (n ≤ i) → i < n + 1 → IsChainedThere bytes (place_of bytes i)
  node_at i (inl less) h = all.nodes i less
  node_at i (inr le) h = let same : n ≡ i = omega (arith, le, h) in
      subst (λ k. IsChainedThere bytes (place_of bytes k)) same (subst (λ k. IsChainedThere bytes k) e one)

  offset_of : (i : ℕ) → (i < n) ⊎ (n ≤ i) → i < n + 1 → offset_at bytes i ≡ place_of bytes i
  offset_of i (inl less) h = all.table i less
  offset_of i (inr le) h = let same : n ≡ i = omega (arith, le, h) in subst (λ k. offset_at bytes k ≡ place_of bytes k) same (offset ∙ e)

pub loop-i-preserved : goal.loop-i-preserved
loop-i-preserved c =
    let bytes = c.args.bytes.now in
    record {
      sound = more bytes c.loop-i.i c.loop-i.at c.loop-i.invariant.place
          c.loop-i.invariant.sound c.in_ok-at.ensures.sound c.in_ok-at.ensures.offset;
      place = c.in_ok-at.ensures.end;
      room = omega (
        arith,
        c.in_ok-at.ensures.end,
        next_place bytes c.loop-i.i,
        ap (λ k. node_end bytes k) c.loop-i.invariant.place,
        c.in_ok-at.ensures.sound.stands.room,
      );
    }
