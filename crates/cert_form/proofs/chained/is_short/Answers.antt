use Rattle.std.proofs.Common.{◌≡◌, ◌≤◌, ◌<◌, ◌+◌, ◌-◌, ℕ, zero, suc, IsTrue, eqb, length, refl, ap, arith}
use Rattle.std.proofs.lemmas.Bool.{eqb-true}
use Rattle.cert_form.specs.Nodes.{on_chain}
use Rattle.cert_form.specs.Reading.{chain_count, entries_of, parent_at}
use Rattle.cert_form.proofs.ChainLaws.{some_claim, no_claim}
use Rattle.cert_form.proofs.chained.is_short.Goals as goal

pub returns-then-entry-eq0 : goal.returns-then-entry-eq0
returns-then-entry-eq0 c =
    let bytes = c.args.bytes.now in
    let none = ap (λ k. length (on_chain (entries_of bytes) k)) c.if-entry-eq0.true in
    (λ _. omega (arith, c.loop.invariant.steps, none, ap length (no_claim bytes (chain_count bytes)), c.loop-test.true), λ _. refl)

pub loop-preserved : goal.loop-preserved
loop-preserved c =
    let bytes = c.args.bytes.now in
    let earlier : parent_at bytes (c.loop.entry - 1) < c.loop.entry - 1 + 1 =
    c.requires.head.earlier c.requires.form (c.loop.entry - 1) (omega (arith, c.if-entry-eq0.false, c.loop.invariant.known)) in
    let one = some_claim bytes (chain_count bytes) c.loop.entry c.if-entry-eq0.false c.loop.invariant.known earlier in
    let same = ap (λ k. length (on_chain (entries_of bytes) k)) c.read_long-entry.ensures in
    record {
      steps = omega (arith, c.loop.invariant.steps, one, same);
      known = omega (arith, c.read_long-entry.ensures, earlier, c.if-entry-eq0.false, c.loop.invariant.known);
    }

ends : (n len : ℕ) → (n ≡ 0 → len ≤ 512) → ((n ≡ 0 → ⊥) → 512 < len) → (IsTrue (eqb n 0) → len ≤ 512) × (len ≤ 512 → IsTrue (eqb n 0))
ends zero len short long = (λ _. short refl, λ _. refl)
ends (suc n) len short long =
    let more : 512 < len = long (λ e. omega (arith, e)) in
    (λ t. absurd (omega (arith, eqb-true (suc n) 0 t)), λ h. absurd (omega (arith, h, more)))

pub returns : goal.returns
returns c =
    let bytes = c.args.bytes.now in
    let count : ℕ = chain_count bytes in
    ends c.loop.entry (length (on_chain (entries_of bytes) c.args.chain))
    (λ e. omega (
      arith,
      c.loop.invariant.steps,
      ap (λ k. length (on_chain (entries_of bytes) k)) e,
      ap length (no_claim bytes count),
      c.loop-test.false,
      c.loop.auto.counter-end,
    ))
    (λ some. omega (
      arith,
      c.loop.invariant.steps,
      some_claim bytes count c.loop.entry some c.loop.invariant.known
          (c.requires.head.earlier c.requires.form (c.loop.entry - 1) (omega (arith, some, c.loop.invariant.known))),
      c.loop-test.false,
    ))
