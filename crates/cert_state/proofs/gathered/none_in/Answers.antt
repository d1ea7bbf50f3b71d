use Rattle.std.proofs.Common.{◌<◌, ◌≤◌, ◌^◌, ℕ, ◌↔◌, sym, ◌∙◌, arith, inl, inr}
use Rattle.std.proofs.lemmas.Bool.{cases_lt, lt-ltb, ltb-true}
use Rattle.cert_state.specs.Literals.{all_bits}
use Rattle.cert_state.specs.Points.{NoneBetween}
use Rattle.cert_state.proofs.BitLaws.{and_all}
use Rattle.cert_state.proofs.gathered.none_in.Goals as goal

-- under the mask of all bits no number from low to high is one that is no less than low, where that is above high
above : (low high datum : ℕ) → high < 2 ^ 32 → datum < 2 ^ 32 → low ≤ datum → (high < datum) ↔ NoneBetween low high all_bits datum
above low high datum small fits from = (
  λ out u least most is. let same = sym (and_all u (omega arith)) ∙ is in absurd (omega (arith, same)),
  λ none. elim (cases_lt high datum) [ inl out ↦ out | inr to ↦ absurd (none datum from to (and_all datum fits)) ],
)

pub returns-else-datum-low : goal.returns-else-datum-low
returns-else-datum-low c =
    let at = above c.args.low c.args.high c.args.datum (omega arith) (omega arith) (omega (arith, c.if-datum-low.false)) in
    rw c.if-mask-eq4294967295.true (λ t. at.0 (ltb-true c.args.high c.args.datum t), λ none. lt-ltb c.args.high c.args.datum (at.1 none))
