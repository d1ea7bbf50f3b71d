-- Which numbers meet conditions on bits.
use Rattle.std.proofs.Common.{◌≡◌, ℕ, ◌≤◌, bit_and, sym, ◌∙◌, ap, subst, arith}
use Rattle.std.proofs.lemmas.Nat.{and_assoc, and_le_l}
use Rattle.profile.specs.declared.conditions.Cond.{Cond}
use Rattle.profile.specs.declared.conditions.Op.TheVariants.{MaskedEq}
use Rattle.profile.specs.Condition.{Meets}
use Rattle.profile.specs.Operator.{Compares}
use Rattle.engines.specs.Settled.{IsImpliedBy}

-- what a number has under the mask
under_mask : (c : Cond) (u : ℕ) → c.op ≡ MaskedEq → Meets c u → bit_and u c.value ≡ c.datum
under_mask c u masked met = subst (λ op. Compares op c.value c.datum u) masked met

-- the bits under the mask are no more than the number
pub bits_least : (c : Cond) (u : ℕ) → c.op ≡ MaskedEq → Meets c u → c.datum ≤ u
bits_least c u masked met = omega (arith, and_le_l u c.value, under_mask c u masked met)

-- a mask that is a part of another one has these bits of a number, if the other has them
pub fewer_bits : (a b : Cond) → a.op ≡ MaskedEq → b.op ≡ MaskedEq → bit_and b.value a.value ≡ a.value
    → bit_and b.datum a.value ≡ a.datum → IsImpliedBy a b
fewer_bits a b masked too part same u met =
    let is : bit_and u a.value ≡ a.datum =
    ap (bit_and u) (sym part) ∙ sym (and_assoc a.value u b.value) ∙ ap (λ x. bit_and x a.value) (under_mask b u too met) ∙ same in
    subst (λ op. Compares op a.value a.datum u) (sym masked) is
