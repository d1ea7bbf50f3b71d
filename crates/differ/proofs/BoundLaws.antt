-- Verdicts that go least far, or furthest.
use Rattle.std.proofs.Common.{◌≡◌, ℕ, ◌≤◌, true, false, refl, ap, sym, ◌∙◌, arith}
use Rattle.std.specs.Prelude.{nat_lt}
use Rattle.std.proofs.lemmas.Bool.{le-ltb, ltb-false}
use Rattle.call_record.specs.Fate.{fate_of, is_further, steps}
use Rattle.call_record.specs.declared.fate.Fate.{Fate}
use Rattle.call_record.specs.declared.fate.Fate.TheVariants.{Refused, Left, LetThrough}

few_steps : (f : Fate) → steps f ≤ 2
few_steps Refused = omega arith
few_steps Left = omega arith
few_steps LetThrough = omega arith

pub least : (v w : ℕ) → is_further v 0 ≡ false → is_further v w ≡ false
least v w no_ =
    let none : steps (fate_of v) ≤ steps (fate_of 0) = ltb-false (steps (fate_of 0)) (steps (fate_of v)) no_ in
    le-ltb (steps (fate_of w)) (steps (fate_of v)) (omega arith)

pub greatest : (v w : ℕ) → is_further 0x7fff0000 w ≡ false → is_further v w ≡ false
greatest v w no_ =
    let all : steps (fate_of 0x7fff0000) ≤ steps (fate_of w) = ltb-false (steps (fate_of w)) (steps (fate_of 0x7fff0000)) no_ in
    let few : steps (fate_of v) ≤ 2 = few_steps (fate_of v) in
    le-ltb (steps (fate_of w)) (steps (fate_of v)) (omega arith)
