use Rattle.std.proofs.Common.{◌≡◌, ◌<◌, ℕ, zero, suc, ◌*◌, ◌/◌, ◌%◌, true, false, nat_eq, refl, ap, ◌∙◌, arith, bit_and}
use Rattle.std.specs.Prelude.{if◌then◌else◌, ◌==◌}
use Rattle.std.proofs.lemmas.Nat.Bits.{and_pow}
use Rattle.compare.proofs.behind_runc.stub.compare.have_x32_bit.Goals as goal

-- a number with a bit below 2, by the bit
by_bit : (b : ℕ) → b < 2 → (if b * 0x40000000 == 0 then false else true) ≡ nat_eq b 1
by_bit zero h = refl
by_bit (suc zero) h = refl
by_bit (suc (suc b)) h = absurd (omega arith)

-- the bit of x32 calls, by the quarter in which a number is
by_quarter : (n q : ℕ) → n / 0x40000000 ≡ q → (if bit_and n 0x40000000 == 0 then false else true) ≡ nat_eq (q % 2) 1
by_quarter n q e =
    let is : bit_and n 0x40000000 ≡ n / 0x40000000 % 2 * 0x40000000 = and_pow n 30 in
    ap (λ (m : ℕ). if m == 0 then false else true) (is ∙ ap (λ (m : ℕ). m % 2 * 0x40000000) e) ∙ by_bit (q % 2) (omega arith)

pub returns-clause-same : goal.returns-clause-same
returns-clause-same c n h =
    by_quarter n (c.args.numbers.now.first / 0x40000000)
    (omega (arith, h, c.cap.ensures.capped, c.cap.ensures.part))
