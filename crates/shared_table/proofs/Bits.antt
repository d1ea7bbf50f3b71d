-- The bits of a set of numbers.
use Rattle.std.proofs.Common.{◌≡◌, ℕ, zero, suc, ◌+◌, ◌-◌, ◌*◌, ◌/◌, ◌%◌, ◌^◌, ◌<◌, ◌≤◌, Bool, true, false, List, [], ◌∷◌, refl, ap}
use Rattle.std.proofs.Common.{sym, ◌∙◌, arith}
use Rattle.std.specs.Prelude.{◌==◌, slice_index}
use Rattle.std.proofs.Math.Nat.{div-div-eq-div-mul, pow-suc, pow-le-pow_right}
use mir.Val.{bool_byte}
use Rattle.shared_table.specs.Numbers.{bit, is_in, packed}

pub bit_small : (b : Bool) → bit b ≤ 1
bit_small true = omega arith
bit_small false = omega arith

-- a truth value as a byte
pub bit_byte : (b : Bool) → bool_byte b ≡ bit b
bit_byte true = refl
bit_byte false = refl

bit_tells : (b : Bool) → (bit b == 1) ≡ b
bit_tells true = refl
bit_tells false = refl

-- one number more in front
pub packed_front : (test : ℕ → Bool) (first left : ℕ) → left < 64
    → packed test (first + left) (64 - left) ≡ bit (test (first + left)) + 2 * packed test (first + (left + 1)) (64 - (left + 1))
unfolding packed
packed_front test first left h =
    let more : 64 - left ≡ suc (64 - (left + 1)) = omega arith in
    let next : first + left + 1 ≡ first + (left + 1) = omega arith in
    ap (packed test (first + left)) more ∙ ap (λ n. bit (test (first + left)) + 2 * packed test n (64 - (left + 1))) next

pub packed_none : (test : ℕ → Bool) (first : ℕ) → packed test first 0 ≡ 0
unfolding packed
packed_none test first = refl

packed_small : (test : ℕ → Bool) (first n : ℕ) → packed test first n < 2 ^ n
unfolding packed
packed_small test first zero = omega arith
packed_small test first (suc n) =
    let rest : packed test (first + 1) n < 2 ^ n = packed_small test (first + 1) n in
    let own : bit (test first) ≤ 1 = bit_small (test first) in
    let e : 2 ^ suc n ≡ 2 ^ n * 2 = pow-suc 2 n in
    omega arith

-- fewer than 64 numbers leave room for one more
pub packed_room : (test : ℕ → Bool) (first left : ℕ) → 0 < left → left ≤ 64 → packed test (first + left) (64 - left) < 2 ^ 63
packed_room test first left some most =
    let small : packed test (first + left) (64 - left) < 2 ^ (64 - left) = packed_small test (first + left) (64 - left) in
    let positive : 0 < 2 = omega arith in
    let within : 64 - left ≤ 63 = omega arith in
    let less : 2 ^ (64 - left) ≤ 2 ^ 63 = pow-le-pow_right {n = 2} positive within in
    omega arith

-- the bit of each
packed_bit : (test : ℕ → Bool) (first n b : ℕ) → b < n → packed test first n / 2 ^ b % 2 ≡ bit (test (first + b))
unfolding packed
packed_bit test first zero b h = absurd (omega arith)
packed_bit test first (suc n) zero h =
    let m = packed test (first + 1) n in
    let own : bit (test first) ≤ 1 = bit_small (test first) in
    let e : (bit (test first) + 2 * m) / 1 % 2 ≡ bit (test first) = omega arith in
    let same : first ≡ first + 0 = omega arith in
    e ∙ ap (λ k. bit (test k)) same
packed_bit test first (suc n) (suc b) h =
    let m = packed test (first + 1) n in
    let whole = bit (test first) + 2 * m in
    let own : bit (test first) ≤ 1 = bit_small (test first) in
    let power : 2 ^ suc b ≡ 2 * 2 ^ b = pow-suc 2 b ∙ omega arith in
    let half : whole / 2 ≡ m = omega arith in
    let down : whole / 2 ^ suc b ≡ m / 2 ^ b = ap (λ k. whole / k) power
    ∙ sym (div-div-eq-div-mul whole 2 (2 ^ b)) ∙ ap (λ k. k / 2 ^ b) half in
    let same : first + 1 + b ≡ first + suc b = omega arith in
    ap (λ k. k % 2) down ∙ packed_bit test (first + 1) n b (omega arith) ∙ ap (λ k. bit (test k)) same

-- the bit of a number in the part that it belongs to
part_bit : (test : ℕ → Bool) (first b : ℕ) → b < 64 → (packed test first 64 / 2 ^ b % 2 == 1) ≡ test (first + b)
part_bit test first b h = ap (λ k. k == 1) (packed_bit test first 64 b h) ∙ bit_tells (test (first + b))

abbrev pub parts_of : (ℕ → Bool) → List ℕ
parts_of test =
    packed test 0 64 ∷ packed test 64 64 ∷ packed test 128 64 ∷ packed test 192 64
    ∷ packed test 256 64 ∷ packed test 320 64 ∷ packed test 384 64 ∷ packed test 448 64 ∷ []

in_part : (test : ℕ → Bool) (j b : ℕ) → j < 8 → b < 64 → (slice_index (parts_of test) j / 2 ^ b % 2 == 1) ≡ test (64 * j + b)
in_part test zero b h l = part_bit test 0 b l
in_part test (suc zero) b h l = part_bit test 64 b l
in_part test (suc (suc zero)) b h l = part_bit test 128 b l
in_part test (suc (suc (suc zero))) b h l = part_bit test 192 b l
in_part test (suc (suc (suc (suc zero)))) b h l = part_bit test 256 b l
in_part test (suc (suc (suc (suc (suc zero))))) b h l = part_bit test 320 b l
in_part test (suc (suc (suc (suc (suc (suc zero)))))) b h l = part_bit test 384 b l
in_part test (suc (suc (suc (suc (suc (suc (suc zero))))))) b h l = part_bit test 448 b l
in_part test (suc (suc (suc (suc (suc (suc (suc (suc j)))))))) b h l = absurd (omega arith)

-- the parts hold just the numbers that pass
pub holds : (test : ℕ → Bool) (nr : ℕ) → nr < 512 → is_in (parts_of test) nr ≡ test nr
holds test nr h =
    let j : nr / 64 < 8 = omega arith in
    let b : nr % 64 < 64 = omega arith in
    let whole : 64 * (nr / 64) + nr % 64 ≡ nr = omega arith in
    in_part test (nr / 64) (nr % 64) j b ∙ ap test whole
