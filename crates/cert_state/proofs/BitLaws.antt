-- Laws of masks, bit by bit.
use Rattle.std.proofs.Common.{◌≡◌, ℕ, ◌+◌, ◌%◌, ◌^◌, ◌<◌, sym, ap, ◌∙◌, arith}
use Rattle.std.specs.Prelude.{bit_and, bit_or, bit_xor, min}
use Rattle.std.specs.Int.{bit_at}
use Rattle.std.specs.Int.Bits.{and_mask, xor_disjoint}
use Rattle.std.proofs.lemmas.Nat.Bits.{bit_at_and, bit_at_or, bit_at_xor, bit_at-lt, bit_at-zero, same_from_bits}

pub and_assoc : (a b c : ℕ) → bit_and (bit_and a b) c ≡ bit_and a (bit_and b c)
and_assoc a b c = same_from_bits _ _ (λ i.
    rw (bit_at_and (bit_and a b) c i, bit_at_and a b i, bit_at_and a (bit_and b c) i, bit_at_and b c i) (omega arith))

pub or_assoc : (a b c : ℕ) → bit_or (bit_or a b) c ≡ bit_or a (bit_or b c)
or_assoc a b c = same_from_bits _ _ (λ i.
    rw (bit_at_or (bit_or a b) c i, bit_at_or a b i, bit_at_or a (bit_or b c) i, bit_at_or b c i) (omega arith))

pub and_or : (u m n : ℕ) → bit_and u (bit_or m n) ≡ bit_or (bit_and u m) (bit_and u n)
and_or u m n = same_from_bits _ _ (λ i.
    rw (bit_at_and u (bit_or m n) i, bit_at_or m n i, bit_at_or (bit_and u m) (bit_and u n) i, bit_at_and u m i, bit_at_and u n i)
    (omega arith))

-- two views of one number agree on the bits of both masks
pub agree_on_both : (u m n : ℕ) → bit_and (bit_and m n) (bit_xor (bit_and u m) (bit_and u n)) ≡ 0
agree_on_both u m n = same_from_bits _ 0 (λ i.
    rw (
      bit_at_and (bit_and m n) (bit_xor (bit_and u m) (bit_and u n)) i,
      bit_at_and m n i,
      bit_at_xor (bit_and u m) (bit_and u n) i,
      bit_at_and u m i,
      bit_at_and u n i,
      bit_at-zero i,
    )
    (omega (arith, bit_at-lt u i, bit_at-lt m i, bit_at-lt n i)))

-- a word under the whole mask is itself
pub and_all : (u : ℕ) → u < 2 ^ 32 → bit_and u 0xffffffff ≡ u
and_all u h = and_mask u 32 ∙ (let e : u % 2 ^ 32 ≡ u = omega arith in e)

-- a word is what it has under a mask and what it has outside
pub and_parts : (u m : ℕ) → u < 2 ^ 32 → bit_and u m + bit_and u (bit_xor m 0xffffffff) ≡ u
and_parts u m h = sym (xor_disjoint _ _ apart) ∙ together where
  own : (i : ℕ) → bit_at u i ≡ min (bit_at u i) (bit_at 0xffffffff i)
  own i = ap (λ n. bit_at n i) (sym (and_all u h)) ∙ bit_at_and u 0xffffffff i

  apart : bit_and (bit_and u m) (bit_and u (bit_xor m 0xffffffff)) ≡ 0
  apart = same_from_bits _ 0 (λ i.
      rw (
        bit_at_and (bit_and u m) (bit_and u (bit_xor m 0xffffffff)) i,
        bit_at_and u m i,
        bit_at_and u (bit_xor m 0xffffffff) i,
        bit_at_xor m 0xffffffff i,
        bit_at-zero i,
      )
      (omega (arith, own i, bit_at-lt u i, bit_at-lt m i, bit_at-lt 0xffffffff i)))

  together : bit_xor (bit_and u m) (bit_and u (bit_xor m 0xffffffff)) ≡ u
  together = same_from_bits _ _ (λ i.
      rw (
        bit_at_xor (bit_and u m) (bit_and u (bit_xor m 0xffffffff)) i,
        bit_at_and u m i,
        bit_at_and u (bit_xor m 0xffffffff) i,
        bit_at_xor m 0xffffffff i,
      )
      (omega (arith, own i, bit_at-lt u i, bit_at-lt m i, bit_at-lt 0xffffffff i)))
