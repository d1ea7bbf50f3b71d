-- Parts that stand in bytes, one after another, and the numbers that they spell.
use Rattle.std.proofs.Common.{◌≡◌, ℕ, ◌+◌, ◌*◌, ◌/◌, ◌%◌, ◌<◌, ◌≤◌, ◌^◌, List, [], ◌∷◌, ◌++◌, length, drop, get_or, refl, ap, sym, ◌∙◌}
use Rattle.std.proofs.Common.{subst, arith}
use Rattle.std.specs.Prelude.{slice_index}
use Rattle.std.proofs.lemmas.List.{append_assoc, append-nil, length-append, length-drop, drop-drop, drop_at, drop_more, get_or-drop}
use Rattle.std.proofs.lemmas.List.{drop_all}
use Rattle.byteorder.specs.Endian.{little_bytes}
use Rattle.cert_form.specs.Reading.{long_at, short_at}
use Rattle.cert_form.specs.declared.fault.FormError.{FormError}
use Rattle.cert_form.specs.declared.fault.FormError.TheVariants.{BadMagic, BadVersion, Truncated, BadNode, BadCount, Trailing, OutOfMemory}
use Rattle.cert_form.specs.inner.Standing.{Stands, Fails}

abbrev pub AreBytes : List ℕ → Type 0
AreBytes bytes = (i : ℕ) → get_or bytes i 0 < 256

-- two parts are one
pub both : (bytes : List ℕ) (at : ℕ) (a : List ℕ) (mid from : ℕ) (b : List ℕ) (end : ℕ) → Stands bytes at a mid → Stands bytes from b end
    → from ≡ mid
    → Stands bytes at (a ++ b) end
both bytes at a mid from b end p q e = record {
  is = p.is ∙ ap (λ (t : List ℕ). a ++ t) (ap (λ k. drop k bytes) (sym e) ∙ q.is) ∙ sym (append_assoc a b (drop end bytes));
  ends = omega (arith, p.ends, q.ends, e, length-append a b);
  room = q.room;
}

-- one part is two
pub front : (bytes : List ℕ) (at : ℕ) (a b : List ℕ) (end : ℕ) → Stands bytes at (a ++ b) end → Stands bytes at a (at + length a)
front bytes at a b end p =
    let parts : drop at bytes ≡ a ++ (b ++ drop end bytes) = p.is ∙ append_assoc a b (drop end bytes) in
    let left : drop (at + length a) bytes ≡ b ++ drop end bytes =
    sym (drop-drop (length a) at bytes) ∙ (ap (λ (t : List ℕ). drop (length a) t) parts
    ∙ drop_at a (b ++ drop end bytes) (length a) refl) in
    record {
      is = parts ∙ ap (λ (t : List ℕ). a ++ t) (sym left);
      ends = refl;
      room = omega (arith, p.ends, p.room, length-append a b);
    }

pub back : (bytes : List ℕ) (at : ℕ) (a b : List ℕ) (end : ℕ) → Stands bytes at (a ++ b) end → Stands bytes (at + length a) b end
back bytes at a b end p =
    let parts : drop at bytes ≡ a ++ (b ++ drop end bytes) = p.is ∙ append_assoc a b (drop end bytes) in
    record {
      is = sym (drop-drop (length a) at bytes) ∙ (ap (λ (t : List ℕ). drop (length a) t) parts
          ∙ drop_at a (b ++ drop end bytes) (length a) refl);
      ends = omega (arith, p.ends, length-append a b);
      room = p.room;
    }

-- the same at numbers and bytes that are written in another way
pub moved : (bytes : List ℕ) (at at' : ℕ) (a : List ℕ) (end : ℕ) → Stands bytes at a end → at ≡ at' → Stands bytes at' a end
moved bytes at at' a end p e = subst (λ k. Stands bytes k a end) e p

pub ended : (bytes : List ℕ) (at : ℕ) (a : List ℕ) (end end' : ℕ) → Stands bytes at a end → end ≡ end' → Stands bytes at a end'
ended bytes at a end end' p e = subst (λ k. Stands bytes at a k) e p

pub other : (bytes : List ℕ) (at : ℕ) (a a' : List ℕ) (end : ℕ) → Stands bytes at a end → a ≡ a' → Stands bytes at a' end
other bytes at a a' end p e = subst (λ (t : List ℕ). Stands bytes at t end) e p

-- nothing stands anywhere
pub none_stands : (bytes : List ℕ) (at : ℕ) → at ≤ length bytes → Stands bytes at [] at
none_stands bytes at h = record { is = refl; ends = omega arith; room = h }

-- bytes stand in themselves
pub all_stands : (bytes part : List ℕ) → bytes ≡ part → Stands bytes 0 part (length bytes)
all_stands bytes part e = record {
  is = e ∙ (sym (append-nil part) ∙ ap (λ (t : List ℕ). part ++ t) (sym (drop_all (length bytes) bytes (omega arith))));
  ends = omega (arith, ap length e);
  room = omega arith;
}

-- and what stands from the first to the last is all
pub all_is : (bytes part : List ℕ) → Stands bytes 0 part (length bytes) → bytes ≡ part
all_is bytes part p = p.is ∙ (ap (λ (t : List ℕ). part ++ t) (drop_all (length bytes) bytes (omega arith)) ∙ append-nil part)

-- the byte at a place
pub byte_stands : (bytes : List ℕ) (at : ℕ) → at < length bytes → Stands bytes at (slice_index bytes at ∷ []) (at + 1)
byte_stands bytes at h = record { is = drop_more bytes at 0 h; ends = refl; room = omega arith }

first_of : (xs : List ℕ) (x : ℕ) (rest : List ℕ) → xs ≡ x ∷ rest → get_or xs 0 0 ≡ x
first_of xs x rest e = ap (λ (t : List ℕ). get_or t 0 0) e

pub byte_is : (bytes : List ℕ) (at x : ℕ) (rest : List ℕ) (end : ℕ) → Stands bytes at (x ∷ rest) end → slice_index bytes at ≡ x
byte_is bytes at x rest end p =
    let here : at + 0 ≡ at = omega arith in
    ap (λ k. get_or bytes k 0) (sym here) ∙ (sym (get_or-drop at bytes 0 0) ∙ first_of (drop at bytes) x (rest ++ drop end bytes) p.is)

-- four bytes of a number are the number
pub long_again : (n : ℕ) → n < 2 ^ 32 → n % 256 + 256 * (n / 256 % 256 + 256 * (n / 65536 % 256 + 256 * (n / 16777216 % 256 + 0))) ≡ n
long_again n h = omega arith

short_again : (n : ℕ) → n < 2 ^ 16 → n % 256 + 256 * (n / 256 % 256 + 0) ≡ n
short_again n h = omega arith

pub long_is : (bytes : List ℕ) (at n end : ℕ) → Stands bytes at (little_bytes 4 n) end → n < 2 ^ 32 → long_at bytes at ≡ n
long_is bytes at n end p h =
    ap (λ (t : List ℕ). get_or t 0 0 + 256 * (get_or t 1 0 + 256 * (get_or t 2 0 + 256 * (get_or t 3 0 + 256 * 0)))) p.is ∙ long_again n h

pub short_is : (bytes : List ℕ) (at n end : ℕ) → Stands bytes at (little_bytes 2 n) end → n < 2 ^ 16 → short_at bytes at ≡ n
short_is bytes at n end p h =
    ap (λ (t : List ℕ). get_or t 0 0 + 256 * (get_or t 1 0 + 256 * 0)) p.is ∙ short_again n h

-- and a number that is read stands there
four : (xs : List ℕ) → AreBytes xs → 4 ≤ length xs
    → xs ≡ little_bytes 4 (get_or xs 0 0 + 256 * (get_or xs 1 0 + 256 * (get_or xs 2 0 + 256 * (get_or xs 3 0 + 256 * 0)))) ++ drop 4 xs
four (b0 ∷ b1 ∷ b2 ∷ b3 ∷ rest) small h = of_cells b0 b1 b2 b3 rest (small 0) (small 1) (small 2) (small 3) where
  of_cells : (b0 b1 b2 b3 : ℕ) (rest : List ℕ) → b0 < 256 → b1 < 256 → b2 < 256 → b3 < 256
      → b0 ∷ b1 ∷ b2 ∷ b3 ∷ rest ≡ little_bytes 4 (b0 + 256 * (b1 + 256 * (b2 + 256 * (b3 + 256 * 0)))) ++ rest
  of_cells b0 b1 b2 b3 rest h0 h1 h2 h3 =
      let n : ℕ = b0 + 256 * (b1 + 256 * (b2 + 256 * (b3 + 256 * 0))) in
      let e0 : n % 256 ≡ b0 = omega arith in
      let e1 : n / 256 % 256 ≡ b1 = omega arith in
      let e2 : n / 65536 % 256 ≡ b2 = omega arith in
      let e3 : n / 16777216 % 256 ≡ b3 = omega arith in
      rw (e0, e1, e2, e3) refl
four xs small h = absurd (omega arith)

two : (xs : List ℕ) → AreBytes xs → 2 ≤ length xs → xs ≡ little_bytes 2 (get_or xs 0 0 + 256 * (get_or xs 1 0 + 256 * 0)) ++ drop 2 xs
two (b0 ∷ b1 ∷ rest) small h = of_cells b0 b1 rest (small 0) (small 1) where
  of_cells : (b0 b1 : ℕ) (rest : List ℕ) → b0 < 256 → b1 < 256 → b0 ∷ b1 ∷ rest ≡ little_bytes 2 (b0 + 256 * (b1 + 256 * 0)) ++ rest
  of_cells b0 b1 rest h0 h1 =
      let n : ℕ = b0 + 256 * (b1 + 256 * 0) in
      let e0 : n % 256 ≡ b0 = omega arith in
      let e1 : n / 256 % 256 ≡ b1 = omega arith in
      rw (e0, e1) refl
two xs small h = absurd (omega arith)

left_are : (bytes : List ℕ) (at : ℕ) → AreBytes bytes → AreBytes (drop at bytes)
left_are bytes at small i = rw get_or-drop (small (at + i))

pub long_stands : (bytes : List ℕ) (at : ℕ) → AreBytes bytes → at + 4 ≤ length bytes
    → Stands bytes at (little_bytes 4 (long_at bytes at)) (at + 4)
long_stands bytes at small h = record {
  is = four (drop at bytes) (left_are bytes at small) (omega (arith, length-drop at bytes))
      ∙ ap (λ (t : List ℕ). little_bytes 4 (long_at bytes at) ++ t) (drop-drop 4 at bytes);
  ends = refl;
  room = h;
}

pub short_stands : (bytes : List ℕ) (at : ℕ) → AreBytes bytes → at + 2 ≤ length bytes
    → Stands bytes at (little_bytes 2 (short_at bytes at)) (at + 2)
short_stands bytes at small h = record {
  is = two (drop at bytes) (left_are bytes at small) (omega (arith, length-drop at bytes))
      ∙ ap (λ (t : List ℕ). little_bytes 2 (short_at bytes at) ++ t) (drop-drop 2 at bytes);
  ends = refl;
  room = h;
}

-- numbers of bytes are below the limits of their widths
pub long_below : (bytes : List ℕ) (at : ℕ) → AreBytes bytes → long_at bytes at < 2 ^ 32
long_below bytes at small =
    let left = left_are bytes at small in omega (arith, left 0, left 1, left 2, left 3)

pub short_below : (bytes : List ℕ) (at : ℕ) → AreBytes bytes → short_at bytes at < 2 ^ 16
short_below bytes at small = let left = left_are bytes at small in omega (arith, left 0, left 1)

-- a fault of a part is one of the whole
pub weaker : {Bad Whole : Type 0} (e : FormError) (bytes : List ℕ) (end end' : ℕ) → end ≤ end' → (Bad → Whole) → Fails e bytes end Bad
    → Fails e bytes end' Whole
weaker Truncated bytes end end' h f short = omega (arith, h, short)
weaker BadNode bytes end end' h f bad = f bad
weaker BadMagic bytes end end' h f bad = absurd bad
weaker BadVersion bytes end end' h f bad = absurd bad
weaker BadCount bytes end end' h f bad = absurd bad
weaker Trailing bytes end end' h f bad = absurd bad
weaker OutOfMemory bytes end end' h f bad = absurd bad
