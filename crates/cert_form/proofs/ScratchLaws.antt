-- Stated scratch words: what is judged sound is spelled so, and what is spelled is read and is not bad.
use Rattle.std.proofs.Common.{drop, get_or, ◌≡◌, ℕ, zero, suc, ◌+◌, ◌-◌, ◌*◌, ◌/◌, ◌%◌, ◌<◌, ◌≤◌, ◌^◌, Bool, true, false, cond, eqb, List}
use Rattle.std.proofs.Common.{[], ◌∷◌, ◌++◌}
use Rattle.std.proofs.Common.{length, refl, ap, sym, ◌∙◌, subst, arith}
use Rattle.std.specs.Prelude.{replicate, ◌≢◌, All, slice_index}
use Rattle.std.specs.List.{flat_map, AllByRecursion}
use Rattle.std.proofs.lemmas.Bool.{ne_eqb}
use Rattle.std.proofs.lemmas.List.{length-append, drop_more}
use Rattle.std.proofs.lemmas.List.Elements.{All-from_recursion}
use Rattle.byteorder.specs.Endian.{little_bytes}
use Rattle.cert_state.specs.declared.literal.AVal.{AVal}
use Rattle.cert_state.specs.declared.literal.AVal.TheVariants.{Unknown, Const, Masked}
use Rattle.cert_state.specs.Literals.{IsValue}
use Rattle.cert_form.specs.Spelling.{value, if_stated, bit_of, stated_bits, scratch, nothing_stated}
use Rattle.cert_form.specs.Reading.{long_at, short_at, value_at, tagged_value, scratch_from, scratch_at, ones, version_of, chain_place}
use Rattle.cert_form.specs.Faults.{IsBadStated}
use Rattle.cert_form.specs.inner.Standing.{Stands, IsStatedThere, AreStatedThere, IsScratchThere, bits_above}
use Rattle.cert_form.proofs.StandLaws.{AreBytes, both, front, back, ended, other, none_stands, byte_is, short_stands, short_below}
use Rattle.cert_form.proofs.PartLaws.{value_is, value_not_bad}

-- one bit after another
pub ones_more : (bits n : ℕ) → ones bits (suc n) ≡ bits % 2 + ones (bits / 2) n
unfolding ones
ones_more bits n = refl

scratch_stated : (bytes : List ℕ) (at bits n : ℕ) → bits % 2 ≡ 1
    → scratch_from bytes at bits (suc n) ≡ value_at bytes at ∷ scratch_from bytes (at + 6) (bits / 2) n
unfolding scratch_from
scratch_stated bytes at bits n one = rw one refl

scratch_unstated : (bytes : List ℕ) (at bits n : ℕ) → (bits % 2 ≡ 1 → ⊥)
    → scratch_from bytes at bits (suc n) ≡ Unknown ∷ scratch_from bytes at (bits / 2) n
unfolding scratch_from
scratch_unstated bytes at bits n none = rw (ne_eqb (bits % 2) 1 none) refl

-- a value with a tag is stated
abbrev IsKnown : AVal → Type 0
IsKnown v = (if_stated v ≡ value v) × (bit_of v ≡ 1)

known : (t w n : ℕ) → t ≢ 0 → (if_stated (tagged_value t w n) ≡ value (tagged_value t w n)) × (bit_of (tagged_value t w n) ≡ 1)
known t w n some = subst (λ b. IsKnown (cond b Unknown (cond (eqb t 1) (Const n) (Masked w n)))) (sym (ne_eqb t 0 some))
    (by_test (eqb t 1)) where
      by_test : (b : Bool) → IsKnown (cond b (Const n) (Masked w n))
      by_test true = (refl, refl)
      by_test false = (refl, refl)

known_at : (bytes : List ℕ) (at : ℕ) → slice_index bytes at ≢ 0
    → (if_stated (value_at bytes at) ≡ value (value_at bytes at)) × (bit_of (value_at bytes at) ≡ 1)
unfolding value_at
known_at bytes at some = known (slice_index bytes at) (slice_index bytes (at + 1)) (long_at bytes (at + 2)) some

-- ---- what is judged sound is spelled so

of_list : (bytes : List ℕ) (at bits n : ℕ) (vs : List AVal) → scratch_from bytes at bits n ≡ vs
    → Stands bytes at (flat_map if_stated vs) (at + 6 * ones bits n) → (bits_above bits n ≡ 0 → stated_bits vs ≡ bits)
    → AllByRecursion IsValue vs
    → AreStatedThere bytes at bits n
of_list bytes at bits n vs e stands same good = record {
  stands = subst (λ (ws : List AVal). Stands bytes at (flat_map if_stated ws) (at + 6 * ones bits n)) (sym e) stands;
  same = λ above. ap stated_bits e ∙ same above;
  good = subst (λ (ws : List AVal). AllByRecursion IsValue ws) (sym e) good;
}

pub none_stated : (bytes : List ℕ) (at bits n : ℕ) → at ≤ length bytes → n ≡ 0 → AreStatedThere bytes at bits n
unfolding scratch_from ones
none_stated bytes at bits n h e = subst (λ k. AreStatedThere bytes at bits k) (sym e) at_zero where
  at_zero : AreStatedThere bytes at bits 0
  at_zero = record {
    stands = ended bytes at [] at (at + 6 * 0) (none_stands bytes at h) (omega arith);
    same = λ above. sym above;
    good =
        tt;
  }

pub stated_more : (bytes : List ℕ) (at bits n : ℕ) → IsStatedThere bytes at → bits % 2 ≡ 1 → AreStatedThere bytes (at + 6) (bits / 2) n
    → AreStatedThere bytes at bits (suc n)
stated_more bytes at bits n p one q =
    let k = known_at bytes at p.known in
    let first : Stands bytes at (if_stated (value_at bytes at)) (at + 6) = other bytes at _ _ (at + 6) p.value.stands (sym k.0) in
    let rest : Stands bytes (at + 6) (flat_map if_stated (scratch_from bytes (at + 6) (bits / 2) n)) (at + 6 * ones bits (suc n)) =
    ended bytes (at + 6) _ (at + 6 + 6 * ones (bits / 2) n) (at + 6 * ones bits (suc n)) q.stands (omega (arith, ones_more bits n, one)) in
    of_list bytes at bits (suc n) (value_at bytes at ∷ scratch_from bytes (at + 6) (bits / 2) n) (scratch_stated bytes at bits n one)
    (both bytes at (if_stated (value_at bytes at)) (at + 6) (at + 6) _ (at + 6 * ones bits (suc n)) first rest refl)
    (λ above. omega (arith, k.1, q.same above, one)) (p.value.good, q.good)

pub unstated_more : (bytes : List ℕ) (at bits n : ℕ) → (bits % 2 ≡ 1 → ⊥) → AreStatedThere bytes at (bits / 2) n
    → AreStatedThere bytes at bits (suc n)
unstated_more bytes at bits n none q =
    let rest : Stands bytes at (flat_map if_stated (scratch_from bytes at (bits / 2) n)) (at + 6 * ones bits (suc n)) =
    ended bytes at _ (at + 6 * ones (bits / 2) n) (at + 6 * ones bits (suc n)) q.stands (omega (arith, ones_more bits n, none)) in
    of_list bytes at bits (suc n) (Unknown ∷ scratch_from bytes at (bits / 2) n) (scratch_unstated bytes at bits n none)
    rest (λ above. omega (arith, q.same above, none)) (tt, q.good)

length-scratch_from : (bytes : List ℕ) (at bits n : ℕ) → length (scratch_from bytes at bits n) ≡ n
unfolding scratch_from
length-scratch_from bytes at bits zero = refl
length-scratch_from bytes at bits (suc n) =
    by_test (eqb (bits % 2) 1) (length-scratch_from bytes (at + 6) (bits / 2) n) (length-scratch_from bytes at (bits / 2) n) where
      by_test : (b : Bool) → length (scratch_from bytes (at + 6) (bits / 2) n) ≡ n → length (scratch_from bytes at (bits / 2) n) ≡ n
          → length (cond b (value_at bytes at ∷ scratch_from bytes (at + 6) (bits / 2) n)
          (Unknown ∷ scratch_from bytes at (bits / 2) n)) ≡ suc n
      by_test true stated unstated = ap suc stated
      by_test false stated unstated = ap suc unstated

all_bits : (bits : ℕ) → bits < 2 ^ 16 → bits_above bits 16 ≡ 0
all_bits bits h = omega arith

-- the scratch words of a node, in form 2 and in the others
pub stated_place : (bytes : List ℕ) (at : ℕ) → version_of bytes ≢ 2
    → chain_place bytes at ≡ at + 18 + 6 * ones (short_at bytes (at + 16)) 16
unfolding chain_place
stated_place bytes at other = rw (ne_eqb (version_of bytes) 2 other) refl

pub stated_at : (bytes : List ℕ) (at : ℕ) → version_of bytes ≢ 2
    → scratch_at bytes at ≡ scratch_from bytes (at + 18) (short_at bytes (at + 16)) 16
unfolding scratch_at
stated_at bytes at other = rw (ne_eqb (version_of bytes) 2 other) refl

pub plain_place : (bytes : List ℕ) (at : ℕ) → version_of bytes ≡ 2 → chain_place bytes at ≡ at + 16
unfolding chain_place
plain_place bytes at two = rw two refl

pub plain_at : (bytes : List ℕ) (at : ℕ) → version_of bytes ≡ 2 → scratch_at bytes at ≡ nothing_stated
unfolding scratch_at
plain_at bytes at two = rw two refl

spoken : (bytes : List ℕ) (part : List ℕ) → version_of bytes ≢ 2 → cond (eqb (version_of bytes) 2) [] part ≡ part
spoken bytes part other = rw (ne_eqb (version_of bytes) 2 other) refl

unspoken : (bytes : List ℕ) (part : List ℕ) → version_of bytes ≡ 2 → cond (eqb (version_of bytes) 2) [] part ≡ []
unspoken bytes part two = rw two refl

pub scratch_there : (bytes : List ℕ) (at : ℕ) → AreBytes bytes → at + 18 ≤ length bytes → version_of bytes ≢ 2
    → AreStatedThere bytes (at + 18) (short_at bytes (at + 16)) 16 → IsScratchThere bytes at
scratch_there bytes at small room other_form p =
    let bits : ℕ = short_at bytes (at + 16) in
    let vs : List AVal = scratch_from bytes (at + 18) bits 16 in
    let head : Stands bytes (at + 16) (little_bytes 2 bits) (at + 18) =
    ended bytes (at + 16) _ (at + 16 + 2) (at + 18) (short_stands bytes (at + 16) small (omega arith)) (omega arith) in
    let same : stated_bits vs ≡ bits = p.same (all_bits bits (short_below bytes (at + 16) small)) in
    let whole : Stands bytes (at + 16) (little_bytes 2 bits ++ flat_map if_stated vs) (chain_place bytes at) =
    both bytes (at + 16) (little_bytes 2 bits) (at + 18) (at + 18) (flat_map if_stated vs) (chain_place bytes at) head
    (ended bytes (at + 18) _ _ (chain_place bytes at) p.stands (sym (stated_place bytes at other_form))) refl in
    let spelled : little_bytes 2 bits ++ flat_map if_stated vs ≡ cond (eqb (version_of bytes) 2) [] (scratch (scratch_at bytes at)) =
    ap (λ b. little_bytes 2 b ++ flat_map if_stated vs) (sym same)
    ∙ (ap scratch (sym (stated_at bytes at other_form)) ∙ sym (spoken bytes (scratch (scratch_at bytes at)) other_form)) in
    record {
      stands = other bytes (at + 16) _ _ (chain_place bytes at) whole spelled;
      sixteen = ap length (stated_at bytes at other_form) ∙ length-scratch_from bytes (at + 18) bits 16;
      good = subst (λ (ws : List AVal). All IsValue ws) (sym (stated_at bytes at other_form)) (All-from_recursion IsValue vs p.good);
      none = λ two. absurd (other_form two);
    }

pub none_good : All IsValue nothing_stated
none_good = All-from_recursion IsValue nothing_stated (
  tt,
  (
    tt,
    (tt, (tt, (tt, (tt, (tt, (tt, (tt, (tt, (tt, (tt, (tt, (tt, (tt, (tt, tt)))))))))))))),
  ),
)

pub no_scratch_there : (bytes : List ℕ) (at : ℕ) → at + 16 ≤ length bytes → version_of bytes ≡ 2 → IsScratchThere bytes at
no_scratch_there bytes at room none = record {
  stands = other bytes (at + 16) [] _ (chain_place bytes at)
      (ended bytes (at + 16) [] (at + 16) (chain_place bytes at) (none_stands bytes (at + 16) room) (sym (plain_place bytes at none)))
      (sym (unspoken bytes (scratch (scratch_at bytes at)) none));
  sixteen = ap length (plain_at bytes at none);
  good = subst (λ (ws : List AVal). All IsValue ws) (sym (plain_at bytes at none))
      none_good;
  none = λ _. plain_at bytes at none;
}

-- ---- what is spelled is read and is not bad

-- the bits of the words after the first
later_bits : (b s : ℕ) → b ≤ 1 → (b + 2 * s) / 2 ≡ s
later_bits b s h = omega arith

bit_small : (v : AVal) → bit_of v ≤ 1
bit_small Unknown = omega arith
bit_small (Const c) = omega arith
bit_small (Masked w m) = omega arith

above_stated : (vs : List AVal) → bits_above (stated_bits vs) (length vs) ≡ 0
above_stated [] = refl
above_stated (v ∷ vs) = ap (λ s. bits_above s (length vs)) (later_bits (bit_of v) (stated_bits vs) (bit_small v)) ∙ above_stated vs

below_all : (bits : ℕ) → bits_above bits 16 ≡ 0 → bits < 2 ^ 16
below_all bits h = omega arith

pub stated_below : (vs : List AVal) → length vs ≡ 16 → stated_bits vs < 2 ^ 16
stated_below vs e = below_all (stated_bits vs) (subst (λ n. bits_above (stated_bits vs) n ≡ 0) e (above_stated vs))

pub length-stated : (vs : List AVal) → length (flat_map if_stated vs) ≡ 6 * ones (stated_bits vs) (length vs)
unfolding ones
length-stated [] = refl
length-stated (Unknown ∷ vs) =
    omega (
      arith,
      length-stated vs,
      ones_more (0 + 2 * stated_bits vs) (length vs),
      ap (λ s. ones s (length vs)) (later_bits 0 (stated_bits vs) (omega arith)),
    )
length-stated (Const c ∷ vs) =
    omega (
      arith,
      length-stated vs,
      ones_more (1 + 2 * stated_bits vs) (length vs),
      ap (λ s. ones s (length vs)) (later_bits 1 (stated_bits vs) (omega arith)),
      length-append (value (Const c)) (flat_map if_stated vs),
    )
length-stated (Masked w m ∷ vs) =
    omega (
      arith,
      length-stated vs,
      ones_more (1 + 2 * stated_bits vs) (length vs),
      ap (λ s. ones s (length vs)) (later_bits 1 (stated_bits vs) (omega arith)),
      length-append (value (Masked w m)) (flat_map if_stated vs),
    )

-- one word is read, and then the others
read_unknown : (bytes : List ℕ) (at s n : ℕ) (vs : List AVal) → scratch_from bytes at s n ≡ vs
    → scratch_from bytes at (0 + 2 * s) (suc n) ≡ Unknown ∷ vs
read_unknown bytes at s n vs e =
    scratch_unstated bytes at (0 + 2 * s) n (λ odd. omega (arith, odd))
    ∙ ap (λ (ws : List AVal). Unknown ∷ ws) (ap (λ b. scratch_from bytes at b n) (later_bits 0 s (omega arith)) ∙ e)

read_known : (bytes : List ℕ) (at s n : ℕ) (v : AVal) (vs : List AVal) → value_at bytes at ≡ v → scratch_from bytes (at + 6) s n ≡ vs
    → scratch_from bytes at (1 + 2 * s) (suc n) ≡ v ∷ vs
read_known bytes at s n v vs first e =
    scratch_stated bytes at (1 + 2 * s) n (omega arith)
    ∙ (ap (λ w. w ∷ scratch_from bytes (at + 6) ((1 + 2 * s) / 2) n) first
    ∙ ap (λ (ws : List AVal). v ∷ ws) (ap (λ b. scratch_from bytes (at + 6) b n) (later_bits 1 s (omega arith)) ∙ e))

pub scratch_is : (bytes : List ℕ) (at : ℕ) (vs : List AVal) (end : ℕ) → Stands bytes at (flat_map if_stated vs) end
    → AllByRecursion IsValue vs
    → scratch_from bytes at (stated_bits vs) (length vs) ≡ vs
unfolding scratch_from
scratch_is bytes at [] end s h = refl
scratch_is bytes at (Unknown ∷ vs) end s h = read_unknown bytes at (stated_bits vs) (length vs) vs (scratch_is bytes at vs end s h.1)
scratch_is bytes at (Const c ∷ vs) end s h =
    read_known bytes at (stated_bits vs) (length vs) (Const c) vs
    (value_is bytes at (Const c) _ (front bytes at (value (Const c)) (flat_map if_stated vs) end s) h.0)
    (scratch_is bytes (at + 6) vs end (back bytes at (value (Const c)) (flat_map if_stated vs) end s) h.1)
scratch_is bytes at (Masked w m ∷ vs) end s h =
    read_known bytes at (stated_bits vs) (length vs) (Masked w m) vs
    (value_is bytes at (Masked w m) _ (front bytes at (value (Masked w m)) (flat_map if_stated vs) end s) h.0)
    (scratch_is bytes (at + 6) vs end (back bytes at (value (Masked w m)) (flat_map if_stated vs) end s) h.1)

-- a value that is stated is not bad
value_stated : (bytes : List ℕ) (at : ℕ) (v : AVal) (t : ℕ) (end : ℕ) → Stands bytes at (value v) end → IsValue v
    → slice_index bytes at ≡ suc t → IsBadStated bytes at → ⊥
value_stated bytes at v t end s h tag (IsBadStated.value bad) = value_not_bad bytes at v end s h bad
value_stated bytes at v t end s h tag (IsBadStated.unknown room none) = omega (arith, tag, none)

known_not_bad : (bytes : List ℕ) (at n : ℕ) (k : ℕ) → (IsBadStated bytes at → ⊥)
    → ((j : ℕ) → j < n → IsBadStated bytes (at + 6 + 6 * j) → ⊥)
    → k < suc n → IsBadStated bytes (at + 6 * k) → ⊥
known_not_bad bytes at n zero first rest h bad = first (subst (λ p. IsBadStated bytes p) (omega arith) bad)
known_not_bad bytes at n (suc k) first rest h bad = rest k (omega arith) (subst (λ p. IsBadStated bytes p) (omega arith) bad)

pub scratch_not_bad : (bytes : List ℕ) (at : ℕ) (vs : List AVal) (end : ℕ) → Stands bytes at (flat_map if_stated vs) end
    → AllByRecursion IsValue vs
    → (k : ℕ) → k < ones (stated_bits vs) (length vs) → IsBadStated bytes (at + 6 * k) → ⊥
unfolding ones
scratch_not_bad bytes at [] end s h k less bad = omega (arith, less)
scratch_not_bad bytes at (Unknown ∷ vs) end s h k less bad =
    scratch_not_bad bytes at vs end s h.1 k
    (omega (
      arith,
      less,
      ones_more (0 + 2 * stated_bits vs) (length vs),
      ap (λ s. ones s (length vs)) (later_bits 0 (stated_bits vs) (omega arith)),
    )) bad
scratch_not_bad bytes at (Const c ∷ vs) end s h k less bad =
    let first = front bytes at (value (Const c)) (flat_map if_stated vs) end s in
    known_not_bad bytes at (ones (stated_bits vs) (length vs)) k
    (value_stated bytes at (Const c) 0 _ first h.0 (byte_is bytes at 1 _ _ first))
    (scratch_not_bad bytes (at + 6) vs end (back bytes at (value (Const c)) (flat_map if_stated vs) end s) h.1)
    (omega (
      arith,
      less,
      ones_more (1 + 2 * stated_bits vs) (length vs),
      ap (λ s. ones s (length vs)) (later_bits 1 (stated_bits vs) (omega arith)),
    )) bad
scratch_not_bad bytes at (Masked w m ∷ vs) end s h k less bad =
    let first = front bytes at (value (Masked w m)) (flat_map if_stated vs) end s in
    known_not_bad bytes at (ones (stated_bits vs) (length vs)) k
    (value_stated bytes at (Masked w m) 1 _ first h.0 (byte_is bytes at 2 _ _ first))
    (scratch_not_bad bytes (at + 6) vs end (back bytes at (value (Masked w m)) (flat_map if_stated vs) end s) h.1)
    (omega (
      arith,
      less,
      ones_more (1 + 2 * stated_bits vs) (length vs),
      ap (λ s. ones s (length vs)) (later_bits 1 (stated_bits vs) (omega arith)),
    )) bad

-- ---- the bits of the words from one on

stated_part : (n : ℕ) (vs : List AVal) → stated_bits (drop n vs) ≤ stated_bits vs
stated_part zero vs = omega arith
stated_part (suc n) [] = omega arith
stated_part (suc n) (v ∷ vs) = omega (arith, stated_part n vs)

pub one_bit_more : (vs : List AVal) (i : ℕ) (d : AVal) → length vs ≡ 16 → i < 16
    → stated_bits (drop (16 - (i + 1)) vs) ≡ 2 * stated_bits (drop (16 - i) vs) + bit_of (get_or vs (15 - i) d)
one_bit_more vs i d sixteen h =
    let here : 16 - (i + 1) ≡ 15 - i = omega arith in
    let next : 15 - i + 1 ≡ 16 - i = omega (arith, h) in
    ap (λ k. stated_bits (drop k vs)) here
    ∙ (ap stated_bits (drop_more vs (15 - i) d (omega (arith, sixteen, h)))
    ∙ (ap (λ k. bit_of (get_or vs (15 - i) d) + 2 * stated_bits (drop k vs)) next ∙ omega arith))

pub bits_fit : (vs : List AVal) (i : ℕ) → length vs ≡ 16 → stated_bits (drop i vs) < 2 ^ 16
bits_fit vs i sixteen = omega (arith, stated_part i vs, stated_below vs sixteen)

-- no bit, no stated value
pub none_from_bits : (vs : List AVal) → stated_bits vs ≡ 0 → vs ≡ replicate (length vs) Unknown
none_from_bits [] e = refl
none_from_bits (Unknown ∷ vs) e = ap (λ (ws : List AVal). Unknown ∷ ws) (none_from_bits vs (omega (arith, e)))
none_from_bits (Const c ∷ vs) e = absurd (omega (arith, e))
none_from_bits (Masked w m ∷ vs) e = absurd (omega (arith, e))

-- how many bytes they take
pub ones_few : (bits n : ℕ) → ones bits n ≤ n
unfolding ones
ones_few bits zero = omega arith
ones_few bits (suc n) = omega (arith, ones_few (bits / 2) n)

pub length-scratch : (vs : List AVal) → length vs ≡ 16 → length (scratch vs) ≡ 2 + 6 * ones (stated_bits vs) 16
length-scratch vs sixteen =
    omega (
      arith,
      length-append (little_bytes 2 (stated_bits vs)) (flat_map if_stated vs),
      length-stated vs,
      ap (λ k. ones (stated_bits vs) k) sixteen,
    )
