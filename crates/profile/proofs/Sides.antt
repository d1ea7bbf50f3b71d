-- Two conditions on one number: the bits of both, and the sides on which a condition goes on to hold.
use Rattle.std.proofs.Common.{◌≡◌, ℕ, ◌+◌, ◌-◌, ◌%◌, ◌<◌, ◌≤◌, ◌^◌, ◌⊎◌, inl, inr, Bool, true, false, bit_and, bit_or, min, max, refl}
use Rattle.std.proofs.Common.{sym, ◌∙◌, ap, subst, arith}
use Rattle.std.proofs.lemmas.Nat.{and_assoc, and_comm, and_mask, and_or_self, and_or_apart, and-not, or_comm, or_lt, and_le_l, and_le_r}
use Rattle.std.specs.Int.Bits.{and_self, or_add_and}
use Rattle.std.proofs.lemmas.Nat.Bits.{same_from_bits, bit_at_and, bit_at_or}
use Rattle.std.proofs.lemmas.Bool.{cases_lt}
use Rattle.std.specs.Int.{bit_at}
use Rattle.profile.specs.declared.conditions.Cond.{Cond}
use Rattle.profile.specs.declared.conditions.Op.{Op}
use Rattle.profile.specs.declared.conditions.Op.TheVariants.{Ne, Lt, Le, Eq, Ge, Gt, MaskedEq}
use Rattle.profile.specs.Operator.{mask_of, Compares}
use Rattle.profile.specs.Condition.{Meets}
use Rattle.profile.specs.inner.Meeting.{HaveCommon, BothMeet, greatest, least_of, greatest_of}

spread : (a b c : ℕ) → min a (max b c) ≡ max (min a b) (min a c)
spread a b c = omega arith

-- `v & (m | n)` is `v & m | v & n`
pub and-or : (v m n : ℕ) → bit_and v (bit_or m n) ≡ bit_or (bit_and v m) (bit_and v n)
and-or v m n = same_from_bits (bit_and v (bit_or m n)) (bit_or (bit_and v m) (bit_and v n))
    (λ i.
    bit_at_and v (bit_or m n) i ∙ ap (min (bit_at v i)) (bit_at_or m n i)
    ∙ spread (bit_at v i) (bit_at m i) (bit_at n i)
    ∙ sym (bit_at_or (bit_and v m) (bit_and v n) i ∙ ap (λ x. max x (bit_at (bit_and v n) i)) (bit_at_and v m i)
    ∙ ap (max (min (bit_at v i) (bit_at m i))) (bit_at_and v n i)))

-- what has the bits of v under both masks has them under each
pub left_bits : (u v m n : ℕ) → bit_and u (bit_or m n) ≡ bit_and v (bit_or m n) → bit_and u m ≡ bit_and v m
left_bits u v m n h =
    let part : bit_and (bit_or m n) m ≡ m = ap (λ x. bit_and x m) (or_comm m n) ∙ and_or_self m n in
    let at_u : bit_and (bit_and u (bit_or m n)) m ≡ bit_and u m = and_assoc m u (bit_or m n) ∙ ap (bit_and u) part in
    let at_v : bit_and (bit_and v (bit_or m n)) m ≡ bit_and v m = and_assoc m v (bit_or m n) ∙ ap (bit_and v) part in
    sym at_u ∙ ap (λ x. bit_and x m) h ∙ at_v

pub right_bits : (u v m n : ℕ) → bit_and u (bit_or m n) ≡ bit_and v (bit_or m n) → bit_and u n ≡ bit_and v n
right_bits u v m n h = left_bits u v n m (ap (bit_and u) (or_comm n m) ∙ h ∙ ap (bit_and v) (or_comm m n))

-- no bits at all
s0 : (x d v : ℕ) → bit_and d 0 ≡ d → bit_and v 0 ≡ d
s0 x d v s = let a : bit_and d 0 ≤ 0 = and_le_r d 0 in let b : bit_and v 0 ≤ 0 = and_le_r v 0 in omega arith

-- what holds of v has its datum's bits
pub bits_of : (op : Op) (value datum v : ℕ) → bit_and datum (mask_of op value) ≡ datum → Compares op value datum v
    → bit_and v (mask_of op value) ≡ datum
bits_of Ne x d v s h = s0 x d v s
bits_of Lt x d v s h = s0 x d v s
bits_of Le x d v s h = s0 x d v s
bits_of Eq x d v s h = s0 x d v s
bits_of Ge x d v s h = s0 x d v s
bits_of Gt x d v s h = s0 x d v s
bits_of MaskedEq x d v s h = h

-- ---- the least and the greatest number with given bits

least_has_bits : (v m : ℕ) → bit_and (bit_and v m) m ≡ bit_and v m
least_has_bits v m = and_assoc m v m ∙ ap (bit_and v) (and_self m)

no_bits : (v : ℕ) → bit_and v 0 ≡ 0
no_bits v = let none : bit_and v 0 ≤ 0 = and_le_r v 0 in omega arith

-- the bits outside a mask
apart : (m : ℕ) → m < 2 ^ 64 → bit_and (2 ^ 64 - 1 - m) m ≡ 0
apart m lt =
    let parts : bit_and (2 ^ 64 - 1 - m) m + bit_and m m ≡ m = and-not 64 m m lt lt in
    let whole : bit_and m m ≡ m = and_self m in
    omega arith

-- the greatest number that may be compared has all of the bits that a number may have
whole : (narrow : Bool) (v : ℕ) → v ≤ greatest narrow → bit_and v (greatest narrow) ≡ v
whole true v le = let low : v % 2 ^ 32 ≡ v = omega (arith, le) in and_mask v 32 ∙ low
whole false v le = let low : v % 2 ^ 64 ≡ v = omega (arith, le) in and_mask v 64 ∙ low

joined_fits : (narrow : Bool) (u v : ℕ) → u ≤ greatest narrow → v ≤ greatest narrow → bit_or u v ≤ greatest narrow
joined_fits true u v left right = let lt : bit_or u v < 2 ^ 32 = or_lt 32 u v (omega (arith, left)) (omega (arith, right)) in omega (arith, lt)
joined_fits false u v left right = let lt : bit_or u v < 2 ^ 64 = or_lt 64 u v (omega (arith, left)) (omega (arith, right)) in omega (arith, lt)

pub greatest_fits : (narrow : Bool) → greatest narrow < 2 ^ 64
greatest_fits true = omega arith
greatest_fits false = omega arith

-- those outside a mask
abbrev free : Bool → ℕ → ℕ
free narrow m = bit_and (greatest narrow) (2 ^ 64 - 1 - m)

free_apart : (narrow : Bool) (m : ℕ) → m < 2 ^ 64 → bit_and (free narrow m) m ≡ 0
free_apart narrow m lt =
    and_assoc m (greatest narrow) (2 ^ 64 - 1 - m) ∙ ap (bit_and (greatest narrow)) (apart m lt) ∙ no_bits (greatest narrow)

greatest_has_bits : (narrow : Bool) (d m : ℕ) → m < 2 ^ 64 → bit_and (bit_or d (free narrow m)) m ≡ bit_and d m
greatest_has_bits narrow d m lt = and_or_apart m d (free narrow m) (free_apart narrow m lt)

greatest_above : (narrow : Bool) (v m : ℕ) → m < 2 ^ 64 → v ≤ greatest narrow → v ≤ bit_or (bit_and v m) (free narrow m)
greatest_above narrow v m lt within =
    let others : ℕ = 2 ^ 64 - 1 - m in
    let rest : ℕ = free narrow m in
    let in-range : v < 2 ^ 64 = omega (arith, within, greatest_fits narrow) in
    let shared : bit_and (bit_and v m) rest ≡ 0 =
    and_assoc rest v m ∙ ap (bit_and v) (and_comm m rest ∙ free_apart narrow m lt) ∙ no_bits v in
    let joined : bit_or (bit_and v m) rest + bit_and (bit_and v m) rest ≡ bit_and v m + rest = or_add_and (bit_and v m) rest in
    let parts : bit_and others v + bit_and m v ≡ v = and-not 64 m v lt in-range in
    let same : bit_and m v ≡ bit_and v m = and_comm m v in
    let within-rest : bit_and v rest ≡ bit_and v others =
    sym (and_assoc others v (greatest narrow)) ∙ ap (λ (x : ℕ). bit_and x others) (whole narrow v within) in
    let turned : bit_and others v ≡ bit_and v others = and_comm others v in
    let small : bit_and v rest ≤ rest = and_le_r v rest in
    omega arith

-- ---- on which side of a number a condition goes on to hold

-- where it holds of v, of all below with the same bits, of all above with the same bits, or of v alone
data Side (op : Op) (value datum v : ℕ) : Type 0 where
  bits : ((u : ℕ) → bit_and u (mask_of op value) ≡ bit_and v (mask_of op value) → Compares op value datum u) → Side op value datum v
  falls : ((u : ℕ) → u ≤ v → Compares op value datum u) → Side op value datum v
  rises : ((u : ℕ) → v ≤ u → Compares op value datum u) → (e : ℕ) → e ≤ v → (e ≡ value) ⊎ (e ≡ value + 1) → Compares op value datum e
      → Side op value datum v
  alone : v ≡ value → Side op value datum v

side_of : (op : Op) (value datum v : ℕ) → Compares op value datum v → Side op value datum v
side_of Ne x d v h =
    elim (cases_lt v x) [
      | inl below ↦ falls (λ u le (e : u ≡ x). omega (arith, below, le, e))
      | inr past ↦
          let above : x < v = omega (arith, past, h) in
          rises (λ u ge (e : u ≡ x). omega (arith, above, ge, e)) (x + 1) (omega arith) (inr refl) (λ (e : x + 1 ≡ x). omega (arith, e))
    ]
side_of Lt x d v h = falls (λ u le. omega (arith, h, le))
side_of Le x d v h = falls (λ u le. omega (arith, h, le))
side_of Eq x d v h = alone h
side_of Ge x d v h = rises (λ u ge. omega (arith, h, ge)) x h (inl refl) (omega arith)
side_of Gt x d v h = rises (λ u ge. omega (arith, h, ge)) (x + 1) (omega (arith, h)) (inr refl) (omega arith)
side_of MaskedEq x d v h = bits (λ u same. same ∙ h)

-- ---- what one number that meets both gives

merged : (a b : Cond) (v : ℕ) → Meets a v → Meets b v
    → bit_and v (bit_or (mask_of a.op a.value) (mask_of b.op b.value)) ≡ least_of a b
merged a b v ha hb =
    let ma = mask_of a.op a.value in
    let mb = mask_of b.op b.value in
    let left : bit_and v ma ≡ a.datum = bits_of a.op a.value a.datum v a.no_stray ha in
    let right : bit_and v mb ≡ b.datum = bits_of b.op b.value b.datum v b.no_stray hb in
    and-or v ma mb ∙ ap (λ x. bit_or x (bit_and v mb)) left ∙ ap (bit_or a.datum) right

-- u is not above v, and has its bits under both masks
record IsBelow (a b : Cond) (v u : ℕ) : Type 0 where
  below : u ≤ v
  left : bit_and u (mask_of a.op a.value) ≡ bit_and v (mask_of a.op a.value)
  right : bit_and u (mask_of b.op b.value) ≡ bit_and v (mask_of b.op b.value)

-- u is not below v, may be compared, and has its bits
record IsAbove (narrow : Bool) (a b : Cond) (v u : ℕ) : Type 0 where
  above : v ≤ u
  within : u ≤ greatest narrow
  left : bit_and u (mask_of a.op a.value) ≡ bit_and v (mask_of a.op a.value)
  right : bit_and u (mask_of b.op b.value) ≡ bit_and v (mask_of b.op b.value)

below_both : (a b : Cond) (v : ℕ) → Meets a v → Meets b v → IsBelow a b v (least_of a b)
below_both a b v ha hb =
    let ma = mask_of a.op a.value in
    let mb = mask_of b.op b.value in
    let m : ℕ = bit_or ma mb in
    let is : bit_and v m ≡ least_of a b = merged a b v ha hb in
    let alike : bit_and (bit_and v m) m ≡ bit_and v m = least_has_bits v m in
    subst (IsBelow a b v) is
    (record { below = and_le_l v m; left = left_bits (bit_and v m) v ma mb alike; right = right_bits (bit_and v m) v ma mb alike })

above_both : (narrow : Bool) (a b : Cond) (v : ℕ) → v ≤ greatest narrow
    → bit_or (mask_of a.op a.value) (mask_of b.op b.value) < 2 ^ 64 → Meets a v → Meets b v → IsAbove narrow a b v (greatest_of narrow a b)
above_both narrow a b v within lt ha hb =
    let ma = mask_of a.op a.value in
    let mb = mask_of b.op b.value in
    let m : ℕ = bit_or ma mb in
    let u : ℕ = bit_or (bit_and v m) (free narrow m) in
    let alike : bit_and u m ≡ bit_and v m = greatest_has_bits narrow (bit_and v m) m lt ∙ least_has_bits v m in
    let small : bit_and v m ≤ v = and_le_l v m in
    subst (λ (d : ℕ). IsAbove narrow a b v (bit_or d (free narrow m))) (merged a b v ha hb)
    (record {
      above = greatest_above narrow v m lt within;
      within = joined_fits narrow (bit_and v m) (free narrow m) (omega (arith, small, within)) (and_le_l (greatest narrow) (2 ^ 64 - 1 - m));
      left = left_bits u v ma mb alike;
      right = right_bits u v ma mb alike;
    })

-- the numbers of which one meets both where any does
abbrev pub MeetNear : Bool → Cond → Cond → ℕ → Type 0
MeetNear narrow a b x = BothMeet narrow a b x ⊎ BothMeet narrow a b (x + 1)

abbrev pub Found : Bool → Cond → Cond → Type 0
Found narrow a b =
    BothMeet narrow a b (least_of a b)
    ⊎ (BothMeet narrow a b (greatest_of narrow a b) ⊎ (MeetNear narrow a b a.value ⊎ MeetNear narrow a b b.value))

near : (narrow : Bool) (a b : Cond) (x e v : ℕ) → v ≤ greatest narrow → e ≤ v → (e ≡ x) ⊎ (e ≡ x + 1) → Meets a e → Meets b e
    → MeetNear narrow a b x
near narrow a b x e v within le (inl here) ha hb = inl (subst (BothMeet narrow a b) here (omega (arith, le, within), ha, hb))
near narrow a b x e v within le (inr after) ha hb = inr (subst (BothMeet narrow a b) after (omega (arith, le, within), ha, hb))

-- what one number that meets both says of the least and the greatest with its bits
record Spread (narrow : Bool) (a b : Cond) (v : ℕ) : Type 0 where
  within : v ≤ greatest narrow
  left : Meets a v
  right : Meets b v
  low : IsBelow a b v (least_of a b)
  high : IsAbove narrow a b v (greatest_of narrow a b)

at_left : (narrow : Bool) (a b : Cond) (v : ℕ) → Spread narrow a b v → v ≡ a.value → Found narrow a b
at_left narrow a b v s is = inr (inr (inl (inl (subst (BothMeet narrow a b) is (s.within, s.left, s.right)))))

at_right : (narrow : Bool) (a b : Cond) (v : ℕ) → Spread narrow a b v → v ≡ b.value → Found narrow a b
at_right narrow a b v s is = inr (inr (inr (inl (subst (BothMeet narrow a b) is (s.within, s.left, s.right)))))

at_least : (narrow : Bool) (a b : Cond) (v : ℕ) → Spread narrow a b v → Meets a (least_of a b) → Meets b (least_of a b) → Found narrow a b
at_least narrow a b v s ha hb = inl (omega (arith, s.low.below, s.within), ha, hb)

at_greatest : (narrow : Bool) (a b : Cond) (v : ℕ) → Spread narrow a b v → Meets a (greatest_of narrow a b)
    → Meets b (greatest_of narrow a b) → Found narrow a b
at_greatest narrow a b v s ha hb = inr (inl (s.high.within, ha, hb))

join : (narrow : Bool) (a b : Cond) (v : ℕ) → Spread narrow a b v → Side a.op a.value a.datum v → Side b.op b.value b.datum v
    → Found narrow a b
join narrow a b v s (alone is) other = at_left narrow a b v s is
join narrow a b v s (bits f) (alone is) = at_right narrow a b v s is
join narrow a b v s (bits f) (bits g) = at_least narrow a b v s (f (least_of a b) s.low.left) (g (least_of a b) s.low.right)
join narrow a b v s (bits f) (falls g) = at_least narrow a b v s (f (least_of a b) s.low.left) (g (least_of a b) s.low.below)
join narrow a b v s (bits f) (rises g e le at he) =
    at_greatest narrow a b v s (f (greatest_of narrow a b) s.high.left) (g (greatest_of narrow a b) s.high.above)
join narrow a b v s (falls f) (alone is) = at_right narrow a b v s is
join narrow a b v s (falls f) (bits g) = at_least narrow a b v s (f (least_of a b) s.low.below) (g (least_of a b) s.low.right)
join narrow a b v s (falls f) (falls g) = at_least narrow a b v s (f (least_of a b) s.low.below) (g (least_of a b) s.low.below)
join narrow a b v s (falls f) (rises g e le at he) = inr (inr (inr (near narrow a b b.value e v s.within le at (f e le) he)))
join narrow a b v s (rises f e le at he) (alone is) = at_right narrow a b v s is
join narrow a b v s (rises f e le at he) (bits g) =
    at_greatest narrow a b v s (f (greatest_of narrow a b) s.high.above) (g (greatest_of narrow a b) s.high.right)
join narrow a b v s (rises f e le at he) (falls g) = inr (inr (inl (near narrow a b a.value e v s.within le at he (g e le))))
join narrow a b v s (rises f e le at he) (rises g k ge to hk) =
    at_greatest narrow a b v s (f (greatest_of narrow a b) s.high.above) (g (greatest_of narrow a b) s.high.above)

pub found : (narrow : Bool) (a b : Cond) → bit_or (mask_of a.op a.value) (mask_of b.op b.value) < 2 ^ 64 → HaveCommon narrow a b
    → Found narrow a b
found narrow a b lt (v, within, ha, hb) =
    let spread : Spread narrow a b v = record {
      within = within;
      left = ha;
      right = hb;
      low = below_both a b v ha hb;
      high = above_both narrow a b v within lt ha hb;
    } in join narrow a b v spread (side_of a.op a.value a.datum v ha) (side_of b.op b.value b.datum v hb)

pub not_near : (narrow : Bool) (a b : Cond) (x : ℕ) → MeetNear narrow a b x → ¬ BothMeet narrow a b x → ¬ BothMeet narrow a b (x + 1) → ⊥
not_near narrow a b x (inl both) here after = here both
not_near narrow a b x (inr both) here after = after both
