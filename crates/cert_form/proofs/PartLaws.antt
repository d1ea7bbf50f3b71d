-- Values and literals: what is judged sound is spelled so, and what is spelled is read and is not bad.
use Rattle.std.proofs.Common.{◌≡◌, ℕ, zero, suc, ◌+◌, ◌<◌, ◌≤◌, ◌^◌, List, [], ◌∷◌, ◌++◌, length, refl, sym, arith}
use Rattle.std.specs.Prelude.{◌≢◌, slice_index, bit_and}
use Rattle.std.proofs.lemmas.Nat.{and_le_r}
use Rattle.std.proofs.lemmas.List.{append-nil}
use Rattle.byteorder.specs.Endian.{little_bytes}
use Rattle.cert_state.specs.declared.literal.Lit.{Lit}
use Rattle.cert_state.specs.declared.literal.Lit.TheVariants.{In, Bits, NotBits}
use Rattle.cert_state.specs.declared.literal.AVal.{AVal}
use Rattle.cert_state.specs.declared.literal.AVal.TheVariants.{Unknown, Const, Masked}
use Rattle.cert_state.specs.Literals.{IsLit, IsValue}
use Rattle.cert_form.specs.Spelling.{value, literal}
use Rattle.cert_form.specs.Reading.{long_at, value_at, literal_at, tagged_value, tagged_literal}
use Rattle.cert_form.specs.Faults.{IsBadValue, IsBadLiteral}
use Rattle.cert_form.specs.inner.Standing.{Stands, IsValueThere, IsLiteralThere}
use Rattle.cert_form.proofs.StandLaws.{AreBytes, both, front, back, other, ended, byte_stands, byte_is, long_stands, long_is, long_below}

pub length-literal : (l : Lit) → length (literal l) ≡ 10
length-literal (In w p q) = refl
length-literal (Bits w m d) = refl
length-literal (NotBits w m d) = refl

pub length-value : (v : AVal) → length (value v) ≡ 6
length-value Unknown = refl
length-value (Const c) = refl
length-value (Masked w m) = refl

-- ---- values

sound_value : (t w n : ℕ) → t ≤ 2 → w ≤ 15 → n < 2 ^ 32 → (t ≢ 2 → w ≡ 0) → (t ≡ 0 → n ≡ 0)
    → (t ∷ w ∷ little_bytes 4 n ≡ value (tagged_value t w n)) × IsValue (tagged_value t w n)
sound_value zero w n h small below word number = (rw (word (λ e. omega (arith, e)), number refl) refl, tt)
sound_value (suc zero) w n h small below word number = (rw (word (λ e. omega (arith, e))) refl, below)
sound_value (suc (suc zero)) w n h small below word number = (refl, (omega arith, below))
sound_value (suc (suc (suc t))) w n h small below word number = absurd (omega arith)

-- two bytes and a number
pub pair_stands : (bytes : List ℕ) (at : ℕ) → AreBytes bytes → at + 6 ≤ length bytes
    → Stands bytes at (slice_index bytes at ∷ slice_index bytes (at + 1) ∷ little_bytes 4 (long_at bytes (at + 2))) (at + 6)
pair_stands bytes at small room =
    let t : ℕ = slice_index bytes at in
    let w : ℕ = slice_index bytes (at + 1) in
    let second : Stands bytes (at + 1) (w ∷ []) (at + 2) = ended bytes (at + 1) (w ∷ []) (at + 1 + 1) (at + 2)
    (byte_stands bytes (at + 1) (omega arith)) (omega arith) in
    let number : Stands bytes (at + 2) (little_bytes 4 (long_at bytes (at + 2))) (at + 6) =
    ended bytes (at + 2) _ (at + 2 + 4) (at + 6) (long_stands bytes (at + 2) small (omega arith)) (omega arith) in
    both bytes at (t ∷ w ∷ []) (at + 2) (at + 2) (little_bytes 4 (long_at bytes (at + 2))) (at + 6)
    (both bytes at (t ∷ []) (at + 1) (at + 1) (w ∷ []) (at + 2) (byte_stands bytes at (omega arith)) second refl) number refl

pub value_there : (bytes : List ℕ) (at : ℕ) → AreBytes bytes → at + 6 ≤ length bytes → slice_index bytes at ≤ 2
    → slice_index bytes (at + 1) ≤ 15
    → (slice_index bytes at ≢ 2 → slice_index bytes (at + 1) ≡ 0) → (slice_index bytes at ≡ 0 → long_at bytes (at + 2) ≡ 0)
    → IsValueThere bytes at
unfolding value_at
value_there bytes at small room tag below word number =
    let fields = sound_value (slice_index bytes at) (slice_index bytes (at + 1)) (long_at bytes (at + 2)) tag below
    (long_below bytes (at + 2) small) word number in
    record { stands = other bytes at _ _ (at + 6) (pair_stands bytes at small room) fields.0; good = fields.1 }

-- the fields of what stands there
pub fields_are : (bytes : List ℕ) (at t w n : ℕ) (more : List ℕ) (end : ℕ) → Stands bytes at (t ∷ w ∷ little_bytes 4 n ++ more) end
    → n < 2 ^ 32
    → (slice_index bytes at ≡ t) × (slice_index bytes (at + 1) ≡ w) × (long_at bytes (at + 2) ≡ n)
fields_are bytes at t w n more end p h = (
  byte_is bytes at t _ end p,
  byte_is bytes (at + 1) w _ end (back bytes at (t ∷ []) (w ∷ little_bytes 4 n ++ more) end p),
  long_is bytes (at + 2) n _ (front bytes (at + 2) (little_bytes 4 n) more end
      (back bytes at (t ∷ w ∷ []) (little_bytes 4 n ++ more) end p)) h,
)

value_fields : (bytes : List ℕ) (at t w n end : ℕ) → Stands bytes at (t ∷ w ∷ little_bytes 4 n) end → n < 2 ^ 32
    → (slice_index bytes at ≡ t) × (slice_index bytes (at + 1) ≡ w) × (long_at bytes (at + 2) ≡ n)
value_fields bytes at t w n end p h = fields_are bytes at t w n [] end
    (other bytes at _ _ end p (sym (append-nil (t ∷ w ∷ little_bytes 4 n)))) h

pub value_is : (bytes : List ℕ) (at : ℕ) (v : AVal) (end : ℕ) → Stands bytes at (value v) end → IsValue v → value_at bytes at ≡ v
unfolding value_at
value_is bytes at Unknown end p h = let f = value_fields bytes at 0 0 0 end p (omega arith) in rw f.0 refl
value_is bytes at (Const c) end p h = let f = value_fields bytes at 1 0 c end p h in rw (f.0, f.2) refl
value_is bytes at (Masked w m) end p h = let f = value_fields bytes at 2 w m end p h.1 in rw (f.0, f.1, f.2) refl

-- what such fields can not be
not_bad_fields : (bytes : List ℕ) (at : ℕ) → slice_index bytes at ≤ 2 → slice_index bytes (at + 1) ≤ 15
    → (slice_index bytes at ≢ 2 → slice_index bytes (at + 1) ≡ 0) → (slice_index bytes at ≡ 0 → long_at bytes (at + 2) ≡ 0)
    → IsBadValue bytes at → ⊥
not_bad_fields bytes at tag word no_word no_number (IsBadValue.tag room bad) = omega (arith, tag, bad)
not_bad_fields bytes at tag word no_word no_number (IsBadValue.word room bad) = omega (arith, word, bad)
not_bad_fields bytes at tag word no_word no_number (IsBadValue.unused_word room free bad) = bad (no_word free)
not_bad_fields bytes at tag word no_word no_number (IsBadValue.unused_number room none bad) = bad (no_number none)

pub value_not_bad : (bytes : List ℕ) (at : ℕ) (v : AVal) (end : ℕ) → Stands bytes at (value v) end → IsValue v → IsBadValue bytes at → ⊥
value_not_bad bytes at Unknown end p h = let f = value_fields bytes at 0 0 0 end p (omega arith) in
    not_bad_fields bytes at (omega (arith, f.0)) (omega (arith, f.1)) (λ _. f.1) (λ _. f.2)
value_not_bad bytes at (Const c) end p h = let f = value_fields bytes at 1 0 c end p h in
    not_bad_fields bytes at (omega (arith, f.0)) (omega (arith, f.1)) (λ _. f.1) (λ e. absurd (omega (arith, e, f.0)))
value_not_bad bytes at (Masked w m) end p h = let f = value_fields bytes at 2 w m end p h.1 in
    not_bad_fields bytes at (omega (arith, f.0)) (omega (arith, f.1, h.0)) (λ other. absurd (other f.0))
    (λ e. absurd (omega (arith, e, f.0)))

-- ---- literals

sound_literal : (t w p q : ℕ) → (t ≡ 0 → ⊥) → t ≤ 3 → w ≤ 15 → p < 2 ^ 32 → q < 2 ^ 32 → (t ≢ 1 → bit_and q p ≡ q)
    → (t ∷ w ∷ little_bytes 4 p ++ little_bytes 4 q ≡ literal (tagged_literal t w p q)) × IsLit (tagged_literal t w p q)
sound_literal zero w p q some h small below_p below_q within = absurd (some refl)
sound_literal (suc zero) w p q some h small below_p below_q within = (refl, (omega arith, below_p, below_q))
sound_literal (suc (suc zero)) w p q some h small below_p below_q within = (refl, (omega arith, below_p, within (λ e. omega (arith, e))))
sound_literal (suc (suc (suc zero))) w p q some h small below_p below_q within =
    (refl, (omega arith, below_p, within (λ e. omega (arith, e))))
sound_literal (suc (suc (suc (suc t)))) w p q some h small below_p below_q within = absurd (omega arith)

pub literal_there : (bytes : List ℕ) (at : ℕ) → AreBytes bytes → at + 10 ≤ length bytes → (slice_index bytes at ≡ 0 → ⊥)
    → slice_index bytes at ≤ 3
    → slice_index bytes (at + 1) ≤ 15 → (slice_index bytes at ≢ 1
    → bit_and (long_at bytes (at + 6)) (long_at bytes (at + 2)) ≡ long_at bytes (at + 6))
    → IsLiteralThere bytes at
unfolding literal_at
literal_there bytes at small room some tag word within =
    let fields = sound_literal (slice_index bytes at) (slice_index bytes (at + 1)) (long_at bytes (at + 2))
    (long_at bytes (at + 6)) some tag word
    (long_below bytes (at + 2) small) (long_below bytes (at + 6) small) within in
    let second : Stands bytes (at + 6) (little_bytes 4 (long_at bytes (at + 6))) (at + 10) =
    ended bytes (at + 6) _ (at + 6 + 4) (at + 10) (long_stands bytes (at + 6) small (omega arith)) (omega arith) in
    record {
      stands = other bytes at _ _ (at + 10) (both bytes at _ (at + 6) (at + 6) _ (at + 10)
          (pair_stands bytes at small (omega arith)) second refl) fields.0;
      good = fields.1;
    }

pub second_is : (bytes : List ℕ) (at t w p q end : ℕ) → Stands bytes at (t ∷ w ∷ little_bytes 4 p ++ little_bytes 4 q) end → q < 2 ^ 32
    → long_at bytes (at + 6) ≡ q
second_is bytes at t w p q end s h = long_is bytes (at + 6) q end (back bytes at (t ∷ w ∷ little_bytes 4 p) (little_bytes 4 q) end s) h

within_limit : (d m : ℕ) → m < 2 ^ 32 → bit_and d m ≡ d → d < 2 ^ 32
within_limit d m h e = omega (arith, h, e, and_le_r d m)

pub literal_is : (bytes : List ℕ) (at : ℕ) (l : Lit) (end : ℕ) → Stands bytes at (literal l) end → IsLit l → literal_at bytes at ≡ l
unfolding literal_at
literal_is bytes at (In w p q) end s h =
    let f = fields_are bytes at 1 w p (little_bytes 4 q) end s h.1 in rw (f.0, f.1, f.2, second_is bytes at 1 w p q end s h.2) refl
literal_is bytes at (Bits w m d) end s h =
    let f = fields_are bytes at 2 w m (little_bytes 4 d) end s h.1 in
    rw (f.0, f.1, f.2, second_is bytes at 2 w m d end s (within_limit d m h.1 h.2)) refl
literal_is bytes at (NotBits w m d) end s h =
    let f = fields_are bytes at 3 w m (little_bytes 4 d) end s h.1 in
    rw (f.0, f.1, f.2, second_is bytes at 3 w m d end s (within_limit d m h.1 h.2)) refl

not_bad_literal : (bytes : List ℕ) (at : ℕ) → (slice_index bytes at ≡ 0 → ⊥) → slice_index bytes at ≤ 3 → slice_index bytes (at + 1) ≤ 15
    → (slice_index bytes at ≢ 1 → bit_and (long_at bytes (at + 6)) (long_at bytes (at + 2)) ≡ long_at bytes (at + 6))
    → IsBadLiteral bytes at → ⊥
not_bad_literal bytes at some tag word within (IsBadLiteral.no_tag room bad) = some bad
not_bad_literal bytes at some tag word within (IsBadLiteral.tag room bad) = omega (arith, tag, bad)
not_bad_literal bytes at some tag word within (IsBadLiteral.word room bad) = omega (arith, word, bad)
not_bad_literal bytes at some tag word within (IsBadLiteral.datum room masked bad) = bad (within masked)

pub literal_not_bad : (bytes : List ℕ) (at : ℕ) (l : Lit) (end : ℕ) → Stands bytes at (literal l) end → IsLit l → IsBadLiteral bytes at → ⊥
literal_not_bad bytes at (In w p q) end s h =
    let f = fields_are bytes at 1 w p (little_bytes 4 q) end s h.1 in
    not_bad_literal bytes at (λ e. omega (arith, e, f.0)) (omega (arith, f.0)) (omega (arith, f.1, h.0)) (λ other. absurd (other f.0))
literal_not_bad bytes at (Bits w m d) end s h =
    let f = fields_are bytes at 2 w m (little_bytes 4 d) end s h.1 in
    let g = second_is bytes at 2 w m d end s (within_limit d m h.1 h.2) in
    not_bad_literal bytes at (λ e. omega (arith, e, f.0)) (omega (arith, f.0)) (omega (arith, f.1, h.0)) (λ _. rw (f.2, g) h.2)
literal_not_bad bytes at (NotBits w m d) end s h =
    let f = fields_are bytes at 3 w m (little_bytes 4 d) end s h.1 in
    let g = second_is bytes at 3 w m d end s (within_limit d m h.1 h.2) in
    not_bad_literal bytes at (λ e. omega (arith, e, f.0)) (omega (arith, f.0)) (omega (arith, f.1, h.0)) (λ _. rw (f.2, g) h.2)
