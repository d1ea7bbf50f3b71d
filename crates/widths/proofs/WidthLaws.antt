-- What is compared of an argument, of a record and of the same with the bits at 0 that are not read.
use Rattle.std.proofs.Common.{◌≡◌, ℕ, zero, suc, ◌+◌, ◌*◌, ◌%◌, ◌-◌, ◌^◌, ◌<◌, ◌≤◌, ◌⊎◌, Bool, true, false, inl, inr, List, Some, None, length, get_or, map, bit_and, refl, sym, ◌∙◌, ap, subst, arith}
use Rattle.std.specs.Prelude.{Option, ◌↔◌, min, nat_le, slice_get, unwrap_or, option_map, if◌then◌else◌}
use Rattle.std.proofs.lemmas.Bool.{cases_Bool}
use Rattle.std.proofs.lemmas.Bool.Decides.{leb_tells}
use Rattle.std.proofs.lemmas.Nat.{and_mask, and_assoc, and_comm, mod_below, pow_pos}
use Rattle.std.proofs.Math.Nat.{mod-eq_of_lt}
use Rattle.std.proofs.Math.Pow.{mod-mod-pow, pow_mono}
use Rattle.call_record.specs.Words.{IsRecord, word, argument}
use Rattle.machines.specs.Width.{compared, is_narrow}
use Rattle.widths.specs.declared.arguments.reading.Reading.{Reading}
use Rattle.widths.specs.declared.arguments.reading.Reading.TheVariants.{NotTaken, Bits16, Bits32, Bits64, Pointer}
use Rattle.widths.specs.Reading.{bits_of}
use Rattle.widths.specs.Reads.{read_bits, readings, bits_in, is_all_read, cut_bits}
use Rattle.profile.specs.Rule.{argument_of}
use Rattle.widths.specs.Alike.{read_of, Alike, IsCleared}

-- ---- how many bits are read

abbrev IsWidth : ℕ → Type 0
IsWidth b = (b ≤ 32) ⊎ (b ≡ 64)

width_of : (x : Reading) → IsWidth (bits_of x)
width_of NotTaken = inr refl
width_of Bits16 = inl (omega arith)
width_of Bits32 = inl (omega arith)
width_of Bits64 = inr refl
width_of Pointer = inr refl

width_at : (o : Option Reading) → IsWidth (unwrap_or (option_map bits_of o) 64)
width_at None = inr refl
width_at (Some x) = width_of x

width_in : (o : Option (List Reading)) (j : ℕ) → IsWidth (bits_in o j)
width_in None j = inr refl
width_in (Some row) j = width_at (slice_get row j)

at_most_half : (b : ℕ) → min b 32 ≤ 32
at_most_half b = omega arith

narrow_bits : (token nr j : ℕ) → is_narrow token ≡ true → read_bits token nr j ≤ 32
unfolding read_bits
narrow_bits token nr j h = rw h (at_most_half (bits_in (readings token nr) j))

wide_bits : (token nr j : ℕ) → is_narrow token ≡ false → read_bits token nr j ≡ bits_in (readings token nr) j
unfolding read_bits
wide_bits token nr j h = rw h refl

pub width : (token nr j : ℕ) → IsWidth (read_bits token nr j)
width token nr j =
    elim (cases_Bool (is_narrow token)) [
      | inl narrow ↦ inl (narrow_bits token nr j narrow)
      | inr wide ↦ subst IsWidth (sym (wide_bits token nr j wide)) (width_in (readings token nr) j)
    ]

-- ---- where all that is compared is read

then_is : {A : Type 0} (b : Bool) (x y : A) → b ≡ true → (if b then x else y) ≡ x
then_is b x y h = rw h refl

else_is : {A : Type 0} (b : Bool) (x y : A) → b ≡ false → (if b then x else y) ≡ y
else_is b x y h = rw h refl

not_both : false ≡ true → ⊥
not_both e = cc

pub all_narrow : (token nr j : ℕ) → is_all_read token nr j ≡ true → is_narrow token ≡ true
all_narrow token nr j h =
    elim (cases_Bool (is_narrow token)) [
      | inl narrow ↦ narrow
      | inr wide ↦ absurd (not_both (sym (else_is (is_narrow token) (nat_le 32 (read_bits token nr j)) false wide) ∙ h))
    ]

pub all_is : (token nr j : ℕ) → is_all_read token nr j ≡ true → read_bits token nr j ≡ 32
all_is token nr j h =
    let narrow = all_narrow token nr j h in
    let few = narrow_bits token nr j narrow in
    let le : nat_le 32 (read_bits token nr j) ≡ true =
    sym (then_is (is_narrow token) (nat_le 32 (read_bits token nr j)) false narrow) ∙ h in
    elim (leb_tells 32 (read_bits token nr j)) [ inl t ↦ omega (arith, few, t.1) | inr f ↦ absurd (not_both (sym f.0 ∙ le)) ]

pub cut_whole : (token nr j : ℕ) → is_all_read token nr j ≡ true → cut_bits token nr j ≡ 64
cut_whole token nr j h = then_is (is_all_read token nr j) 64 (read_bits token nr j) h

pub cut_read : (token nr j : ℕ) → is_all_read token nr j ≡ false → cut_bits token nr j ≡ read_bits token nr j
cut_read token nr j h = else_is (is_all_read token nr j) 64 (read_bits token nr j) h

-- ---- arguments

pub argument_fits : (r : List ℕ) (j : ℕ) → IsRecord r → argument r j < 2 ^ 64
argument_fits r j is =
    let low = is.words (4 + 2 * j) in
    let top = is.words (5 + 2 * j) in
    omega (arith, low, top)

compared_narrow : (u : ℕ) (b : Bool) → b ≡ true → compared b u ≡ u % 2 ^ 32
compared_narrow u b h = rw h refl

compared_wide : (u : ℕ) (b : Bool) → b ≡ false → compared b u ≡ u
compared_wide u b h = rw h refl

-- of a machine with narrow arguments the lower half is compared
pub narrow_argument : (r : List ℕ) (j : ℕ) → is_narrow (word r 1) ≡ true → argument_of r j ≡ argument r j % 2 ^ 32
narrow_argument r j h = compared_narrow (argument r j) (is_narrow (word r 1)) h

pub wide_argument : (r : List ℕ) (j : ℕ) → is_narrow (word r 1) ≡ false → argument_of r j ≡ argument r j
wide_argument r j h = compared_wide (argument r j) (is_narrow (word r 1)) h

-- the lowest bits of the lower half are those of the whole
half_bits : (u b : ℕ) → b ≤ 32 → u % 2 ^ 32 % 2 ^ b ≡ u % 2 ^ b
half_bits u b le =
    let e : 32 ≡ (32 - b) + b = omega (arith, le) in
    ap (λ k. u % 2 ^ k % 2 ^ b) e ∙ mod-mod-pow u (32 - b) b

within_half : (u b : ℕ) → b ≤ 32 → u % 2 ^ b % 2 ^ 32 ≡ u % 2 ^ b
within_half u b le =
    let below = mod_below u (2 ^ b) (pow_pos b) in
    mod-eq_of_lt (omega (arith, below, pow_mono le))

-- the lowest bits that are read, of what is compared, are what is read
pub compared_read : (r : List ℕ) (j : ℕ) → argument_of r j % 2 ^ read_bits (word r 1) (word r 0) j ≡ read_of r j
compared_read r j =
    elim (cases_Bool (is_narrow (word r 1))) [
      | inl narrow ↦
          let b = read_bits (word r 1) (word r 0) j in
          ap (λ u. u % 2 ^ b) (narrow_argument r j narrow) ∙ half_bits (argument r j) b (narrow_bits (word r 1) (word r 0) j narrow)
      | inr wide ↦ ap (λ u. u % 2 ^ read_bits (word r 1) (word r 0) j) (wide_argument r j wide)
    ]

-- of the record with those bits alone, what is compared is what is read
pub compared_cleared : (r s : List ℕ) (j : ℕ) → j < 6 → IsCleared r s → argument_of s j ≡ read_of r j
compared_cleared r s j lt cleared =
    elim (cases_Bool (is_narrow (word r 1))) [
      | inl narrow ↦
          let b = read_bits (word r 1) (word r 0) j in
          let also : is_narrow (word s 1) ≡ true = ap is_narrow cleared.machine ∙ narrow in
          narrow_argument s j also
          ∙ ap (λ u. u % 2 ^ 32) (cleared.arguments j lt)
          ∙ within_half (argument r j) b (narrow_bits (word r 1) (word r 0) j narrow)
      | inr wide ↦
          let also : is_narrow (word s 1) ≡ false = ap is_narrow cleared.machine ∙ wide in
          wide_argument s j also ∙ cleared.arguments j lt
    ]

pub compared_fits : (r : List ℕ) (j : ℕ) → IsRecord r → argument_of r j < 2 ^ 64
compared_fits r j is =
    let fits = argument_fits r j is in
    elim (cases_Bool (is_narrow (word r 1))) [
      | inl narrow ↦ let e = narrow_argument r j narrow in omega (arith, e, fits)
      | inr wide ↦ let e = wide_argument r j wide in omega (arith, e, fits)
    ]

pub compared_below : (r : List ℕ) (j : ℕ) → is_narrow (word r 1) ≡ true → argument_of r j < 2 ^ 32
compared_below r j narrow = let e = narrow_argument r j narrow in omega (arith, e)

-- ---- masks of the lowest bits

mask_within : (m b : ℕ) → m < 2 ^ b → bit_and (2 ^ b - 1) m ≡ m
mask_within m b lt = and_comm (2 ^ b - 1) m ∙ and_mask m b ∙ mod-eq_of_lt lt

pub low_bits : (u m b : ℕ) → m < 2 ^ b → bit_and u m ≡ bit_and (u % 2 ^ b) m
low_bits u m b lt =
    sym (ap (λ x. bit_and x m) (sym (and_mask u b)) ∙ and_assoc m u (2 ^ b - 1) ∙ ap (bit_and u) (mask_within m b lt))

-- an argument that is read whole is what is read of it
pub whole_read : (r : List ℕ) (j : ℕ) → IsRecord r → 64 ≤ read_bits (word r 1) (word r 0) j → argument r j ≡ read_of r j
whole_read r j is le =
    let fits = argument_fits r j is in
    elim (width (word r 1) (word r 0) j) [
      | inl small ↦ absurd (omega (arith, small, le))
      | inr whole ↦ sym (mod-eq_of_lt fits) ∙ ap (λ b. argument r j % 2 ^ b) (sym whole)
    ]
