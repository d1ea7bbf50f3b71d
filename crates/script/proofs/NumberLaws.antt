-- A text is read as a number exactly where it is one.
use Rattle.std.proofs.Common.{◌≡◌, ℕ, ◌<◌, ◌^◌, true, cond, List, ◌++◌, refl, ap, ◌∙◌, inl, inr, subst}
use Rattle.std.specs.Prelude.{Option, Some, None, nat_lt, codes}
use Rattle.std.specs.Char.{is_ascii_digit}
use Rattle.texts.specs.Digits.{are_digits}
use Rattle.texts.specs.Splits.{behind}
use Rattle.texts.specs.Numbers.{IsDecimal}
use Rattle.texts.proofs.Splits.{behind_sound}
use Rattle.texts.proofs.NumberLaws.{decimal_at-is, decimal_at-some, hexadecimal_at-is, hexadecimal_at-some, sized, unsized}
use Rattle.texts.proofs.Options.{bind_some}
use Rattle.script.specs.Numbers.{IsNumber}
use Rattle.script.specs.inner.Reading.{marked_number, number_at, number32_at}

pub number_at-some : (text : List ℕ) (n : ℕ) → number_at text ≡ Some n → IsNumber text n
unfolding number_at
number_at-some text n h = by_mark (behind (codes "0x") text) refl h where
  by_mark : (o : Option (List ℕ)) → behind (codes "0x") text ≡ o → marked_number o text ≡ Some n → IsNumber text n
  by_mark (Some ds) e g =
      let r = hexadecimal_at-some ds n g in
      (r.0, inr (record { ds = ds; marked = behind_sound (codes "0x") text ds e; written = r.1 }))
  by_mark None e g = let r = decimal_at-some text n g in (r.0, inl r.1)

-- a decimal number does not begin with the mark of hexadecimal
marked_is_not_decimal : (ds : List ℕ) → are_digits is_ascii_digit (codes "0x" ++ ds) ≡ true → ⊥
marked_is_not_decimal ds h = cc

no_mark : (text : List ℕ) (n : ℕ) → IsDecimal text n → behind (codes "0x") text ≡ None
no_mark text n w = by_mark (behind (codes "0x") text) refl where
  by_mark : (o : Option (List ℕ)) → behind (codes "0x") text ≡ o → o ≡ None
  by_mark None e = refl
  by_mark (Some ds) e =
      let P : List ℕ → Type 0 = λ t. are_digits is_ascii_digit t ≡ true in
      absurd (marked_is_not_decimal ds (subst P (behind_sound (codes "0x") text ds e) w.digits))

pub number_at-is : (text : List ℕ) (n : ℕ) → IsNumber text n → number_at text ≡ Some n
unfolding number_at
number_at-is text n (small, inl w) = ap (λ o. marked_number o text) (no_mark text n w) ∙ decimal_at-is text n small w
number_at-is text n (small, inr w) = ap number_at w.marked ∙ hexadecimal_at-is w.ds n small w.written

pub number32_at-some : (text : List ℕ) (n : ℕ) → number32_at text ≡ Some n → IsNumber text n × (n < 2 ^ 32)
unfolding number32_at
number32_at-some text n h =
    let b = bind_some (number_at text) (λ m. cond (nat_lt m (2 ^ 32)) (Some m) None) n h in
    let s = sized (2 ^ 32) b.0 n b.2 in
    (number_at-some text n (b.1 ∙ ap Some s.0), s.1)

pub number32_at-is : (text : List ℕ) (n : ℕ) → IsNumber text n → n < 2 ^ 32 → number32_at text ≡ Some n
unfolding number32_at
number32_at-is text n is small = rw (number_at-is text n is) (unsized (2 ^ 32) n n refl small)
