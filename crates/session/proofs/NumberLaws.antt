-- A text is read as a number exactly where it is one, and has no space then.
use Rattle.std.proofs.Common.{◌≡◌, ℕ, true, false, List, [], ◌∷◌, ◌++◌, refl, ap, ◌∙◌, inl, inr, subst, sym}
use Rattle.std.specs.Prelude.{◌==◌, not, Option, Some, None, codes, Bool}
use Rattle.std.specs.Char.{is_ascii_digit}
use Rattle.std.specs.List.{list_all}
use Rattle.std.proofs.lemmas.Bool.{and_parts, eqb-false, not-true}
use Rattle.texts.specs.Digits.{are_digits, is_hexadecimal_digit}
use Rattle.texts.specs.Lines.{space}
use Rattle.texts.specs.Splits.{behind}
use Rattle.texts.specs.Numbers.{IsDecimal, decimal_at}
use Rattle.texts.proofs.Splits.{Lacks, behind_sound, lacks_append}
use Rattle.texts.proofs.NumberLaws.{decimal_at-is, decimal_at-some, hexadecimal_at-is, hexadecimal_at-some}
use Rattle.script.specs.Grammar.{lacks}
use Rattle.script.specs.Numbers.{IsNumber}
use Rattle.script.specs.inner.Reading.{marked_number, number_at}

pub number_at-some : (text : List ℕ) (n : ℕ) → number_at text ≡ Some n → IsNumber text n
unfolding number_at
number_at-some text n h = by_mark (behind (codes "0x") text) refl h where
  by_mark : (o : Option (List ℕ)) → behind (codes "0x") text ≡ o → marked_number o text ≡ Some n → IsNumber text n
  by_mark (Some ds) e g =
      let r = hexadecimal_at-some ds n g in
      (r.0, inr (record { ds = ds; marked = behind_sound (codes "0x") text ds e; written = r.1 }))
  by_mark None e g = let r = decimal_at-some text n g in (r.0, inl r.1)

-- a decimal number does not begin with the mark of hexadecimal
marked_is_not_decimal : (ds : List ℕ) → are_digits is_ascii_digit (codes "0x" ++ ds) ≡ true → ⊥
marked_is_not_decimal ds h = cc

no_mark : (text : List ℕ) (n : ℕ) → IsDecimal text n → behind (codes "0x") text ≡ None
no_mark text n w = by_mark (behind (codes "0x") text) refl where
  by_mark : (o : Option (List ℕ)) → behind (codes "0x") text ≡ o → o ≡ None
  by_mark None e = refl
  by_mark (Some ds) e =
      let P : List ℕ → Type 0 = λ t. are_digits is_ascii_digit t ≡ true in
      absurd (marked_is_not_decimal ds (subst P (behind_sound (codes "0x") text ds e) w.digits))

pub number_at-is : (text : List ℕ) (n : ℕ) → IsNumber text n → number_at text ≡ Some n
unfolding number_at
number_at-is text n (small, inl w) = ap (λ o. marked_number o text) (no_mark text n w) ∙ decimal_at-is text n small w
number_at-is text n (small, inr w) = ap number_at w.marked ∙ hexadecimal_at-is w.ds n small w.written

-- the word is no number
pub continue_is_none : number_at (codes "continue") ≡ None
unfolding number_at decimal_at
continue_is_none = refl

-- A number has no space.

pub from_test : (text : List ℕ) → lacks space text ≡ true → Lacks space text
from_test [] h = tt
from_test (b ∷ text) h =
    let parts = and_parts (not (b == space)) (lacks space text) h in
    (eqb-false b space (not-true (b == space) parts.0), from_test text parts.1)

all_lack : (is_digit : ℕ → Bool) → is_digit space ≡ false → (ds : List ℕ) → list_all is_digit ds ≡ true → Lacks space ds
all_lack is_digit other [] h = tt
all_lack is_digit other (d ∷ ds) h =
    let parts = and_parts (is_digit d) (list_all is_digit ds) h in
    ((λ e. not_it e parts.0), all_lack is_digit other ds parts.1) where
      not_it : d ≡ space → is_digit d ≡ true → ⊥
      not_it e g = cc

digits_lack : (is_digit : ℕ → Bool) → is_digit space ≡ false → (ds : List ℕ) → are_digits is_digit ds ≡ true → Lacks space ds
digits_lack is_digit other [] h = tt
digits_lack is_digit other (d ∷ ds) h = all_lack is_digit other (d ∷ ds) h

pub number_lacks : (text : List ℕ) (n : ℕ) → IsNumber text n → Lacks space text
number_lacks text n (small, inl w) = digits_lack is_ascii_digit refl text w.digits
number_lacks text n (small, inr w) =
    subst (λ (t : List ℕ). Lacks space t) (sym w.marked)
    (lacks_append space (codes "0x") w.ds (from_test (codes "0x") refl) (digits_lack is_hexadecimal_digit refl w.ds w.written.digits))
