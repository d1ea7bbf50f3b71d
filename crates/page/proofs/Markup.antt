-- What is shown of a text has no markup.
use Rattle.std.proofs.Common.{◌≡◌, ◌≢◌, ℕ, Bool, true, false, cond, List, [], ◌∷◌, ◌++◌, refl, codes}
use Rattle.std.proofs.lemmas.Bool.{eqb-false}
use Rattle.std.specs.Prelude.{◌==◌}
use Rattle.page.specs.Shown.{HasNoMarkup, shown, shown_byte}

plain : (b : ℕ) → (b == 60) ≡ false → (b == 62) ≡ false → (b == 34) ≡ false → (b ≢ 60) × (b ≢ 62) × (b ≢ 34)
plain b less greater quote = (eqb-false b 60 less, eqb-false b 62 greater, eqb-false b 34 quote)

-- ---- the tests of a byte, last to first

at_quote : (b : ℕ) (t : Bool) → (b == 34) ≡ t → (b == 60) ≡ false → (b == 62) ≡ false → HasNoMarkup (cond t (codes "&quot;") (b ∷ []))
at_quote b true quote less greater =
    (plain 38 refl refl refl, (plain 113 refl refl refl, (plain 117 refl refl refl, (plain 111 refl refl refl, (plain 116 refl refl refl, (plain 59 refl refl refl, tt))))))
at_quote b false quote less greater = (plain b less greater quote, tt)

at_greater : (b : ℕ) (t : Bool) → (b == 62) ≡ t → (b == 60) ≡ false
    → HasNoMarkup (cond t (codes "&gt;") (cond (b == 34) (codes "&quot;") (b ∷ [])))
at_greater b true greater less = (plain 38 refl refl refl, (plain 103 refl refl refl, (plain 116 refl refl refl, (plain 59 refl refl refl, tt))))
at_greater b false greater less = at_quote b (b == 34) refl less greater

at_less : (b : ℕ) (t : Bool) → (b == 60) ≡ t
    → HasNoMarkup (cond t (codes "&lt;") (cond (b == 62) (codes "&gt;") (cond (b == 34) (codes "&quot;") (b ∷ []))))
at_less b true less = (plain 38 refl refl refl, (plain 108 refl refl refl, (plain 116 refl refl refl, (plain 59 refl refl refl, tt))))
at_less b false less = at_greater b (b == 62) refl less

at_and : (b : ℕ) (t : Bool)
    → HasNoMarkup (cond t (codes "&amp;") (cond (b == 60) (codes "&lt;") (cond (b == 62) (codes "&gt;") (cond (b == 34) (codes "&quot;") (b ∷ [])))))
at_and b true =
    (plain 38 refl refl refl, (plain 97 refl refl refl, (plain 109 refl refl refl, (plain 112 refl refl refl, (plain 59 refl refl refl, tt)))))
at_and b false = at_less b (b == 60) refl

-- ---- a text

both : (xs ys : List ℕ) → HasNoMarkup xs → HasNoMarkup ys → HasNoMarkup (xs ++ ys)
both [] ys h k = k
both (x ∷ xs) ys h k = (h.0, both xs ys h.1 k)

pub no_markup : (text : List ℕ) → HasNoMarkup (shown text)
no_markup [] = tt
no_markup (b ∷ text) = both (shown_byte b) (shown text) (at_and b (b == 38)) (no_markup text)
