-- The names in a word, one after the other, and numbers, which are none.
use Rattle.std.proofs.Common.{◌≡◌, ℕ, ◌+◌, ◌<◌, Bool, true, false, cond, suc, List, [], ◌∷◌, ◌++◌, length, length-append, refl, ap, sym, subst, arith, inl, inr, ◌⊎◌, ◌∙◌}
use Rattle.std.specs.Prelude.{◌==◌, ◌&&◌, if◌then◌else◌, codes, Option, Some, None, IfSome, MatchOption}
use Rattle.std.specs.Char.{is_ascii_digit}
use Rattle.std.specs.Option.{option_map, option_or}
use Rattle.std.specs.Str.{bytes_eq}
use Rattle.std.specs.List.{onto_first, slice_split}
use Rattle.std.proofs.lemmas.Bool.{cases_Bool}
use Rattle.std.proofs.lemmas.List.Splits.{slice_split-cons_no, slice_split-cons_yes}
use denote.Ref.{Bor}
use Rattle.call_tables.specs.Table.{Table, number_in as number_in_table}
use Rattle.texts.specs.Digits.{are_digits}
use Rattle.texts.specs.Numbers.{decimal_at, number_of as number_in}
use Rattle.texts.specs.Splits.{behind, split_at}
use Rattle.texts.proofs.Splits.{split_at_sound}
use Rattle.call_words.specs.Constants.{bar, begins_with_digit, names_in, numeral, number_or, sum_of}
use Rattle.call_words.specs.Numbers.{number_behind, number_of}
use Rattle.call_words.specs.Laws.{NumbersStay}

-- the parts of a text are what stands before the first such byte, and the parts of what stands behind it
cuts : (c : ℕ) (text : List ℕ) → MatchOption (split_at c text) (slice_split (λ b. b == c) text ≡ text ∷ [])
    (λ p. slice_split (λ b. b == c) text ≡ p.0 ∷ slice_split (λ b. b == c) p.1)
cuts c [] = refl
cuts c (b ∷ text) = by_test (b == c) refl (split_at c text) (cuts c text) where
  by_test : (t : Bool) → (b == c) ≡ t → (o : Option (List ℕ × List ℕ))
      → MatchOption o (slice_split (λ b. b == c) text ≡ text ∷ []) (λ p. slice_split (λ b. b == c) text ≡ p.0 ∷ slice_split (λ b. b == c) p.1)
      → MatchOption (cond {A = Option (List ℕ × List ℕ)} t (Some ([], text)) (option_map (λ (p : List ℕ × List ℕ). (b ∷ p.0, p.1)) o))
      (slice_split (λ b. b == c) (b ∷ text) ≡ (b ∷ text) ∷ []) (λ p. slice_split (λ b. b == c) (b ∷ text) ≡ p.0 ∷ slice_split (λ b. b == c) p.1)
  by_test true e o ih = slice_split-cons_yes (λ x. x == c) b text e
  by_test false e None ih = slice_split-cons_no (λ x. x == c) b text e ∙ ap (onto_first b) ih
  by_test false e (Some q) ih = slice_split-cons_no (λ x. x == c) b text e ∙ ap (onto_first b) ih

abbrev texts_now : Option (Bor (List ℕ) × Bor (List ℕ)) → Option (List ℕ × List ℕ)
texts_now r = option_map (λ parts. (parts.0.now, parts.1.now)) r

-- what a split at the first bar tells of the names
pub names_split : (word : List ℕ) (r : Option (Bor (List ℕ) × Bor (List ℕ))) → texts_now r ≡ split_at bar word
    → MatchOption r (names_in word ≡ word ∷ []) (λ p. names_in word ≡ p.0.now ∷ names_in p.1.now)
names_split word None e = by_none (split_at bar word) e (cuts bar word) where
  by_none : (o : Option (List ℕ × List ℕ)) → None ≡ o
      → MatchOption o (names_in word ≡ word ∷ []) (λ p. names_in word ≡ p.0 ∷ names_in p.1) → names_in word ≡ word ∷ []
  by_none None g k = k
  by_none (Some p) g k = absurd (cc)
names_split word (Some x) e =
    subst (λ (o : Option (List ℕ × List ℕ)). MatchOption o (names_in word ≡ word ∷ []) (λ p. names_in word ≡ p.0 ∷ names_in p.1)) (sym e)
    (cuts bar word)

pub less_left : (word : List ℕ) (r : Option (Bor (List ℕ) × Bor (List ℕ))) → texts_now r ≡ split_at bar word
    → IfSome r (λ p. length p.1.now < length word)
less_left word None e = tt
less_left word (Some x) e =
    let parts = split_at_sound bar word (x.0.now, x.1.now) (sym e) in
    let long : length word ≡ length x.0.now + suc (length x.1.now) = ap length parts.0 ∙ length-append x.0.now (bar ∷ x.1.now) in
    omega (arith, long)

-- ---- numbers

-- what a number in decimal begins with
decimal_begins : (word : List ℕ) (n : ℕ) → decimal_at word ≡ Some n → begins_with_digit word ≡ true
unfolding decimal_at
decimal_begins [] n e = absurd (cc)
decimal_begins (b ∷ word) n e = by_digit (is_ascii_digit b) refl where
  by_digit : (t : Bool) → is_ascii_digit b ≡ t → is_ascii_digit b ≡ true
  by_digit true d = d
  by_digit false d = absurd (nothing (rw d at e)) where
    nothing : None ≡ Some n → ⊥
    nothing h = absurd (cc)

-- what begins with `0x` begins with a digit
marked_begins : (word digits : List ℕ) → behind (codes "0x") word ≡ Some digits → begins_with_digit word ≡ true
marked_begins [] digits e = absurd (cc)
marked_begins (b ∷ word) digits e = by_zero (b == 48) refl where
  by_zero : (t : Bool) → (b == 48) ≡ t → is_ascii_digit b ≡ true
  by_zero true d = grind (arith, d)
  by_zero false d = absurd (nothing (rw d at e)) where
    nothing : None ≡ Some digits → ⊥
    nothing h = absurd (cc)

number_begins : (word : List ℕ) (n : ℕ) → number_of word ≡ Some n → begins_with_digit word ≡ true
unfolding number_of
number_begins word n e = by_mark (behind (codes "0x") word) refl e where
  by_mark : (o : Option (List ℕ)) → behind (codes "0x") word ≡ o → number_behind o word ≡ Some n → begins_with_digit word ≡ true
  by_mark (Some digits) m h = marked_begins word digits m
  by_mark None m h = decimal_begins word n h

pub numbers_stay : NumbersStay
unfolding sum_of
numbers_stay word n e = let digit : begins_with_digit word ≡ true = number_begins word n e in rw digit refl

-- ---- tables

-- the number beside the first such name of two tables
pub number_in_both : (a b : Table) (name : List ℕ) → number_in_table (a ++ b) name ≡ option_or (number_in_table a name) (number_in_table b name)
number_in_both [] b name = refl
number_in_both (e ∷ a) b name = by_test (bytes_eq e.0 name) (number_in_both a b name) where
  by_test : (t : Bool) → number_in_table (a ++ b) name ≡ option_or (number_in_table a name) (number_in_table b name)
      → cond {A = Option ℕ} t (Some e.1) (number_in_table (a ++ b) name)
      ≡ option_or (cond {A = Option ℕ} t (Some e.1) (number_in_table a name)) (number_in_table b name)
  by_test true ih = refl
  by_test false ih = ih
