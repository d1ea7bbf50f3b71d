-- The words of a record.
use Rattle.std.proofs.Common.{sym, subst, ◌≡◌, ℕ, zero, suc, ◌+◌, ◌*◌, ◌/◌, ◌%◌, ◌^◌, List, [], ◌∷◌, ◌<◌, length}
use Rattle.std.proofs.Common.{get_or, refl, ◌∙◌, ap, arith}
use Rattle.std.specs.Prelude.{Some, slice_get, All}
use Rattle.std.proofs.Props.{props}
use Rattle.std.proofs.lemmas.List.Elements.{All-head, All-tail}
use Rattle.call_record.specs.declared.layout.Record.{Record}
use Rattle.call_record.specs.Record.{words}
use Rattle.call_record.specs.Words.{IsRecord, FieldsFit, argument, halves, words_from}

-- a number out of its halves
whole : (u : ℕ) → u % 2 ^ 32 + 2 ^ 32 * (u / 2 ^ 32) ≡ u
whole u = omega arith

doubled : (j : ℕ) → 2 * suc j ≡ suc (suc (2 * j))
doubled j = omega arith

low_half : (us : List ℕ) (j : ℕ) → get_or (halves us) (2 * j) 0 ≡ get_or us j 0 % 2 ^ 32
low_half [] j = refl
low_half (u ∷ us) zero = refl
low_half (u ∷ us) (suc j) = ap (λ k. get_or (halves (u ∷ us)) k 0) (doubled j) ∙ low_half us j

high_half : (us : List ℕ) (j : ℕ) → get_or (halves us) (suc (2 * j)) 0 ≡ get_or us j 0 / 2 ^ 32
high_half [] j = refl
high_half (u ∷ us) zero = refl
high_half (u ∷ us) (suc j) = ap (λ k. get_or (halves (u ∷ us)) (suc k) 0) (doubled j) ∙ high_half us j

four : (k : ℕ) → 4 + k ≡ suc (suc (suc (suc k)))
four k = omega arith

five : (k : ℕ) → 5 + k ≡ suc (suc (suc (suc (suc k))))
five k = omega arith

-- an argument of the words is the argument of the fields
pub argument-words_from : (nr arch ip : ℕ) (us : List ℕ) (j : ℕ) → argument (words_from nr arch ip us) j ≡ get_or us j 0
argument-words_from nr arch ip us j =
    let low : get_or (words_from nr arch ip us) (4 + 2 * j) 0 ≡ get_or us j 0 % 2 ^ 32 =
    ap (λ k. get_or (words_from nr arch ip us) k 0) (four (2 * j)) ∙ low_half us j in
    let high : get_or (words_from nr arch ip us) (5 + 2 * j) 0 ≡ get_or us j 0 / 2 ^ 32 =
    ap (λ k. get_or (words_from nr arch ip us) k 0) (five (2 * j)) ∙ high_half us j in
    ap (λ x. x + 2 ^ 32 * get_or (words_from nr arch ip us) (5 + 2 * j) 0) low ∙ ap (λ x. get_or us j 0 % 2 ^ 32 + 2 ^ 32 * x) high
    ∙ whole (get_or us j 0)

-- each number of 64 bits is two words
pub length-halves : (us : List ℕ) → length (halves us) ≡ 2 * length us
length-halves [] = refl
length-halves (u ∷ us) = let e : length (halves us) ≡ 2 * length us = length-halves us in omega arith

half_below : (us : List ℕ) → ((i : ℕ) → get_or us i 0 < 2 ^ 64) → (i : ℕ) → get_or (halves us) i 0 < 2 ^ 32
half_below [] fits i = omega arith
half_below (u ∷ us) fits zero = omega arith
half_below (u ∷ us) fits (suc zero) = let a : u < 2 ^ 64 = fits 0 in omega arith
half_below (u ∷ us) fits (suc (suc i)) = half_below us (λ k. fits (suc k)) i

word_below : (nr arch ip : ℕ) (us : List ℕ) → nr < 2 ^ 32 → arch < 2 ^ 32 → ip < 2 ^ 64 → ((i : ℕ) → get_or us i 0 < 2 ^ 64) → (i : ℕ)
    → get_or (words_from nr arch ip us) i 0 < 2 ^ 32
word_below nr arch ip us a b d fits zero = a
word_below nr arch ip us a b d fits (suc zero) = b
word_below nr arch ip us a b d fits (suc (suc zero)) = omega arith
word_below nr arch ip us a b d fits (suc (suc (suc zero))) = omega arith
word_below nr arch ip us a b d fits (suc (suc (suc (suc i)))) = half_below us fits i

-- six numbers of 64 bits, and the other fields in their ranges, are a record
pub words_from-is_record : (nr arch ip : ℕ) (us : List ℕ) → nr < 2 ^ 32 → arch < 2 ^ 32 → ip < 2 ^ 64 → length us ≡ 6
    → ((i : ℕ) → get_or us i 0 < 2 ^ 64) → IsRecord (words_from nr arch ip us)
words_from-is_record nr arch ip us a b d six fits = record {
  length_is = let e : length (halves us) ≡ 2 * length us = length-halves us in omega arith;
  words = word_below nr arch ip us a b d fits;
}

all_below : (us : List ℕ) → All (λ u. u < 2 ^ 64) us → (i : ℕ) → get_or us i 0 < 2 ^ 64
all_below [] h i = omega arith
all_below (u ∷ us) h zero = All-head (λ v. v < 2 ^ 64) u us h
all_below (u ∷ us) h (suc i) = all_below us (All-tail (λ v. v < 2 ^ 64) u us h) i

-- the words of a record are a record
pub words-is_record : (r : Record) → IsRecord (words r)
words-is_record r =
    words_from-is_record r.nr r.arch r.ip r.args r.in_range.nr_fits r.in_range.arch_fits r.in_range.ip_fits r.in_range.six_args
    (all_below r.args r.in_range.args_fit)

-- the words at even and at odd places
even : (xs : List ℕ) (j : ℕ) → j < length xs → slice_get (halves xs) (2 * j) ≡ Some (get_or xs j 0 % 2 ^ 32)
even [] j h = absurd (omega arith)
even (x ∷ xs) zero h = refl
even (x ∷ xs) (suc j) h = rw (doubled j) (even xs j (omega arith))

odd : (xs : List ℕ) (j : ℕ) → j < length xs → slice_get (halves xs) (suc (2 * j)) ≡ Some (get_or xs j 0 / 2 ^ 32)
odd [] j h = absurd (omega arith)
odd (x ∷ xs) zero h = refl
odd (x ∷ xs) (suc j) h = rw (doubled j) (odd xs j (omega arith))

-- the low and the high word of a number after the first two words
pub low_word : (nr arch : ℕ) (xs : List ℕ) (i half wide : ℕ) → i ≡ 2 * half + 2 → half < length xs → get_or xs half 0 ≡ wide
    → slice_get (nr ∷ arch ∷ halves xs) i ≡ Some (wide % 2 ^ 32)
low_word nr arch xs i half wide e h w =
    let f : i ≡ suc (suc (2 * half)) = omega arith in
    rw (f, ← w) (even xs half h)

pub high_word : (nr arch : ℕ) (xs : List ℕ) (i half wide : ℕ) → i ≡ 2 * half + 3 → half < length xs → get_or xs half 0 ≡ wide
    → slice_get (nr ∷ arch ∷ halves xs) i ≡ Some (wide / 2 ^ 32)
high_word nr arch xs i half wide e h w =
    let f : i ≡ suc (suc (suc (2 * half))) = omega arith in
    rw (f, ← w) (odd xs half h)

same_halves : (us vs : List ℕ) → halves us ≡ halves vs → us ≡ vs
same_halves [] [] same = refl
same_halves (u ∷ us) (v ∷ vs) same =
    let low : u % 2 ^ 32 ≡ v % 2 ^ 32 = cc in
    let high : u / 2 ^ 32 ≡ v / 2 ^ 32 = cc in
    let head : u ≡ v = omega arith in
    let rest : halves us ≡ halves vs = cc in
    let tail : us ≡ vs = same_halves us vs rest in
    cc
same_halves [] (v ∷ vs) same = cc
same_halves (u ∷ us) [] same = cc

-- there is one proof at most that the fields fit
FieldsFit-prop : (nr arch ip : ℕ) (args : List ℕ) → IsProp (FieldsFit nr arch ip args)
FieldsFit-prop nr arch ip args = hlevel props

abbrev record_of : (nr arch ip : ℕ) (args : List ℕ) → FieldsFit nr arch ip args → Record
record_of nr arch ip args f = record { nr = nr; arch = arch; ip = ip; args = args; in_range = f }

same_at : (b : Record) (f : FieldsFit b.nr b.arch b.ip b.args) → record_of b.nr b.arch b.ip b.args f ≡ b
same_at b f = ap (record_of b.nr b.arch b.ip b.args) (FieldsFit-prop b.nr b.arch b.ip b.args f b.in_range)

-- records with the same fields are the same record
same_fields : (a b : Record) → a.nr ≡ b.nr → a.arch ≡ b.arch → a.ip ≡ b.ip → a.args ≡ b.args → a ≡ b
same_fields a b nr arch ip args =
    let A : ℕ → Type 0 = λ n. (f : FieldsFit n b.arch b.ip b.args) → record_of n b.arch b.ip b.args f ≡ b in
    let B : ℕ → Type 0 = λ n. (f : FieldsFit a.nr n b.ip b.args) → record_of a.nr n b.ip b.args f ≡ b in
    let C : ℕ → Type 0 = λ n. (f : FieldsFit a.nr a.arch n b.args) → record_of a.nr a.arch n b.args f ≡ b in
    let D : List ℕ → Type 0 = λ us. (f : FieldsFit a.nr a.arch a.ip us) → record_of a.nr a.arch a.ip us f ≡ b in
    subst D (sym args) (subst C (sym ip) (subst B (sym arch) (subst A (sym nr) (same_at b)))) a.in_range

-- records with the same words are the same record
pub same_from_words : (a b : Record) → words a ≡ words b → a ≡ b
same_from_words a b same =
    let nr : a.nr ≡ b.nr = cc in
    let arch : a.arch ≡ b.arch = cc in
    let wide : halves (a.ip ∷ a.args) ≡ halves (b.ip ∷ b.args) = cc in
    let wide_same : (a.ip ∷ a.args) ≡ (b.ip ∷ b.args) = same_halves (a.ip ∷ a.args) (b.ip ∷ b.args) wide in
    same_fields a b nr arch (cc) (cc)
