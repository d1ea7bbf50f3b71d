-- The words of a line, what follows a key, and values that may be no text.
use Rattle.std.proofs.Common.{◌≡◌, ◌≢◌, ℕ, true, suc, ◌+◌, ◌<◌, add-one, List, [], ◌∷◌, ◌++◌, drop, get_or, take, length, length-append, refl, ap, sym, subst, arith, inl, inr, ◌∙◌}
use Rattle.std.proofs.lemmas.Bool.{cases_Bool, eq-eqb}
use Rattle.std.proofs.lemmas.List.{take-append-drop}
use Rattle.std.proofs.Math.Seq.{drop-cons}
use Rattle.std.specs.Prelude.{◌==◌, Option, Some, None, IfSome, MatchOption}
use Rattle.std.specs.Option.{option_map, option_or}
use Rattle.std.specs.Str.{IsCharBoundary, IsUtf8, is_utf8}
use Rattle.std.proofs.lemmas.Str.{IsUtf8-from_is_utf8, is_utf8-from_IsUtf8}
use denote.Ref.{Bor}
use Rattle.texts.specs.Lines.{space}
use Rattle.texts.specs.Splits.{behind, split_at}
use Rattle.texts.proofs.Splits.{Lacks, behind_absent, split_at_first, split_at_sound}
use Rattle.wording.proofs.Splits.{cuts}
use Rattle.explain.specs.Audit.{last_behind, words_on}
use Rattle.explain.specs.Naming.{text_of}

abbrev texts_now : Option (Bor (List ℕ) × Bor (List ℕ)) → Option (List ℕ × List ℕ)
texts_now r = option_map (λ parts. (parts.0.now, parts.1.now)) r

-- what a split at the first space tells of the words
pub words_split : (line : List ℕ) (r : Option (Bor (List ℕ) × Bor (List ℕ))) → texts_now r ≡ split_at space line
    → MatchOption r (words_on line ≡ line ∷ []) (λ p. words_on line ≡ p.0.now ∷ words_on p.1.now)
words_split line None e = by_none (split_at space line) e (cuts space line) where
  by_none : (o : Option (List ℕ × List ℕ)) → None ≡ o
      → MatchOption o (words_on line ≡ line ∷ []) (λ p. words_on line ≡ p.0 ∷ words_on p.1) → words_on line ≡ line ∷ []
  by_none None g k = k
  by_none (Some p) g k = absurd (cc)
words_split line (Some x) e =
    subst (λ (o : Option (List ℕ × List ℕ)). MatchOption o (words_on line ≡ line ∷ []) (λ p. words_on line ≡ p.0 ∷ words_on p.1)) (sym e)
    (cuts space line)

pub less_left : (line : List ℕ) (r : Option (Bor (List ℕ) × Bor (List ℕ))) → texts_now r ≡ split_at space line
    → IfSome r (λ p. length p.1.now < length line)
less_left line None e = tt
less_left line (Some x) e =
    let parts = split_at_sound space line (x.0.now, x.1.now) (sym e) in
    let long : length line ≡ length x.0.now + suc (length x.1.now) = ap length parts.0 ∙ length-append x.0.now (space ∷ x.1.now) in
    omega (arith, long)

-- what follows a key
pub behind_is : (key rest : List ℕ) → behind key (key ++ rest) ≡ Some rest
behind_is [] rest = refl
behind_is (c ∷ key) rest = let same : (c == c) ≡ true = eq-eqb c c refl in rw same (behind_is key rest)

-- the word is the key and this text
abbrev Follows : List ℕ → List ℕ → List ℕ → Type 0
Follows key word text =
    (n : ℕ) × ((n ≡ length key) × (word ≡ key ++ drop n word) × IsCharBoundary word (length key)) × (text ≡ drop n word)
    × (length text + n ≡ length word)

pub behind_found : (key word : List ℕ) (r : Option (Bor (List ℕ)))
    → MatchOption r ((rest : List ℕ) → word ≢ key ++ rest) (λ x. Follows key word x.now)
    → option_map (λ text. text.now) r ≡ behind key word
behind_found key word None h = sym (behind_absent key word h)
behind_found key word (Some x) h =
    sym (ap (behind key) (h.1.1 ∙ ap (λ (t : List ℕ). key ++ t) (sym h.2)) ∙ behind_is key x.now)

-- the same of bytes
pub behind_bytes : (key word : List ℕ) (r : Option (Bor (List ℕ)))
    → MatchOption r ((rest : List ℕ) → word ≢ key ++ rest) (λ x. word ≡ key ++ x.now)
    → option_map (λ text. text.now) r ≡ behind key word
behind_bytes key word None h = sym (behind_absent key word h)
behind_bytes key word (Some x) h = sym (ap (behind key) h ∙ behind_is key x.now)

-- ---- one word more

map_or : (b found : Option (Bor (List ℕ)))
    → option_map (λ text. text.now) (option_or b found) ≡ option_or (option_map (λ text. text.now) b) (option_map (λ text. text.now) found)
map_or None found = refl
map_or (Some x) found = refl

or_or : (a b c : Option (List ℕ)) → option_or a (option_or b c) ≡ option_or (option_or a b) c
or_or None b c = refl
or_or (Some x) b c = refl

pub last_more : (key word : List ℕ) (old new : List (List ℕ)) (b found next : Option (Bor (List ℕ))) (all : Option (List ℕ))
    → old ≡ word ∷ new → option_map (λ text. text.now) b ≡ behind key word → next ≡ option_or b found
    → option_or (last_behind key old) (option_map (λ text. text.now) found) ≡ all
    → option_or (last_behind key new) (option_map (λ text. text.now) next) ≡ all
last_more key word old new b found next all parts is now before =
    let was : Option (List ℕ) = option_map (λ text. text.now) found in
    ap (λ (o : Option (Bor (List ℕ))). option_or (last_behind key new) (option_map (λ text. text.now) o)) now
    ∙ ap (option_or (last_behind key new)) (map_or b found ∙ ap (λ (o : Option (List ℕ)). option_or o was) is)
    ∙ or_or (last_behind key new) (behind key word) was
    ∙ sym (ap (λ (l : List (List ℕ)). option_or (last_behind key l) was) parts) ∙ before

-- ---- a line at its first such byte

pub split_here : (byte : ℕ) (line : List ℕ) (i : ℕ) → i < length line → get_or line i 0 ≡ byte → Lacks byte (take i line)
    → Some (take i line, drop (i + 1) line) ≡ split_at byte line
split_here byte line i inside is before =
    let parts : drop i line ≡ get_or line i 0 ∷ drop (i + 1) line = rw (add-one, drop-cons line i 0) refl in
    let whole : line ≡ take i line ++ byte ∷ drop (i + 1) line =
    sym (take-append-drop i line) ∙ ap (λ (l : List ℕ). take i line ++ l) (parts ∙ ap (λ (b : ℕ). b ∷ drop (i + 1) line) is) in
    sym (ap (split_at byte) whole ∙ split_at_first byte (take i line) (drop (i + 1) line) before)

-- ---- values that may be no text

pub in_text : (value : List ℕ) → IsUtf8 value → text_of value ≡ Some value
in_text value utf8 = rw (is_utf8-from_IsUtf8 value utf8) refl

pub in_no_text : (value : List ℕ) → (IsUtf8 value → ⊥) → text_of value ≡ None
in_no_text value bad = elim (cases_Bool (is_utf8 value)) [
  | inl yes_it_is ↦ absurd (bad (IsUtf8-from_is_utf8 value yes_it_is))
  | inr no_text ↦ rw no_text refl
]
