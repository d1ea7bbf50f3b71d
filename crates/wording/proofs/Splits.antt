-- The lines of a text, one after the other.
use Rattle.std.proofs.Common.{◌≡◌, ℕ, ◌+◌, ◌<◌, add-one, Bool, true, false, cond, List, [], ◌∷◌, ◌++◌, length, get_or, take, drop, refl, ap, sym, subst, lit<, ◌∙◌}
use Rattle.std.proofs.Math.Seq.{drop-cons}
use Rattle.std.proofs.lemmas.List.{take-append-drop}
use Rattle.std.specs.Prelude.{◌==◌, Option, Some, None, MatchOption}
use Rattle.std.specs.Option.{option_map}
use Rattle.std.specs.List.{All, onto_first, slice_split}
use denote.Ref.{Bor}
use Rattle.std.proofs.lemmas.List.Splits.{slice_split-cons_no, slice_split-cons_yes, slice_split_at}
use Rattle.std.proofs.lemmas.Str.Pattern.{IsSplitOnceResult}
use Rattle.texts.specs.Lines.{line_feed}
use Rattle.texts.specs.Splits.{split_at}
use Rattle.texts.proofs.Splits.{split_is}
use Rattle.wording.specs.Lines.{lines_of}

-- the parts of a text are what stands before the first such byte, and the parts of what stands behind it
pub cuts : (c : ℕ) (text : List ℕ) → MatchOption (split_at c text) (slice_split (λ b. b == c) text ≡ text ∷ [])
    (λ p. slice_split (λ b. b == c) text ≡ p.0 ∷ slice_split (λ b. b == c) p.1)
cuts c [] = refl
cuts c (b ∷ text) = by_test (b == c) refl (split_at c text) (cuts c text) where
  by_test : (t : Bool) → (b == c) ≡ t → (o : Option (List ℕ × List ℕ))
      → MatchOption o (slice_split (λ b. b == c) text ≡ text ∷ []) (λ p. slice_split (λ b. b == c) text ≡ p.0 ∷ slice_split (λ b. b == c) p.1)
      → MatchOption (cond {A = Option (List ℕ × List ℕ)} t (Some ([], text)) (option_map (λ (p : List ℕ × List ℕ). (b ∷ p.0, p.1)) o))
      (slice_split (λ b. b == c) (b ∷ text) ≡ (b ∷ text) ∷ []) (λ p. slice_split (λ b. b == c) (b ∷ text) ≡ p.0 ∷ slice_split (λ b. b == c) p.1)
  by_test true e o ih = slice_split-cons_yes (λ x. x == c) b text e
  by_test false e None ih = slice_split-cons_no (λ x. x == c) b text e ∙ ap (onto_first b) ih
  by_test false e (Some q) ih = slice_split-cons_no (λ x. x == c) b text e ∙ ap (onto_first b) ih

-- what a split at the first line feed tells of the lines
pub lines-split : (text : List ℕ) (r : Option (Bor (List ℕ) × Bor (List ℕ))) → IsSplitOnceResult line_feed text r
    → MatchOption r (lines_of text ≡ text ∷ []) (λ p. lines_of text ≡ p.0.now ∷ lines_of p.1.now)
lines-split text r h = by_case r (split_is line_feed text r h (lit< tt)) where
  by_none : (o : Option (List ℕ × List ℕ)) → None ≡ o
      → MatchOption o (lines_of text ≡ text ∷ []) (λ p. lines_of text ≡ p.0 ∷ lines_of p.1) → lines_of text ≡ text ∷ []
  by_none None g k = k
  by_none (Some p) g k = absurd (cc)

  by_case : (r : Option (Bor (List ℕ) × Bor (List ℕ))) → option_map (λ parts. (parts.0.now, parts.1.now)) r ≡ split_at line_feed text
      → MatchOption r (lines_of text ≡ text ∷ []) (λ p. lines_of text ≡ p.0.now ∷ lines_of p.1.now)
  by_case None e = by_none (split_at line_feed text) e (cuts line_feed text)
  by_case (Some x) e =
      subst (λ (o : Option (List ℕ × List ℕ)). MatchOption o (lines_of text ≡ text ∷ []) (λ p. lines_of text ≡ p.0 ∷ lines_of p.1)) (sym e)
      (cuts line_feed text)

-- the first line feed of a text stands here
pub splits_here : (text : List ℕ) (i : ℕ) → i < length text → get_or text i 0 ≡ line_feed
    → All (λ b. (b == line_feed) ≡ false) (take i text) → lines_of text ≡ take i text ∷ lines_of (drop (i + 1) text)
splits_here text i inside is before =
    let parts : drop i text ≡ get_or text i 0 ∷ drop (i + 1) text = rw (add-one, drop-cons text i 0) refl in
    let whole : text ≡ take i text ++ line_feed ∷ drop (i + 1) text =
    sym (take-append-drop i text) ∙ ap (λ (l : List ℕ). take i text ++ l) (parts ∙ ap (λ (b : ℕ). b ∷ drop (i + 1) text) is) in
    ap lines_of whole ∙ slice_split_at (λ b. b == line_feed) (take i text) line_feed (drop (i + 1) text) before refl
