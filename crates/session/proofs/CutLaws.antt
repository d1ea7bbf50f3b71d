-- A text that is cut into lines has its parts, and grows by a byte or by a line.
use Rattle.std.proofs.Common.{◌≡◌, ℕ, true, false, List, [], ◌∷◌, ◌++◌, refl, ap, sym, ◌∙◌, append_assoc, append-nil}
use Rattle.std.specs.Prelude.{not, ◌&&◌, ◌==◌}
use Rattle.std.specs.List.{join_with_byte, list_all}
use Rattle.std.proofs.lemmas.Bool.{and_from}
use Rattle.std.proofs.lemmas.List.Folds.{list_all-append}
use Rattle.script.specs.Grammar.{lacks}
use Rattle.texts.specs.Lines.{line_feed}
use Rattle.script.specs.Lines.{Parts, lines_of}
use Rattle.session.specs.Scripts.{ended_lines}
use Rattle.session.specs.inner.Cuts.{IsCut, ended}

-- The parts of a text.

abbrev pub first_of : List (List ℕ) → List ℕ → List ℕ
first_of [] part = part
first_of (line ∷ lines) part = line

abbrev pub more_of : List (List ℕ) → List ℕ → List (List ℕ)
more_of [] part = []
more_of (line ∷ lines) part = lines ++ part ∷ []

joined : (lines : List (List ℕ)) (part : List ℕ)
    → ended lines ++ part ≡ join_with_byte line_feed (first_of lines part ∷ more_of lines part)
joined [] part = refl
joined (line ∷ []) part = append_assoc line (line_feed ∷ []) part
joined (line ∷ next ∷ lines) part =
    append_assoc line (line_feed ∷ ended (next ∷ lines)) part
    ∙ ap (λ (t : List ℕ). line ++ line_feed ∷ t) (joined (next ∷ lines) part)

parts_are : (lines : List (List ℕ)) (part : List ℕ) → first_of lines part ∷ more_of lines part ≡ lines ++ part ∷ []
parts_are [] part = refl
parts_are (line ∷ lines) part = refl

all-more : (lines : List (List ℕ)) (part : List ℕ) → list_all (lacks line_feed) lines ≡ true → lacks line_feed part ≡ true
    → list_all (lacks line_feed) (lines ++ part ∷ []) ≡ true
all-more lines part h g =
    list_all-append (lacks line_feed) lines (part ∷ [])
    ∙ and_from (list_all (lacks line_feed) lines) (lacks line_feed part && true) h (and_from (lacks line_feed part) true g refl)

pub parts_of : (text : List ℕ) (lines : List (List ℕ)) (part : List ℕ) → IsCut text lines part
    → Parts text (first_of lines part) (more_of lines part)
parts_of text lines part h = record {
  joined = h.joined ∙ joined lines part;
  each = ap (list_all (lacks line_feed)) (parts_are lines part) ∙ all-more lines part h.each h.free;
}

-- the lines that were ended
pub ended_are : (lines : List (List ℕ)) (part : List ℕ) → ended_lines (first_of lines part) (more_of lines part) ≡ lines
ended_are [] part = refl
ended_are (line ∷ []) part = refl
ended_are (line ∷ next ∷ lines) part = ap (λ (ls : List (List ℕ)). line ∷ ls) (ended_are (next ∷ lines) part)

-- all lines, where nothing stands behind them
pub lines_are : (lines : List (List ℕ)) → lines_of (first_of lines []) (more_of lines []) ≡ lines
lines_are [] = refl
lines_are ([] ∷ []) = refl
lines_are ((x ∷ line) ∷ []) = refl
lines_are ([] ∷ next ∷ lines) = ap (λ (ls : List (List ℕ)). [] ∷ ls) (lines_are (next ∷ lines))
lines_are ((x ∷ line) ∷ next ∷ lines) = ap (λ (ls : List (List ℕ)). (x ∷ line) ∷ ls) (lines_are (next ∷ lines))

-- and where something does
pub lines_are-more : (lines : List (List ℕ)) (b : ℕ) (part : List ℕ)
    → lines_of (first_of lines (b ∷ part)) (more_of lines (b ∷ part)) ≡ lines ++ (b ∷ part) ∷ []
lines_are-more [] b part = refl
lines_are-more ([] ∷ []) b part = refl
lines_are-more ((x ∷ line) ∷ []) b part = refl
lines_are-more ([] ∷ next ∷ lines) b part =
    ap (λ (ls : List (List ℕ)). [] ∷ ls) (lines_are-more (next ∷ lines) b part)
lines_are-more ((x ∷ line) ∷ next ∷ lines) b part =
    ap (λ (ls : List (List ℕ)). (x ∷ line) ∷ ls) (lines_are-more (next ∷ lines) b part)

-- Growth.

ended-more : (lines : List (List ℕ)) (part : List ℕ) → ended (lines ++ part ∷ []) ≡ ended lines ++ (part ++ line_feed ∷ [])
ended-more [] part = refl
ended-more (line ∷ lines) part =
    ap (λ (t : List ℕ). line ++ line_feed ∷ t) (ended-more lines part)
    ∙ sym (append_assoc line (line_feed ∷ ended lines) (part ++ line_feed ∷ []))

pub cut_none : IsCut [] [] []
cut_none = record { joined = refl; each = refl; free = refl }

pub cut-line : (text : List ℕ) (lines : List (List ℕ)) (part : List ℕ) → IsCut text lines part
    → IsCut (text ++ line_feed ∷ []) (lines ++ part ∷ []) []
cut-line text lines part h = record {
  joined = ap (λ (t : List ℕ). t ++ line_feed ∷ []) h.joined
      ∙ (append_assoc (ended lines) part (line_feed ∷ []) ∙ (sym (ended-more lines part) ∙ sym (append-nil (ended (lines ++ part ∷ [])))));
  each = all-more lines part h.each h.free;
  free = refl;
}

pub cut-byte : (text : List ℕ) (lines : List (List ℕ)) (part : List ℕ) (byte : ℕ) → IsCut text lines part
    → (byte == line_feed) ≡ false → IsCut (text ++ byte ∷ []) lines (part ++ byte ∷ [])
cut-byte text lines part byte h other = record {
  joined = ap (λ (t : List ℕ). t ++ byte ∷ []) h.joined ∙ append_assoc (ended lines) part (byte ∷ []);
  each = h.each;
  free = list_all-append (λ b. not (b == line_feed)) part (byte ∷ [])
      ∙ and_from (lacks line_feed part) (not (byte == line_feed) && true) h.free
      (and_from (not (byte == line_feed)) true (ap not other) refl);
}
