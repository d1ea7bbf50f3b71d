-- Nothing of an answer is lost.
use Rattle.std.proofs.Common.{◌≡◌, ◌≢◌, ℕ, suc, ◌+◌, true, false, cond, List, [], ◌∷◌, ◌++◌, append_assoc, length, length-append, map, refl, ap, sym, subst, ◌∙◌, arith, inl, inr}
use Rattle.std.proofs.lemmas.Bool.{cases_Bool, eqb-true}
use Rattle.std.proofs.lemmas.List.{append-nil}
use Rattle.std.specs.Prelude.{◌==◌, Any, Bool, Option, Some, None, ◌⊎◌, codes, option_and_then, Ok}
use Rattle.std.specs.List.{flat_map}
use Rattle.std.specs.Option.{option_map}
use Rattle.std.specs.Str.{is_utf8}
use Rattle.hex.specs.Hex.{IsBytes, encode_lower}
use Rattle.hex.proofs.HexLemmas.{decode_of-encode_lower}
use Rattle.texts.specs.Lines.{line_feed}
use Rattle.texts.specs.Splits.{behind}
use Rattle.texts.proofs.Splits.{behind_sound}
use Rattle.json_lines.specs.Kept.{IsOfBytes, IsOfShape, TellsOf, filled}
use Rattle.json_lines.specs.Lines.{Group, Text, all_lines, before, blanks, detail_in, ended, groups_of, in_front, lines_in, lines_of, parted, parts_by}
use Rattle.json_lines.specs.Shapes.{Mark, Member, Row, Shape, bytes_row, cut, members_by, members_of, row_of, row_or, split_on, text_row, text_row_of, until, with_member}

-- ---- a line by a shape

split_on_sound : (mark text : Text) (p : Text × Text) → split_on mark text ≡ Some p → text ≡ p.0 ++ (mark ++ p.1)
split_on_sound mark [] p e = absurd (cc)
split_on_sound mark (b ∷ text) p e =
    by_case (behind mark (b ∷ text)) refl (split_on mark text) refl (split_on_sound mark text) e where
      by_case : (o : Option Text) → behind mark (b ∷ text) ≡ o → (l : Option (Text × Text)) → split_on mark text ≡ l
          → ((q : Text × Text) → split_on mark text ≡ Some q → text ≡ q.0 ++ (mark ++ q.1)) → cut o b l ≡ Some p
          → b ∷ text ≡ p.0 ++ (mark ++ p.1)
      by_case (Some rest) f l g ih h =
          let same : ([], rest) ≡ p = cc in
          behind_sound mark (b ∷ text) rest f ∙ ap (λ (q : Text × Text). q.0 ++ (mark ++ q.1)) same
      by_case None f None g ih h = absurd (cc)
      by_case None f (Some q) g ih h =
          let same : (b ∷ q.0, q.1) ≡ p = cc in
          ap (λ (t : Text). b ∷ t) (ih q g) ∙ ap (λ (q : Text × Text). q.0 ++ (mark ++ q.1)) same

until_sound : (mark text : Text) (p : Text × Text) → until mark text ≡ Some p → text ≡ p.0 ++ (mark ++ p.1)
until_sound [] text p e =
    let same : (text, []) ≡ p = cc in
    sym (append-nil text) ∙ ap (λ (q : Text × Text). q.0 ++ ([] ++ q.1)) same
until_sound (c ∷ mark) text p e = split_on_sound (c ∷ mark) text p e

abbrev Fills : List Mark → Text → List Member → Type 0
Fills marks text ms = (text ≡ filled marks ms) × (map (λ (m : Member). m.0) ms ≡ map (λ (m : Mark). m.0) marks)

members_kept : (marks : List Mark) (text : Text) (ms : List Member) → members_of marks text ≡ Some ms → Fills marks text ms
members_kept [] [] ms e = let same : [] ≡ ms = cc in subst (Fills [] []) same (refl, refl)
members_kept [] (b ∷ text) ms e = absurd (cc)
members_kept (mark ∷ marks) text ms e = by_case (until mark.1 text) refl (members_kept marks) e where
  Kept : Type 0
  Kept = (rest : Text) (xs : List Member) → members_of marks rest ≡ Some xs → Fills marks rest xs

  with_more : (p : Text × Text) → until mark.1 text ≡ Some p → (o : Option (List Member)) → members_of marks p.1 ≡ o → Kept
      → with_member mark.0 p.0 o ≡ Some ms → Fills (mark ∷ marks) text ms
  with_more p f None g ih h = absurd (cc)
  with_more p f (Some xs) g ih h =
      let same : (mark.0, p.0) ∷ xs ≡ ms = cc in
      let more : Fills marks p.1 xs = ih p.1 xs g in
      subst (Fills (mark ∷ marks) text) same
      (until_sound mark.1 text p f ∙ ap (λ (t : Text). p.0 ++ (mark.1 ++ t)) more.0, ap (λ ns. mark.0 ∷ ns) more.1)

  by_case : (o : Option (Text × Text)) → until mark.1 text ≡ o → Kept
      → option_and_then (λ parts. with_member mark.0 parts.0 (members_of marks parts.1)) o ≡ Some ms → Fills (mark ∷ marks) text ms
  by_case None f ih h = absurd (cc)
  by_case (Some p) f ih h = with_more p f (members_of marks p.1) refl ih h

shape_kept : (shape : Shape) (line : Text) (ms : List Member) → members_by shape line ≡ Some ms → IsOfShape line (shape.kind, ms) shape
shape_kept shape line ms e = by_case (behind shape.front line) refl e where
  by_case : (o : Option Text) → behind shape.front line ≡ o → option_and_then (members_of shape.marks) o ≡ Some ms
      → IsOfShape line (shape.kind, ms) shape
  by_case None f h = absurd (cc)
  by_case (Some rest) f h =
      let kept : Fills shape.marks rest ms = members_kept shape.marks rest ms h in
      record {
        kind = refl;
        names = kept.1;
        again = behind_sound shape.front line rest f ∙ ap (λ (t : Text). shape.front ++ t) kept.0;
      }

text_kept : (shapes : List Shape) (line : Text)
    → Any (IsOfShape line (text_row_of shapes line)) shapes ⊎ (text_row_of shapes line ≡ text_row line)
text_kept [] line = inr refl
text_kept (shape ∷ shapes) line = by_case (members_by shape line) refl (text_kept shapes line) where
  by_case : (o : Option (List Member)) → members_by shape line ≡ o
      → Any (IsOfShape line (text_row_of shapes line)) shapes ⊎ (text_row_of shapes line ≡ text_row line)
      → Any (IsOfShape line (row_or shape.kind o (text_row_of shapes line))) (shape ∷ shapes)
      ⊎ (row_or shape.kind o (text_row_of shapes line) ≡ text_row line)
  by_case (Some ms) e more = inl (0, shape, omega arith, refl, shape_kept shape line ms e)
  by_case None e (inl later) = inl (suc later.0, later.1, omega (arith, later.2), later.3, later.4)
  by_case None e (inr same) = inr same

pub line_kept : (shapes : List Shape) (line : Text) → IsBytes line → TellsOf shapes line (row_of shapes line)
line_kept shapes line small = by_case (is_utf8 line) refl (text_kept shapes line) where
  by_case : (b : Bool) → is_utf8 line ≡ b
      → Any (IsOfShape line (text_row_of shapes line)) shapes ⊎ (text_row_of shapes line ≡ text_row line)
      → TellsOf shapes line (cond b (text_row_of shapes line) (bytes_row (codes "bytes") line))
  by_case true e (inl by_shape) = inl by_shape
  by_case true e (inr same) = inr (inl same)
  by_case false e kept =
      inr (inr record { no_text = e; digits = encode_lower line; is = refl; again = decode_of-encode_lower line small })

-- ---- all lines of an answer

parted_kept : (lines : List Text) → map (λ detail. blanks ++ detail) (parted lines).0 ++ all_lines (parted lines).1 ≡ lines
parted_kept [] = refl
parted_kept (line ∷ lines) = by_case (detail_in line) refl (parted_kept lines) where
  by_case : (o : Option Text) → detail_in line ≡ o → map (λ detail. blanks ++ detail) (parted lines).0 ++ all_lines (parted lines).1 ≡ lines
      → map (λ detail. blanks ++ detail) (before o line (parted lines)).0 ++ all_lines (before o line (parted lines)).1 ≡ line ∷ lines
  by_case None e ih = ap (λ ls. line ∷ ls) ih
  by_case (Some detail) e ih =
      ap (λ (l : Text). l ∷ (map (λ detail. blanks ++ detail) (parted lines).0 ++ all_lines (parted lines).1)) (sym (behind_sound blanks line detail e))
      ∙ ap (λ ls. line ∷ ls) ih

pub groups_kept : (lines : List Text) → all_lines (groups_of lines) ≡ lines
groups_kept [] = refl
groups_kept (line ∷ lines) = ap (λ ls. line ∷ ls) (parted_kept lines)

front_kept : (b : ℕ) (parts : List Text) (text : Text) → ended parts ≡ text ++ line_feed ∷ [] → ended (in_front b parts) ≡ b ∷ (text ++ line_feed ∷ [])
front_kept b [] text e =
    let none : 0 ≡ length (text ++ line_feed ∷ []) = ap length e in
    absurd (omega (arith, none, length-append text (line_feed ∷ [])))
front_kept b (part ∷ parts) text e = ap (λ (t : Text). b ∷ t) e

pub text_again : (text : Text) → ended (lines_of (text ++ line_feed ∷ [])) ≡ text ++ line_feed ∷ []
text_again [] = refl
text_again (b ∷ text) = by_test (b == line_feed) refl (text_again text) where
  by_test : (t : Bool) → (b == line_feed) ≡ t → ended (lines_of (text ++ line_feed ∷ [])) ≡ text ++ line_feed ∷ []
      → ended (cond t ([] ∷ parts_by line_feed (text ++ line_feed ∷ [])) (in_front b (parts_by line_feed (text ++ line_feed ∷ []))))
      ≡ b ∷ (text ++ line_feed ∷ [])
  by_test true e ih =
      ap (λ (t : Text). line_feed ∷ t) ih ∙ ap (λ (c : ℕ). c ∷ (text ++ line_feed ∷ [])) (sym (eqb-true b line_feed e))
  by_test false e ih = front_kept b (parts_by line_feed (text ++ line_feed ∷ [])) text ih
