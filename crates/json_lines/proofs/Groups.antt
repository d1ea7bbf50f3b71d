-- The groups of lines, one after the other.
use Rattle.std.proofs.Common.{◌≡◌, ℕ, suc, ◌+◌, ◌<◌, true, false, cond, List, [], ◌∷◌, ◌++◌, append_assoc, append-nil, drop, get_or, take, map, length, refl, ap, sym, subst, ◌∙◌, arith}
use Rattle.std.proofs.lemmas.List.{drop-drop, drop-map, drop_more, take-map}
use Rattle.std.specs.Prelude.{Option, Some, None, is_some}
use denote.Ref.{Bor}
use Rattle.texts.proofs.Splits.{behind_sound}
use Rattle.json_lines.specs.Kinds.{Kinds}
use Rattle.json_lines.specs.Lines.{Group, Text, before, blanks, detail_in, groups_of, parted}
use Rattle.json_lines.specs.Objects.{group_object, object_line, object_lines}
use Rattle.json_lines.specs.inner.Tokens.{count, objects_in, said}
use Rattle.json_lines.specs.inner.Views.{texts}

said_is : (line detail : Text) → detail_in line ≡ Some detail → detail ≡ said line
said_is line detail e = sym (ap (drop 2) (behind_sound blanks line detail e))

parted_is : (lines : List Text) → parted lines ≡ (map said (take (count lines) lines), groups_of (drop (count lines) lines))
parted_is [] = refl
parted_is (line ∷ lines) = by_case (detail_in line) refl (parted_is lines) where
  Is : ℕ → List Text × List Group → Type 0
  Is n parts = parts ≡ (map said (take n (line ∷ lines)), groups_of (drop n (line ∷ lines)))

  by_case : (o : Option Text) → detail_in line ≡ o → parted lines ≡ (map said (take (count lines) lines), groups_of (drop (count lines) lines))
      → Is (cond (is_some o) (1 + count lines) 0) (before o line (parted lines))
  by_case None e ih = refl
  by_case (Some detail) e ih =
      let one : suc (count lines) ≡ 1 + count lines = omega arith in
      let here : Is (suc (count lines)) (before (Some detail) line (parted lines)) =
      ap (λ (p : List Text × List Group). (detail ∷ p.0, p.1)) ih
      ∙ ap (λ (d : Text). (d ∷ map said (take (count lines) lines), groups_of (drop (count lines) lines))) (said_is line detail e) in
      subst (λ n. Is n (before (Some detail) line (parted lines))) one here

pub first_group : (line : Text) (lines : List Text)
    → groups_of (line ∷ lines) ≡ (line, map said (take (count lines) lines)) ∷ groups_of (drop (count lines) lines)
first_group line lines = ap (λ (p : List Text × List Group). (line, p.0) ∷ p.1) (parted_is lines)

pub group_step : (told behind object : Text) (kinds : Kinds) (head : Text) (more details rest : List (Bor Text)) (n : ℕ) → n ≡ count (texts more)
    → details ≡ take n more → rest ≡ drop n more → object ≡ object_line (group_object kinds (head, map said (texts details)))
    → behind ≡ told ++ object → behind ++ objects_in kinds (texts rest) ≡ told ++ objects_in kinds (head ∷ texts more)
group_step told behind object kinds head more details rest n c d r o b =
    let first : texts details ≡ take (count (texts more)) (texts more) =
    ap texts (d ∙ ap (λ k. take k more) c) ∙ sym (take-map (λ (l : Bor Text). l.now) (count (texts more)) more) in
    let last : texts rest ≡ drop (count (texts more)) (texts more) =
    ap texts (r ∙ ap (λ k. drop k more) c) ∙ sym (drop-map (λ (l : Bor Text). l.now) (count (texts more)) more) in
    ap (λ (t : Text). t ++ objects_in kinds (texts rest)) (b ∙ ap (λ (t : Text). told ++ t) o)
    ∙ append_assoc told (object_line (group_object kinds (head, map said (texts details)))) (objects_in kinds (texts rest))
    ∙ ap (λ (ds : List Text). told ++ (object_line (group_object kinds (head, map said ds)) ++ objects_in kinds (texts rest))) first
    ∙ ap (λ (rs : List Text). told ++ (object_line (group_object kinds (head, map said (take (count (texts more)) (texts more)))) ++ objects_in kinds rs)) last
    ∙ ap (λ (gs : List Group). told ++ object_lines (map (group_object kinds) gs)) (sym (first_group head (texts more)))

pub group_at : (told behind object : Text) (kinds : Kinds) (lines more : List (Bor Text)) (at n : ℕ) (d : Bor Text) → at < length lines
    → more ≡ drop (at + 1) lines → n ≡ count (texts more)
    → object ≡ object_line (group_object kinds ((get_or lines at d).now, map said (texts (take n more)))) → behind ≡ told ++ object
    → behind ++ objects_in kinds (texts (drop (at + 1 + n) lines)) ≡ told ++ objects_in kinds (texts (drop at lines))
group_at told behind object kinds lines more at n d l m c o b =
    ap (λ (ls : List (Bor Text)). behind ++ objects_in kinds (texts ls)) (sym (drop-drop n (at + 1) lines))
    ∙ ap (λ (ls : List (Bor Text)). behind ++ objects_in kinds (texts (drop n ls))) (sym m)
    ∙ group_step told behind object kinds (get_or lines at d).now more (take n more) (drop n more) n c refl refl o b
    ∙ ap (λ (ls : List (Bor Text)). told ++ objects_in kinds ((get_or lines at d).now ∷ texts ls)) m
    ∙ ap (λ (ls : List (Bor Text)). told ++ objects_in kinds (texts ls)) (sym (drop_more lines at d l))
