-- The rows of the table, one after the other.
use Rattle.std.proofs.Common.{◌≡◌, ℕ, zero, suc, ◌+◌, ◌<◌, ◌≤◌, List, [], ◌∷◌, ◌++◌, append_assoc, drop, get_or, length, refl, ap, sym, ◌∙◌, arith}
use Rattle.std.specs.Prelude.{Option, Some, None, option_map}
use Rattle.std.specs.Slice.{IsItemAt}
use denote.Ref.{Bor}
use Rattle.json_lines.specs.Lines.{Text}
use Rattle.page.specs.Table.{cell, row, rows}
use Rattle.page.specs.declared.groups.Group.{Group}
use Rattle.page.specs.inner.Views.{group, groups, other_cell}

-- the cell of the group at a place, if there is one
abbrev pub cell_at : List Group → ℕ → Text
cell_at [] place = []
cell_at (other ∷ others) zero = cell (group other)
cell_at (other ∷ others) (suc place) = cell_at others place

cell_none : (others : List Group) (place : ℕ) → length others ≤ place → cell_at others place ≡ []
cell_none [] place l = refl
cell_none (other ∷ others) zero l = absurd (omega arith)
cell_none (other ∷ others) (suc place) l = cell_none others place (omega arith)

cell_some : (others : List Group) (place : ℕ) (d : Group) → place < length others → cell_at others place ≡ cell (group (get_or others place d))
cell_some [] place d l = absurd (omega arith)
cell_some (other ∷ others) zero d l = refl
cell_some (other ∷ others) (suc place) d l = cell_some others place d (omega arith)

cell_is : (others : List Group) (place : ℕ) (r : Option (Bor Group)) → IsItemAt others place r
    → other_cell (option_map (λ g. group g.now) r) ≡ cell_at others place
cell_is others place None h = sym (cell_none others place h.3)
cell_is others place (Some g) h = ap (λ x. cell (group x)) h.1 ∙ sym (cell_some others place g.now h.3.0)

none_left : (place : ℕ) → drop place (groups []) ≡ groups []
none_left zero = refl
none_left (suc place) = refl

rows_step : (list others : List Group) (place : ℕ) (d : Group) → place < length list
    → rows (drop place (groups list)) (drop place (groups others))
    ≡ row (group (get_or list place d)) (cell_at others place) ++ rows (drop (suc place) (groups list)) (drop (suc place) (groups others))
rows_step [] others place d l = absurd (omega arith)
rows_step (g ∷ list) [] zero d l = refl
rows_step (g ∷ list) (other ∷ others) zero d l = refl
rows_step (g ∷ list) [] (suc place) d l =
    ap (λ os. rows (drop place (groups list)) os) (sym (none_left place)) ∙ rows_step list [] place d (omega arith)
rows_step (g ∷ list) (other ∷ others) (suc place) d l = rows_step list others place d (omega arith)

pub rows_on : (told more all : Text) (list others : List Group) (place : ℕ) (d : Group) (r : Option (Bor Group)) → place < length list
    → IsItemAt others place r → told ++ rows (drop place (groups list)) (drop place (groups others)) ≡ all
    → more ≡ told ++ row (group (get_or list place d)) (other_cell (option_map (λ g. group g.now) r))
    → more ++ rows (drop (place + 1) (groups list)) (drop (place + 1) (groups others)) ≡ all
rows_on told more all list others place d r l item before e =
    let here = row (group (get_or list place d)) (cell_at others place) in
    let next : suc place ≡ place + 1 = omega arith in
    let rest = λ (n : ℕ). rows (drop n (groups list)) (drop n (groups others)) in
    ap (λ (t : Text). t ++ rest (place + 1)) (e ∙ ap (λ (c : Text). told ++ row (group (get_or list place d)) c) (cell_is others place r item))
    ∙ ap (λ (n : ℕ). (told ++ here) ++ rest n) (sym next)
    ∙ append_assoc told here (rest (suc place))
    ∙ ap (λ (t : Text). told ++ t) (sym (rows_step list others place d l))
    ∙ before
