-- How many details lines begin with.
use Rattle.std.proofs.Common.{◌≡◌, ℕ, ◌+◌, ◌<◌, ◌≤◌, Bool, true, false, List, [], ◌∷◌, drop, length, get_or, map, refl, ap, sym, ◌∙◌, arith}
use Rattle.std.proofs.lemmas.List.{drop_all, drop_more}
use denote.Ref.{Bor}
use Rattle.json_lines.specs.Lines.{Text}
use Rattle.json_lines.specs.inner.Tokens.{count, is_detail}
use Rattle.json_lines.specs.inner.Views.{texts}

count_more : (line : Text) (lines : List Text) → is_detail line ≡ true → count (line ∷ lines) ≡ 1 + count lines
count_more line lines e = rw e refl

count_none : (line : Text) (lines : List Text) → is_detail line ≡ false → count (line ∷ lines) ≡ 0
count_none line lines e = rw e refl

pub count_step : (all : ℕ) (lines : List (Bor Text)) (at : ℕ) (d : Bor Text) → all ≡ at + count (texts (drop at lines)) → at < length lines
    → is_detail (get_or lines at d).now ≡ true → all ≡ (at + 1) + count (texts (drop (at + 1) lines))
count_step all lines at d h l e =
    let here : count (texts (drop at lines)) ≡ 1 + count (texts (drop (at + 1) lines)) =
    ap (λ ls. count (texts ls)) (drop_more lines at d l) ∙ count_more (get_or lines at d).now (texts (drop (at + 1) lines)) e in
    omega (arith, h, here)

pub count_stop : (all : ℕ) (lines : List (Bor Text)) (at : ℕ) (d : Bor Text) → all ≡ at + count (texts (drop at lines)) → at < length lines
    → is_detail (get_or lines at d).now ≡ false → at ≡ all
count_stop all lines at d h l e =
    let here : count (texts (drop at lines)) ≡ 0 =
    ap (λ ls. count (texts ls)) (drop_more lines at d l) ∙ count_none (get_or lines at d).now (texts (drop (at + 1) lines)) e in
    omega (arith, h, here)

pub count_end : (all : ℕ) (lines : List (Bor Text)) (at : ℕ) → all ≡ at + count (texts (drop at lines)) → length lines ≤ at → all ≡ at
count_end all lines at h l =
    let here : count (texts (drop at lines)) ≡ 0 = ap (λ ls. count (texts ls)) (drop_all at lines l) in
    omega (arith, h, here)
