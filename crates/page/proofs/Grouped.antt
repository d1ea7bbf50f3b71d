-- The groups of lines, one after the other.
use Rattle.std.proofs.Common.{◌≡◌, ℕ, ◌+◌, ◌<◌, List, ◌∷◌, drop, get_or, length, map, take, ap, sym, ◌∙◌}
use Rattle.std.proofs.lemmas.List.{drop-drop, drop-map, drop_more, take-map}
use denote.Ref.{Bor}
use Rattle.json_lines.specs.Lines.{Text, groups_of}
use Rattle.json_lines.specs.inner.Tokens.{count, said}
use Rattle.json_lines.specs.inner.Views.{texts}
use Rattle.json_lines.proofs.Groups.{first_group}

behind_head : (head : Bor Text) (more details rest : List (Bor Text)) (n : ℕ) → n ≡ count (texts more) → details ≡ take n more
    → rest ≡ drop n more
    → groups_of (head.now ∷ texts more) ≡ (head.now, map said (texts details)) ∷ groups_of (texts rest)
behind_head head more details rest n c d r =
    let first : texts details ≡ take (count (texts more)) (texts more) =
    ap texts (d ∙ ap (λ k. take k more) c) ∙ sym (take-map (λ (l : Bor Text). l.now) (count (texts more)) more) in
    let last : texts rest ≡ drop (count (texts more)) (texts more) =
    ap texts (r ∙ ap (λ k. drop k more) c) ∙ sym (drop-map (λ (l : Bor Text). l.now) (count (texts more)) more) in
    first_group head.now (texts more)
    ∙ ap (λ (ls : List Text). (head.now, map said ls) ∷ groups_of (drop (count (texts more)) (texts more))) (sym first)
    ∙ ap (λ (ls : List Text). (head.now, map said (texts details)) ∷ groups_of ls) (sym last)

pub group_here : (lines more details : List (Bor Text)) (at n : ℕ) (d : Bor Text) → at < length lines → more ≡ drop (at + 1) lines
    → n ≡ count (texts more) → details ≡ take n more
    → groups_of (texts (drop at lines)) ≡ ((get_or lines at d).now, map said (texts details)) ∷ groups_of (texts (drop (at + 1 + n) lines))
group_here lines more details at n d l m c e =
    ap (λ (ls : List (Bor Text)). groups_of (texts ls)) (drop_more lines at d l ∙ ap (λ (ls : List (Bor Text)). get_or lines at d ∷ ls) (sym m))
    ∙ behind_head (get_or lines at d) more details (drop (at + 1 + n) lines) n c e
    (sym (drop-drop n (at + 1) lines) ∙ ap (drop n) (sym m))
