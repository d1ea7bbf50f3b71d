-- What is added to a page, one text behind the other.
use Rattle.std.proofs.Common.{◌≡◌, ◌++◌, append_assoc, ap, sym, ◌∙◌}
use Rattle.std.specs.Prelude.{Result, Ok, Err, OnOk}
use Rattle.json_lines.specs.Lines.{Text}
use Rattle.page.specs.Shown.{shown}

pub on_ok : {T E : Type 0} (result : Result T E) (P Q : Type 0) → (P → Q) → OnOk result P → OnOk result Q
on_ok (Ok done) P Q f h = f h
on_ok (Err fault) P Q f h = tt

-- markup, behind what was added before
pub markup_next : (page so_far markup before more : Text) → before ≡ page ++ so_far → more ≡ before ++ markup
    → more ≡ page ++ (so_far ++ markup)
markup_next page so_far markup before more b e = e ∙ ap (λ (t : Text). t ++ markup) b ∙ append_assoc page so_far markup

-- markup, and a text behind it
pub text_next : (page so_far markup text same before more : Text) → before ≡ page ++ so_far → more ≡ before ++ (markup ++ shown text)
    → text ≡ same → more ≡ page ++ ((so_far ++ markup) ++ shown same)
text_next page so_far markup text same before more b e s =
    markup_next page so_far (markup ++ shown same) before more b (e ∙ ap (λ (t : Text). before ++ (markup ++ shown t)) s)
    ∙ ap (λ (t : Text). page ++ t) (sym (append_assoc so_far markup (shown same)))
