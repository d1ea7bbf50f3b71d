use Rattle.std.proofs.Common.{◌≡◌, ◌++◌, ◌∷◌, List, ℕ, subst, sym}
use Rattle.std.specs.Prelude.{codes, string_bytes}
use Rattle.texts.specs.Lines.{line_feed}
use Rattle.profile_json.specs.Fault.{text_of}
use Rattle.wording.specs.declared.told.End.TheVariants.{Refused}
use Rattle.wording.specs.declared.told.Told.{Told}
use Rattle.wording.proofs.Results.{if_ok_both}
use Rattle.show.specs.Read.{IsPlaceLine}
use Rattle.show.proofs.reading.refused.Goals as goal

pub returns : goal.returns
returns c =
    let text = string_bytes c.args.text in
    let line = c.deref.result.now in
    let error = c.args.refusal.now.error in
    if_ok_both (λ (told : Told). told.bytes.items ≡ text ++ (codes "refused profile " ++ (text_of error ++ line_feed ∷ line)))
    (λ (told : Told). told.end ≡ Refused)
    (λ (told : Told). (told.end ≡ Refused) × ((l : List ℕ) × IsPlaceLine c.args.refusal.now.place l × (told.bytes.items
    ≡ text ++ (codes "refused profile " ++ (text_of error ++ line_feed ∷ l)))))
    (λ told is end. (end, (line, subst (IsPlaceLine c.args.refusal.now.place) (sym c.deref.ensures) c.in_ok-line.ensures, is)))
    c.refused_at.result c.refused_at.ensures.text c.refused_at.ensures.end
