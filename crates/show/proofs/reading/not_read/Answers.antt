use Rattle.std.proofs.Common.{◌≡◌, ◌++◌, ◌∷◌, List, ℕ, inl, inr, ap, subst, ◌∙◌}
use Rattle.std.specs.Prelude.{IfSome, codes, string_bytes}
use Rattle.texts.specs.Lines.{line_feed}
use Rattle.profile_json.specs.Place.{BreaksAt}
use Rattle.profile_json.specs.Fault.{fault_of, text_of}
use Rattle.profile_json.specs.declared.fault.ProfileError.TheVariants.{Version}
use Rattle.wording.specs.declared.told.End.TheVariants.{Refused}
use Rattle.wording.specs.declared.told.Told.{Told}
use Rattle.show.specs.Read.{IsPlaceLine, IsRead}
use Rattle.wording.proofs.Results.{if_ok_weaker}
use Rattle.show.proofs.reading.not_read.Goals as goal

pub returns-in-Version : goal.returns-in-Version
returns-in-Version c = λ stands.
    let bundle = c.args.document.now.bytes in
    let place = c.args.refusal.now.place in
    let version : IfSome (fault_of Version) (BreaksAt bundle c.args.document.now.native place) =
    subst (λ e. IfSome (fault_of e) (BreaksAt bundle c.args.document.now.native place)) c.in-Version.is stands in
    if_ok_weaker (λ (told : Told). told.end ≡ Refused) (IsRead c.args.document.now.native bundle)
    (λ told end. inr (inr (record { place = place; stands = version; end = end }))) c.read_as_first.result c.read_as_first.ensures

pub returns-in_default : goal.returns-in_default
returns-in_default c = λ stands.
    let e = c.args.refusal.now.error in
    let place = c.args.refusal.now.place in
    if_ok_weaker (λ (told : Told). (told.end ≡ Refused) × ((line : List ℕ) × IsPlaceLine place line × (told.bytes.items
    ≡ string_bytes c.new.result ++ (codes "refused profile " ++ (text_of e ++ line_feed ∷ line)))))
    (IsRead c.args.document.now.native c.args.document.now.bytes)
    (λ told is. inr (inl (record {
      error = e;
      is_fault = c.in_default.not-OutOfMemory;
      place = place;
      stands = stands;
      line = is.1.0;
      is_line = is.1.1;
      tells = is.1.2 ∙ ap (λ s. s ++ (codes "refused profile " ++ (text_of e ++ line_feed ∷ is.1.0))) c.new.ensures.bytes;
      end = is.0;
    })))
    c.refused.result c.refused.ensures
