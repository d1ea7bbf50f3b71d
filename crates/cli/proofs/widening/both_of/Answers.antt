use Rattle.std.proofs.Common.{◌≡◌, ◌++◌, ◌∷◌, [], ◌∙◌, ℕ, List, Vec, Global, ap, map, sym}
use Rattle.cli.proofs.WidenLaws.{widened_of}
use Rattle.cli.proofs.widening.both_of.Goals as goal

abbrev bytes_of : Vec ℕ Global → List ℕ
bytes_of t = t.items

pub returns : goal.returns
returns c = λ file texts runtime otherwise taken learned.
    let pushed : List (Vec ℕ Global) = c.push.new.self.items in
    let one : pushed ≡ c.args.learned.told.bytes ∷ [] =
    c.in_ok-push.ensures.items ∙ ap (λ (t : List (Vec ℕ Global)). t ++ c.args.learned.told.bytes ∷ []) c.new-bundles.ensures.items in
    let both : c.deref.result.now ≡ c.args.learned.told.bytes ∷ c.args.bundle ∷ [] =
    c.deref.ensures.value ∙ c.in_ok-push-2.ensures.items ∙ ap (λ (t : List (Vec ℕ Global)). t ++ c.args.bundle ∷ []) one in
    widened_of c.args.native file c.args.bundle.items c.args.learned.told.bytes.items texts runtime otherwise (map bytes_of c.deref.result.now)
    c.in_ok-both.both.told (ap (map bytes_of) both) taken (learned (sym c.is_done.ensures ∙ c.if-not-is_done.false)) c.in_ok-both.ensures
