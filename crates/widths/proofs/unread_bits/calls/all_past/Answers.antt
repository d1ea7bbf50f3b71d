use Rattle.std.proofs.Common.{◌≡◌, ℕ, true, List, ◌∙◌, ap}
use Rattle.std.specs.List.{list_any}
use Rattle.differ.specs.OnCall.{is_for}
use Rattle.differ.specs.declared.named.Call.{Call}
use Rattle.differ.specs.Named.{is_named}
use Rattle.widths.specs.Past.{IsAnswered}
use Rattle.widths.proofs.CallLaws.{none_told, nothing_unlike}
use Rattle.widths.proofs.unread_bits.calls.all_past.Goals as goal

pub returns : goal.returns
returns c =
    let p = c.args.profile.now in
    let d = c.args.direction in
    let complete : (t n : ℕ) → list_any (is_for t n) p.rules ≡ true → IsAnswered p d c.add_each.new.all t n = λ t n named.
    c.in_ok-add_each.ensures.answered t n
    (ap (λ (xs : List Call). is_named xs t n) c.deref.ensures.value
    ∙ c.in_ok-list.ensures t n (ap (list_any (is_for t n)) c.rules-rules.ensures.rules ∙ named)) in
    record {
      told = c.in_ok-add_each.ensures.told (none_told p d _ c.new.ensures.items c.new-2.ensures.items);
      complete = complete;
      others = nothing_unlike p d c.add_each.new.all c.rules-rules.ensures.is_profile.clear complete;
    }
