use Rattle.std.proofs.Common.{◌≡◌, ℕ, true, ap, ◌∙◌}
use Rattle.std.specs.List.{All, list_any}
use Rattle.std.proofs.lemmas.List.Elements.{All-nil, All-same}
use Rattle.differ.specs.declared.direction.Direction.TheVariants.{More, Less}
use Rattle.differ.specs.declared.named.Call.{Call}
use Rattle.differ.specs.Named.{is_named}
use Rattle.widths.specs.Crowded.{AreCrowded}
use Rattle.compare.specs.Complete.{is_crowded}
use Rattle.compare.specs.Past.{IsUndecided}
use Rattle.compare.proofs.PastLaws.{past_are}
use Rattle.compare.proofs.lint.decided.finding.Goals as goal

pub returns : goal.returns
returns c =
    let p = c.args.profile.now in
    let family = c.args.family in
    let past = c.in_ok-past.past in
    let stopped = c.in_ok-stopped.stopped in
    let crowded = c.in_ok-crowded.crowded.items in
    let P : Call → Type 0 = λ call. AreCrowded p call.token call.nr in
    let before : All P c.new-calls.result.items = All-same P _ _ c.new-calls.ensures.items (All-nil P) in
    let first : All P c.add_all.new.list.items =
    c.in_ok-add_all.ensures.crowded p (All-same P _ _ c.deref.ensures.value c.in_ok-past.ensures.told.crowded) before in
    let both : All P c.add_all-2.new.list.items =
    c.in_ok-add_all-2.ensures.crowded p (All-same P _ _ c.deref-2.ensures.value c.in_ok-stopped.ensures.told.crowded) first in
    let undecided : All (IsUndecided family p) crowded = c.in_ok-crowded.ensures.undecided p (All-same P _ _ c.deref-3.ensures.value both) in
    let named : (t n : ℕ) → is_named c.add_all-2.new.list.items t n ≡ true → list_any (is_crowded t n) crowded ≡ true = λ t n h.
    c.in_ok-crowded.ensures.named t n (ap (λ l. is_named l t n) c.deref-3.ensures.value ∙ h) in
    c.finding_of.ensures family p (record {
      past = past_are family p Less past crowded c.in_ok-past.ensures undecided
          (λ t n h. named t n (c.in_ok-add_all-2.ensures.stay t n (c.in_ok-add_all.ensures.added t n (ap (λ l. is_named l t n) c.deref.ensures.value ∙ h))));
      stopped = past_are family p More stopped crowded c.in_ok-stopped.ensures undecided
          (λ t n h. named t n (c.in_ok-add_all-2.ensures.added t n (ap (λ l. is_named l t n) c.deref-2.ensures.value ∙ h)));
    })
