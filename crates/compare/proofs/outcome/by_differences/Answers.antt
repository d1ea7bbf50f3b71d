use Rattle.std.proofs.Common.{◌≡◌, List, true, ap, ◌∙◌, sym, subst}
use Rattle.std.specs.List.{All, list_any}
use Rattle.differ.specs.Differences.{is_told}
use Rattle.differ.specs.OnCall.{AreCrowded, IsFound}
use Rattle.differ.specs.declared.direction.Direction.TheVariants.{Any}
use Rattle.differ.specs.declared.found.Found.{Found}
use Rattle.differ.specs.declared.named.Call.{Call}
use Rattle.differ.specs.Named.{is_named}
use Rattle.compare.specs.Complete.{AreListed, is_on}
use Rattle.compare.specs.Difference.{IsDifference}
use Rattle.compare.specs.declared.difference.Difference.{Difference}
use Rattle.compare.proofs.CompleteLaws.{Keep, all_complete}
use Rattle.compare.proofs.outcome.by_differences.Goals as goal

pub differences_of-requires : goal.differences_of-requires
differences_of-requires c =
    subst (λ (l : List Found). All (λ f. IsFound c.args.first.now c.args.second.now f.call.arch f.call.nr Any f) l) (sym c.deref.ensures.value)
    c.requires.found

pub returns : goal.returns
returns c = λ asked are.
    let family = c.args.family in
    let p = c.args.first.now in
    let q = c.args.second.now in
    let changes = c.in_ok-changes.changes.items in
    let crowded = c.in_ok-crowded.crowded.items in
    let keep : Keep c.args.all.now changes crowded = record {
      told = λ t n d h.
          c.in_ok-changes.ensures.told t n d (ap (λ l. list_any (is_on t n d) l) c.deref-2.ensures.value
          ∙ c.in_ok-list.ensures.on t n d (ap (λ l. is_told l t n d) c.deref.ensures.value ∙ h));
      named = λ t n h. c.in_ok-crowded.ensures.named t n (ap (λ l. is_named l t n) c.deref-3.ensures.value ∙ h);
    } in
    let listed : AreListed family p q changes crowded = record {
      are_changes =
          c.in_ok-changes.ensures.are family p q
          (subst (λ (l : List Difference). All (IsDifference family p q) l) (sym c.deref-2.ensures.value) c.in_ok-list.ensures.are);
      are_crowded =
          c.in_ok-crowded.ensures.are p q
          (subst (λ (l : List Call). All (λ call. AreCrowded p q call.token call.nr) l) (sym c.deref-3.ensures.value) are.told.crowded);
      complete = all_complete p q asked c.args.all.now changes crowded are keep;
    } in
    c.comparison_of.ensures family listed
