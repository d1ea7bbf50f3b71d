use Rattle.std.proofs.Common.{◌≡◌, ◌<◌, inl, inr, List, length, true, get_or, take, ap, ◌∙◌, subst, sym, arith}
use Rattle.std.proofs.lemmas.List.{take_all, take_more}
use Rattle.std.proofs.lemmas.List.Elements.{All-get_or, All-push}
use Rattle.std.specs.List.{All, list_any}
use Rattle.differ.specs.OnCall.{AreCrowded}
use Rattle.differ.specs.Named.{is_call}
use Rattle.compare.specs.Complete.{IsCrowded, is_crowded}
use Rattle.compare.specs.Past.{IsUndecided}
use Rattle.widths.specs.Crowded as past
use Rattle.compare.specs.declared.search.Crowded.{Crowded}
use Rattle.compare.proofs.CompleteLaws.{any_last, any_more, any_push, on_crowded}
use Rattle.compare.proofs.search.crowded_of.Goals as goal

pub loop-call-preserved : goal.loop-call-preserved
loop-call-preserved c =
    let all = c.args.calls.now in
    let i = c.loop-call.call-index in
    let list : List Crowded = c.loop-call.list.items in
    let lt : i < length all = omega arith in
    record {
      are = λ p q h.
          subst (λ (l : List Crowded). All (IsCrowded c.args.family p q) l) (sym c.in_ok-push.ensures.items)
          (All-push (IsCrowded c.args.family p q) list _ (c.loop-call.invariant.are p q h)
          (record { machine = c.machine_with.ensures; is = All-get_or (λ call. AreCrowded p q call.token call.nr) all i _ lt h }));
      undecided = λ p h.
          subst (λ (l : List Crowded). All (IsUndecided c.args.family p) l) (sym c.in_ok-push.ensures.items)
          (All-push (IsUndecided c.args.family p) list _ (c.loop-call.invariant.undecided p h)
          (record { machine = c.machine_with.ensures; is = All-get_or (λ call. past.AreCrowded p call.token call.nr) all i _ lt h }));
      named = λ t n told.
          subst (λ (l : List Crowded). list_any (is_crowded t n) l ≡ true) (sym c.in_ok-push.ensures.items)
          (elim (any_push (is_call t n) (take i all) _ (ap (list_any (is_call t n)) (sym (take_more all i _ lt)) ∙ told)) [
            | inl before ↦ any_more (is_crowded t n) list _ (c.loop-call.invariant.named t n before)
            | inr here ↦ any_last (is_crowded t n) list _ here
          ]);
    }

pub returns-clause-named : goal.returns-clause-named
returns-clause-named c = λ t n told.
    c.loop-call.invariant.named t n (ap (list_any (is_call t n)) (take_all c.loop-call.call-index c.args.calls.now (omega arith)) ∙ told)
