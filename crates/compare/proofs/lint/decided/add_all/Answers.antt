use Rattle.std.proofs.Common.{◌≡◌, ◌<◌, inl, inr, length, take, ap, ◌∙◌, sym, arith}
use Rattle.std.proofs.lemmas.List.{take_all, take_more}
use Rattle.std.proofs.lemmas.List.Elements.{All-get_or}
use Rattle.std.specs.List.{list_any}
use Rattle.differ.specs.Named.{is_call}
use Rattle.differ.specs.declared.named.Call.{Call}
use Rattle.widths.specs.Crowded.{AreCrowded}
use Rattle.compare.proofs.CompleteLaws.{any_push}
use Rattle.compare.proofs.lint.decided.add_all.Goals as goal

pub loop-call-preserved : goal.loop-call-preserved
loop-call-preserved c =
    let all = c.args.more.now in
    let i = c.loop-call.call-index in
    let lt : i < length all = omega arith in
    record {
      crowded = λ p more before.
          let P : Call → Type 0 = λ x. AreCrowded p x.token x.nr in
          c.in_ok-add.ensures.crowded p (All-get_or P all i _ lt more)
          (c.loop-call.invariant.crowded p more before);
      stay = λ t n h. c.in_ok-add.ensures.stay t n (c.loop-call.invariant.stay t n h);
      added = λ t n named.
          elim (any_push (is_call t n) (take i all) _ (ap (list_any (is_call t n)) (sym (take_more all i _ lt)) ∙ named)) [
            | inl before ↦ c.in_ok-add.ensures.stay t n (c.loop-call.invariant.added t n before)
            | inr here ↦ c.in_ok-add.ensures.added t n here
          ];
    }

pub returns-clause-added : goal.returns-clause-added
returns-clause-added c = λ t n told.
    c.loop-call.invariant.added t n (ap (list_any (is_call t n)) (take_all c.loop-call.call-index c.args.more.now (omega arith)) ∙ told)
