use Rattle.std.proofs.Common.{List, ap, sym, ◌∙◌, ◌∷◌, []}
use Rattle.std.specs.List.{list_any}
use Rattle.std.proofs.lemmas.List.{map-append}
use Rattle.strace_logs.specs.Replayed.{is_alike}
use Rattle.strace_logs.specs.declared.refusals.RefusedCall.{RefusedCall}
use Rattle.strace_logs.specs.inner.Views.{all_refused, refused}
use Rattle.strace_logs.proofs.RefusedLaws.{next_added, next_kept}
use Rattle.strace_logs.proofs.refusals.put_first.Goals as goal

pub returns-then-has_alike : goal.returns-then-has_alike
returns-then-has_alike c = λ before have.
    next_kept before (all_refused c.args.firsts.now.items) (refused c.args.call.now) have
    (sym c.if-has_alike.true ∙ c.has_alike.ensures
    ∙ ap (λ (l : List RefusedCall). list_any (λ b. is_alike b (refused c.args.call.now)) (all_refused l)) c.deref.ensures.value)

pub returns : goal.returns
returns c = λ before have.
    next_added before (all_refused c.args.firsts.now.items) (all_refused c.push.new.self.items) (refused c.args.call.now) have
    (sym c.if-has_alike.false ∙ c.has_alike.ensures
    ∙ ap (λ (l : List RefusedCall). list_any (λ b. is_alike b (refused c.args.call.now)) (all_refused l)) c.deref.ensures.value)
    (ap all_refused c.in_ok-push.ensures.items ∙ map-append refused c.args.firsts.now.items (c.args.call.now ∷ []))
