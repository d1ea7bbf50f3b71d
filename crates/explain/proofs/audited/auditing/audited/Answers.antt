use Rattle.std.proofs.Common.{◌≡◌, ℕ, List, ap, subst, ◌∙◌}
use Rattle.std.specs.Prelude.{map}
use Rattle.machines.specs.declared.arch.Family.{Family}
use Rattle.machines.specs.Arch.{family_of}
use Rattle.explain.specs.Audit.{AnswersEvents, count_of_others, count_unread, events_in, origins_in}
use Rattle.explain.specs.inner.Origins.{origin_of}
use Rattle.explain.specs.declared.audited.event.Event.{Event}
use Rattle.explain.proofs.audited.auditing.audited.Goals as goal

pub returns-clause-asks : goal.returns-clause-asks
returns-clause-asks c =
    let means = c.in_ok-read.ensures.ok in
    let p = c.in_ok-read.read.now.profile in
    let rules = c.in_ok-read.read.now.by_entry.rules.items in
    let ends = c.in_ok-read.read.now.by_entry.ends.items in
    let told = c.in_ok-told.told in
    let lines = c.args.lines.now in
    let events = events_in lines in
    let origins = origins_in lines in
    let again : map origin_of c.deref.result.now ≡ origins = ap (map origin_of) c.deref.ensures.value ∙ c.in_ok-origins.ensures in
    let known : map origin_of c.deref-3.result.now ≡ origins = ap (map origin_of) c.deref-3.ensures.value ∙ c.in_ok-origins.ensures in
    record {
      policy = p;
      rules = rules;
      ends = ends;
      read = record { t = means.0; is_text = means.1; means = means.2; are = c.in_ok-read.ensures.rules };
      answers = subst (λ (f : Family). AnswersEvents f p rules ends events origins (count_of_others origins lines) (count_unread lines) told)
          (c.family.ensures ∙ ap family_of c.native.ensures)
          (subst (λ (n : ℕ). AnswersEvents c.family.result p rules ends events origins (count_of_others origins lines) n told)
          c.count_unread-unread.ensures
          (subst (λ (n : ℕ). AnswersEvents c.family.result p rules ends events origins n c.count_unread-unread.result told)
          (c.in_ok-further.ensures ∙ ap (λ (os : List (Event × List ℕ)). count_of_others os lines) again)
          (subst (λ (os : List (Event × List ℕ)). AnswersEvents c.family.result p rules ends events os c.in_ok-further.further
          c.count_unread-unread.result told) known
          (subst (λ (es : List Event). AnswersEvents c.family.result p rules ends es (map origin_of c.deref-3.result.now)
          c.in_ok-further.further c.count_unread-unread.result told)
          (c.deref-2.ensures.value ∙ c.in_ok-events.ensures) c.in_ok-told.ensures))));
    }
