use Rattle.std.proofs.Common.{◌≡◌, ◌∙◌, inl, inr, sym}
use Rattle.std.specs.Prelude.{codes, map}
use Rattle.std.specs.List.{All}
use Rattle.wording.proofs.Results.{if_ok_weaker}
use Rattle.wording.specs.Told.{RefusesBy}
use Rattle.wording.proofs.Ends.{ends_by}
use Rattle.explain.specs.Audit.{AnswersEvents, MayBe}
use Rattle.explain.specs.inner.Origins.{origin_of}
use Rattle.explain.proofs.AuditLaws.{done_is, nothing_is, some_is}
use Rattle.explain.proofs.audited.auditing.told_of.Goals as goal

pub returns-then-is_nothing : goal.returns-then-is_nothing
returns-then-is_nothing c =
    let events = c.args.events.now in
    let unread = c.args.unread in
    let nothing = nothing_is events unread (sym c.is_nothing.ensures ∙ c.if-is_nothing.true) in
    if_ok_weaker (RefusesBy (codes "refused lines: none has arch, syscall and code"))
    (AnswersEvents c.args.family c.args.profile.now c.args.all.now.rules.items c.args.all.now.ends.items events
    (map origin_of c.args.origins.now) c.args.further unread)
    (λ told tells. inl (record { none = nothing.0; all_read = nothing.1; tells = tells })) c.no_event.result c.no_event.ensures

pub returns : goal.returns
returns c = inr (record {
  some = some_is c.args.events.now c.args.unread (sym c.is_nothing.ensures ∙ c.if-is_nothing.false);
  tells = rw c.into_bytes.ensures.value c.in_ok-text.ensures;
  end_is =
      ends_by (All (MayBe c.args.profile.now) c.args.events.now × (c.args.unread ≡ 0)) c.is_done.result c.of.result c.of.ensures
      (done_is c.args.profile.now c.args.events.now c.args.unread c.is_done.result c.is_done.ensures);
})
