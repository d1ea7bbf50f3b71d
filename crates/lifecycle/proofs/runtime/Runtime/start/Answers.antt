use Rattle.std.proofs.Common.{◌≡◌, None, Some, sym, ap, ◌∙◌, refl}
use Rattle.std.specs.Map.{set_value}
use Rattle.cert_check.specs.Checked.{profile_of}
use Rattle.processes.specs.First.{by_program}
use Rattle.processes.specs.Kernel.{Answer}
use Rattle.processes.specs.Views.{SetAt, same_text}
use Rattle.lifecycle.specs.declared.command.Reply.{Reply}
use Rattle.lifecycle.specs.declared.command.Reply.TheVariants.{Refused}
use Rattle.lifecycle.specs.declared.entry.Phase.TheVariants.{Started}
use Rattle.lifecycle.specs.declared.fault.Refusal.TheVariants.{NoContainer, NotCreated}
use Rattle.lifecycle.specs.Commands.Command.{Start}
use Rattle.lifecycle.specs.Steps.{first_call, left_after, running, start_reply}
use Rattle.lifecycle.specs.Worlds.{Container, put}
use Rattle.lifecycle.specs.Listed.{listed}
use Rattle.lifecycle.specs.Views.{world_of}
use Rattle.lifecycle.specs.Entries.{FindsAt, container_of, world_from}
use Rattle.lifecycle.proofs.CommandLaws.{begins, ended_no, ids_kept, is_known, not_created, on_err, runs_as, started_no, starts}
use Rattle.lifecycle.proofs.CommandLaws.{status_made, step_kept}
use Rattle.lifecycle.proofs.Entries.{changed, not_there, there, unchanged, written}
use Rattle.lifecycle.proofs.SoundLaws.{first_sound, sound_set}
use Rattle.lifecycle.proofs.runtime.Runtime.start.Goals as goal

pub returns-in_default-clause-step : goal.returns-in_default-clause-step
unfolding world_of
returns-in_default-clause-step g c =
    let k = g.K.Kernel.processes c.args.self.now.kernel in
    let id = c.args.id.now in
    let es = listed c.args.self.now.entries in
    unchanged by_program (Start id) (world_from k es) None (Refused NoContainer) (not_there k id es c.in_default.ensures.none) refl

pub invariant_of-self-in-Made : goal.invariant_of-self-in-Made
invariant_of-self-in-Made g c =
    let k = g.K.Kernel.processes in
    let id = c.args.id.now in
    let old = listed c.args.self.now.entries in
    let found = c.in-Some.ensures.some in
    let e = c.in-Some.field-0.entry in
    let named = c.in-Some.field-0.name in
    let started = record e { phase = Started } in
    let finds : FindsAt old (listed c.come_to.new.self) named (Some started) = c.come_to.ensures.finds e (rw found.name found.kept) in
    let known = is_known old id e c.args.self.now.ids found.kept in
    let p = first_call (profile_of e.checked).native (by_program e.checked) in record {
      ids = ids_kept old (listed c.come_to.new.self) named (Some started) finds (rw found.name known) c.args.self.now.ids;
      in_step = step_kept (k c.args.self.now.kernel) (k c.begin.new.kernel) old (listed c.come_to.new.self) named (Some (left_after p.0 p.1)) (Some started)
          c.in_ok-reply-in-Made.ensures.ok finds refl c.args.self.now.in_step;
      sound = sound_set (k c.args.self.now.kernel) (k c.begin.new.kernel) named (Some (left_after p.0 p.1)) c.in_ok-reply-in-Made.ensures.ok
          (first_sound (profile_of e.checked).native (by_program e.checked)) c.args.self.now.sound;
    }

pub returns-in_ok-reply-in-Made-clause-step : goal.returns-in_ok-reply-in-Made-clause-step
unfolding world_of
returns-in_ok-reply-in-Made-clause-step g c =
    let k = g.K.Kernel.processes in
    let id = c.args.id.now in
    let es = listed c.args.self.now.entries in
    let found = c.in-Some.ensures.some in
    let e = c.in-Some.field-0.entry in
    let old = k c.args.self.now.kernel in
    let new = k c.begin.new.kernel in
    let container = container_of e (old id) in
    let started = record e { phase = Started } in
    let p = first_call (profile_of e.checked).native (by_program e.checked) in
    let ps = left_after p.0 p.1 in
    let set : SetAt old new id (Some ps) = rw (sym found.name) c.in_ok-reply-in-Made.ensures.ok in
    let entries : (listed c.come_to.new.self) ≡ set_value (same_text id) es started =
    c.come_to.ensures.entries e (rw found.name found.kept) ∙ ap (λ q. set_value (same_text q) es started) found.name in
    let reply : c.in_ok-reply-in-Made.reply ≡ start_reply p.0 = c.in_ok-reply-in-Made.ensures.reply in
    changed by_program (Start id) (world_from old es) (world_from new (listed c.come_to.new.self)) (Some container) (Some (running container ps)) c.in_ok-reply-in-Made.reply
    (there old id es e found.kept)
    (starts container (status_made e (old id) c.in-Made.is)
    ∙ (ap (λ (x : Answer). (start_reply x.0, Some (running container (left_after x.0 x.1)))) (begins e (old id) c.in-Made.is)
    ∙ ap (λ (r : Reply). (r, Some (running container ps))) (sym reply)))
    (ap (world_from new) entries ∙ (written old new id (Some ps) started e es set found.distinct found.kept
    ∙ ap (λ (x : Container). put id (Some x) (world_from old es)) (sym (runs_as e (old id) ps c.in-Made.is))))

pub returns-in-Started-clause-step : goal.returns-in-Started-clause-step
unfolding world_of
returns-in-Started-clause-step g c =
    let k = g.K.Kernel.processes c.args.self.now.kernel in
    let id = c.args.id.now in
    let es = listed c.args.self.now.entries in
    let found = c.in-Some.ensures.some in
    let e = c.in-Some.field-0.entry in
    let container = container_of e (k id) in
    unchanged by_program (Start id) (world_from k es) (Some container) (Refused NotCreated) (there k id es e found.kept)
    (not_created container (started_no e (k id) c.in-Started.is))

pub returns-in-Ended-clause-step : goal.returns-in-Ended-clause-step
unfolding world_of
returns-in-Ended-clause-step g c =
    let k = g.K.Kernel.processes c.args.self.now.kernel in
    let id = c.args.id.now in
    let es = listed c.args.self.now.entries in
    let found = c.in-Some.ensures.some in
    let e = c.in-Some.field-0.entry in
    let container = container_of e (k id) in
    unchanged by_program (Start id) (world_from k es) (Some container) (Refused NotCreated) (there k id es e found.kept)
    (not_created container (ended_no e (k id) c.in-Ended.is))

pub returns-in_err-reply-in-Made-clause-growth : goal.returns-in_err-reply-in-Made-clause-growth
unfolding world_of
returns-in_err-reply-in-Made-clause-growth g c =
    let k = g.K.Kernel.processes c.args.self.now.kernel in
    let id = c.args.id.now in
    let es = listed c.args.self.now.entries in
    let e = c.in-Some.field-0.entry in
    on_err c.from_residual.result (record {
      container = container_of e (k id);
      there = there k id es e c.in-Some.ensures.some.kept;
      status_is = status_made e (k id) c.in-Made.is;
      holds = tt;
    })
