use Rattle.std.proofs.Common.{◌≡◌, true, None, Some, sym, ap, ◌∙◌, refl}
use Rattle.std.specs.Option.{option_map}
use Rattle.processes.specs.Attached.{beside_of}
use Rattle.processes.specs.First.{by_program}
use Rattle.processes.specs.Views.{SetAt, can_grow_in, present_in}
use Rattle.processes.specs.declared.outcome.Outcome.{Outcome}
use Rattle.processes.specs.declared.outcome.Outcome.TheVariants.{NoTask}
use Rattle.lifecycle.specs.declared.command.Reply.TheVariants.{Presented, Refused}
use Rattle.lifecycle.specs.declared.fault.Refusal.TheVariants.{NoContainer}
use Rattle.lifecycle.specs.Commands.Command.{Call}
use Rattle.lifecycle.specs.Steps.{call}
use Rattle.lifecycle.specs.Listed.{listed}
use Rattle.lifecycle.specs.Views.{world_of}
use Rattle.lifecycle.specs.Entries.{container_of, world_from}
use Rattle.lifecycle.proofs.CommandLaws.{on_err, status_ended, status_made}
use Rattle.lifecycle.proofs.Entries.{changed, not_there, same_world, there, told, unchanged}
use Rattle.lifecycle.proofs.SoundLaws.{called, grows_on, present_sound, sound_either}
use Rattle.lifecycle.proofs.runtime.Runtime.call.Goals as goal

pub returns-in_default-clause-step : goal.returns-in_default-clause-step
unfolding world_of
returns-in_default-clause-step g c =
    let k = g.K.Kernel.processes c.args.self.now.kernel in
    let id = c.args.id.now in
    let es = listed c.args.self.now.entries in
    let given = beside_of (option_map (λ a. a.now) c.args.attached) c.args.response in
    unchanged by_program (Call id c.args.task c.args.rec.now given) (world_from k es) None (Refused NoContainer) (not_there k id es c.in_default.ensures.none) refl

pub returns-in-Made-clause-step : goal.returns-in-Made-clause-step
unfolding world_of
returns-in-Made-clause-step g c =
    let k = g.K.Kernel.processes c.args.self.now.kernel in
    let id = c.args.id.now in
    let es = listed c.args.self.now.entries in
    let given = beside_of (option_map (λ a. a.now) c.args.attached) c.args.response in
    let e = c.in-Some.field-0.entry in
    let container = container_of e (k id) in
    unchanged by_program (Call id c.args.task c.args.rec.now given) (world_from k es) (Some container) (Presented NoTask) (there k id es e c.in-Some.ensures.some.kept)
    (ap (λ s. call c.args.task c.args.rec.now given s container) (status_made e (k id) c.in-Made.is))

pub returns-in-Ended-clause-step : goal.returns-in-Ended-clause-step
unfolding world_of
returns-in-Ended-clause-step g c =
    let k = g.K.Kernel.processes c.args.self.now.kernel in
    let id = c.args.id.now in
    let es = listed c.args.self.now.entries in
    let given = beside_of (option_map (λ a. a.now) c.args.attached) c.args.response in
    let e = c.in-Some.field-0.entry in
    let container = container_of e (k id) in
    unchanged by_program (Call id c.args.task c.args.rec.now given) (world_from k es) (Some container) (Presented NoTask) (there k id es e c.in-Some.ensures.some.kept)
    (ap (λ s. call c.args.task c.args.rec.now given s container) (status_ended e (k id) c.in-Ended.is))

pub invariant_of-self-clause-sound : goal.invariant_of-self-clause-sound
invariant_of-self-clause-sound g c =
    let k = g.K.Kernel.processes in
    let named = c.in-Some.field-0.name in
    let given = beside_of (option_map (λ a. a.now) c.args.attached) c.args.response in
    let before = k c.args.self.now.kernel named in
    sound_either c.present.result (k c.args.self.now.kernel) (k c.present.new.self) named (present_in c.args.task c.args.rec.now given before).1
    c.present.ensures.ok c.present.ensures.err (present_sound c.args.task c.args.rec.now given before (c.args.self.now.sound named)) c.args.self.now.sound

pub returns-in_ok-outcome-in-Started-clause-step : goal.returns-in_ok-outcome-in-Started-clause-step
unfolding world_of
returns-in_ok-outcome-in-Started-clause-step g c =
    let k = g.K.Kernel.processes in
    let id = c.args.id.now in
    let es = listed c.args.self.now.entries in
    let task = c.args.task in
    let r = c.args.rec.now in
    let given = beside_of (option_map (λ a. a.now) c.args.attached) c.args.response in
    let found = c.in-Some.ensures.some in
    let e = c.in-Some.field-0.entry in
    let old = k c.args.self.now.kernel in
    let new = k c.present.new.self in
    let container = container_of e (old id) in
    let after = (present_in task r given (old id)).1 in
    let set : SetAt old new id after = rw (sym found.name) c.in_ok-outcome-in-Started.ensures.ok in
    let answer : c.in_ok-outcome-in-Started.outcome ≡ (present_in task r given (old id)).0 =
    c.in_ok-outcome-in-Started.ensures.outcome ∙ ap (λ q. (present_in task r given (old q)).0) found.name in
    changed by_program (Call id task r given) (world_from old es) (world_from new es) (Some container) (Some (container_of e after)) (Presented c.in_ok-outcome-in-Started.outcome)
    (there old id es e found.kept)
    (called task r given e e.phase (old id) c.in-Started.is (c.args.self.now.sound id)
    ∙ ap (λ (o : Outcome). (Presented o, Some (container_of e after))) (sym answer))
    (told old new id after e es set found.distinct found.kept)

pub returns-in_err-outcome-in-Started-clause-err : goal.returns-in_err-outcome-in-Started-clause-err
unfolding world_of
returns-in_err-outcome-in-Started-clause-err g c =
    let k = g.K.Kernel.processes in
    on_err c.from_residual.result (same_world (k c.args.self.now.kernel) (k c.present.new.self) (listed c.args.self.now.entries) c.in_err-outcome-in-Started.ensures.err)

pub returns-in_err-outcome-in-Started-clause-growth : goal.returns-in_err-outcome-in-Started-clause-growth
unfolding world_of
returns-in_err-outcome-in-Started-clause-growth g c =
    let k = g.K.Kernel.processes c.args.self.now.kernel in
    let id = c.args.id.now in
    let es = listed c.args.self.now.entries in
    let task = c.args.task in
    let r = c.args.rec.now in
    let given = beside_of (option_map (λ a. a.now) c.args.attached) c.args.response in
    let found = c.in-Some.ensures.some in
    let e = c.in-Some.field-0.entry in
    let grows : can_grow_in task r given (k id) ≡ true = ap (λ q. can_grow_in task r given (k q)) (sym found.name)
    ∙ c.in_err-outcome-in-Started.ensures.growth in
    let both = grows_on task r given e e.phase (k id) c.in-Started.is (c.args.self.now.sound id) grows in
    on_err c.from_residual.result (record {
      container = container_of e (k id);
      there = there k id es e found.kept;
      status_is = both.0;
      holds = both.1;
    })
