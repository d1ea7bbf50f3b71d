use Rattle.std.proofs.Common.{◌≡◌, ◌≤◌, None, Some, true, false, is_some, sym, ap, ◌∙◌, refl}
use Rattle.std.specs.Option.{option_map}
use Rattle.std.specs.Map.{set_value}
use Rattle.processes.specs.First.{by_program}
use Rattle.processes.specs.Kernel.{signalled}
use Rattle.processes.specs.Views.{SetAt, same_text}
use Rattle.lifecycle.specs.declared.command.Reply.TheVariants.{Accepted, Refused}
use Rattle.lifecycle.specs.declared.command.Status.TheVariants.{Created, Running, Stopped}
use Rattle.lifecycle.specs.declared.entry.Phase.TheVariants.{Ended}
use Rattle.lifecycle.specs.declared.fault.Refusal.TheVariants.{NoContainer, NotAlive, BadSignal}
use Rattle.lifecycle.specs.Commands.Command.{Kill}
use Rattle.lifecycle.specs.Steps.{kill, running}
use Rattle.lifecycle.specs.Worlds.{Container, put}
use Rattle.lifecycle.specs.Listed.{listed}
use Rattle.lifecycle.specs.Views.{world_of}
use Rattle.lifecycle.specs.Entries.{FindsAt, container_of, is_started, started_in, world_from}
use Rattle.lifecycle.proofs.CommandLaws.{bad_created, bad_running, ended_as, ids_kept, is_known, killed_created}
use Rattle.lifecycle.proofs.CommandLaws.{killed_running, made, runs_on, set_own, step_kept}
use Rattle.lifecycle.proofs.Entries.{changed, not_there, there, told, unchanged, written}
use Rattle.lifecycle.proofs.SoundLaws.{signal_sound_in, sound_set}
use Rattle.lifecycle.proofs.runtime.Runtime.kill.Goals as goal
use Rattle.lifecycle.proofs.runtime.Runtime.kill.Goals.{then-is_fatal, else-is_fatal}

pub returns-in_default : goal.returns-in_default
unfolding world_of
returns-in_default g c =
    let k = g.K.Kernel.processes c.args.self.now.kernel in
    let id = c.args.id.now in
    let es = listed c.args.self.now.entries in
    unchanged by_program (Kill id c.args.sig) (world_from k es) None (Refused NoContainer) (not_there k id es c.in_default.ensures.none) refl

pub returns-then-sig-gt-LAST_SIGNAL : goal.returns-then-sig-gt-LAST_SIGNAL
unfolding world_of
returns-then-sig-gt-LAST_SIGNAL g c =
    let k = g.K.Kernel.processes c.args.self.now.kernel in
    let id = c.args.id.now in
    let es = listed c.args.self.now.entries in
    let found = c.in-Some.ensures.some in
    let container = container_of c.in-Some.field-0.entry (k id) in
    unchanged by_program (Kill id c.args.sig) (world_from k es) (Some container) (Refused BadSignal) (there k id es c.in-Some.field-0.entry found.kept)
    (bad_created c.args.sig container (sym found.status ∙ c.in-Created.is) c.if-sig-gt-LAST_SIGNAL.true)

pub invariant_of-self : goal.invariant_of-self
invariant_of-self g c =
    let k = g.K.Kernel.processes c.args.self.now.kernel in
    let id = c.args.id.now in
    let old = listed c.args.self.now.entries in
    let found = c.in-Some.ensures.some in
    let e = c.in-Some.field-0.entry in
    let named = c.in-Some.field-0.name in
    let ended = record e { phase = Ended } in
    let finds : FindsAt old (listed c.come_to.new.self) named (Some ended) = c.come_to.ensures.finds e (rw found.name found.kept) in
    let known = is_known old id e c.args.self.now.ids found.kept in
    let idle : is_started e.phase ≡ false = ap is_started (made e.phase e (k id) (sym found.status ∙ c.in-Created.is)) in
    let none = c.args.self.now.in_step id ∙ (ap started_in found.kept ∙ idle) in record {
      ids = ids_kept old (listed c.come_to.new.self) named (Some ended) finds (rw found.name known) c.args.self.now.ids;
      in_step = step_kept k k old (listed c.come_to.new.self) named (k named) (Some ended) (set_own k named) finds (ap (λ q. is_some (k q)) found.name ∙ none) c.args.self.now.in_step;
      sound = c.args.self.now.sound;
    }

pub invariant_of-self-in-Running-clause-sound : goal.invariant_of-self-in-Running-clause-sound
invariant_of-self-in-Running-clause-sound g c =
    let k = g.K.Kernel.processes in
    let named = c.in-Some.field-0.name in
    let before = k c.args.self.now.kernel named in
    sound_set (k c.args.self.now.kernel) (k c.signal.new.self) named (option_map (signalled c.args.sig) before) c.signal.ensures
    (signal_sound_in c.args.sig before (c.args.self.now.sound named)) c.args.self.now.sound

pub returns-then-sig-gt-LAST_SIGNAL-2 : goal.returns-then-sig-gt-LAST_SIGNAL-2
unfolding world_of
returns-then-sig-gt-LAST_SIGNAL-2 g c =
    let k = g.K.Kernel.processes c.args.self.now.kernel in
    let id = c.args.id.now in
    let es = listed c.args.self.now.entries in
    let found = c.in-Some.ensures.some in
    let container = container_of c.in-Some.field-0.entry (k id) in
    unchanged by_program (Kill id c.args.sig) (world_from k es) (Some container) (Refused BadSignal) (there k id es c.in-Some.field-0.entry found.kept)
    (bad_running c.args.sig container (sym found.status ∙ c.in-Running.is) c.if-sig-gt-LAST_SIGNAL-2.true)

pub returns-after-is_fatal : goal.returns-after-is_fatal
unfolding world_of
returns-after-is_fatal g c =
    let k = g.K.Kernel.processes c.args.self.now.kernel in
    let id = c.args.id.now in
    let es = listed c.args.self.now.entries in
    let found = c.in-Some.ensures.some in
    let e = c.in-Some.field-0.entry in
    let container = container_of e (k id) in
    let created : container.status ≡ Created = sym found.status ∙ c.in-Created.is in
    let low : c.args.sig ≤ 64 = c.if-sig-gt-LAST_SIGNAL.false in
    let ended = record e { phase = Ended } in
    elim c.if-is_fatal.branch [
      | then-is_fatal w ↦
          let entries : (listed w.come_to.new.self) ≡ set_value (same_text id) es ended =
          w.come_to.ensures.entries e (rw found.name found.kept) ∙ ap (λ q. set_value (same_text q) es ended) found.name in
          let stops = ended_as e.phase e (k id) (made e.phase e (k id) created) in
          ap (λ r. (Accepted, world_of r)) w.self-is
          ∙ changed by_program (Kill id c.args.sig) (world_from k es) (world_from k (listed w.come_to.new.self)) (Some container) (Some (record container { status = Stopped })) Accepted
          (there k id es e found.kept)
          (killed_created c.args.sig container true (sym c.is_fatal.ensures ∙ w.if-is_fatal.true) created low)
          (ap (world_from k) entries ∙ (written k k id (k id) ended e es (set_own k id) found.distinct found.kept
          ∙ ap (λ (x : Container). put id (Some x) (world_from k es)) (sym stops)))
      | else-is_fatal w ↦
          ap (λ r. (Accepted, world_of r)) w.self-is
          ∙ unchanged by_program (Kill id c.args.sig) (world_from k es) (Some container) Accepted (there k id es e found.kept)
          (killed_created c.args.sig container false (sym c.is_fatal.ensures ∙ w.if-is_fatal.false) created low)
    ]

pub returns-else-sig-gt-LAST_SIGNAL-2 : goal.returns-else-sig-gt-LAST_SIGNAL-2
unfolding world_of
returns-else-sig-gt-LAST_SIGNAL-2 g c =
    let k = g.K.Kernel.processes in
    let id = c.args.id.now in
    let es = listed c.args.self.now.entries in
    let found = c.in-Some.ensures.some in
    let e = c.in-Some.field-0.entry in
    let old = k c.args.self.now.kernel in
    let container = container_of e (old id) in
    let runs : container.status ≡ Running = sym found.status ∙ c.in-Running.is in
    let low : c.args.sig ≤ 64 = c.if-sig-gt-LAST_SIGNAL-2.false in
    let set : SetAt old (k c.signal.new.self) id (option_map (signalled c.args.sig) (old id)) = rw (sym found.name) c.signal.ensures in
    changed by_program (Kill id c.args.sig) (world_from old es) (world_from (k c.signal.new.self) es) (Some container)
    (Some (running container (signalled c.args.sig container.processes))) Accepted
    (there old id es e found.kept)
    (killed_running c.args.sig container runs low)
    (told old (k c.signal.new.self) id (option_map (signalled c.args.sig) (old id)) e es set found.distinct found.kept
    ∙ ap (λ (x : Container). put id (Some x) (world_from old es)) (runs_on (signalled c.args.sig) e.phase e (old id) runs))

pub returns-in-Stopped : goal.returns-in-Stopped
unfolding world_of
returns-in-Stopped g c =
    let k = g.K.Kernel.processes c.args.self.now.kernel in
    let id = c.args.id.now in
    let es = listed c.args.self.now.entries in
    let found = c.in-Some.ensures.some in
    let container = container_of c.in-Some.field-0.entry (k id) in
    unchanged by_program (Kill id c.args.sig) (world_from k es) (Some container) (Refused NotAlive) (there k id es c.in-Some.field-0.entry found.kept)
    (ap (λ s. kill c.args.sig s container) (sym found.status ∙ c.in-Stopped.is))
