-- What is true of a container's tasks, whatever they did: so a container of which group 1 has ended finds no task.
use Rattle.std.proofs.Common.{◌≡◌, ◌&&◌, ℕ, Bool, true, false, List, [], ◌∷◌, Option, None, Some, if◌then◌else◌, refl, sym, ap, ◌∙◌, subst}
use Rattle.std.proofs.Common.{Result, Ok, Err, OnOk, OnErr}
use Rattle.std.specs.Option.{option_map}
use Rattle.machines.specs.declared.arch.Arch.{Arch}
use Rattle.call_record.specs.declared.layout.Record.{Record}
use Rattle.processes.specs.Attached.{Beside, nothing_beside}
use Rattle.processes.specs.Begin.{execve_of}
use Rattle.processes.specs.Kernel.{Answer, can_grow, grows_by, presented, presented_by, signalled}
use Rattle.processes.specs.Laws.{Each, HasEnded}
use Rattle.processes.specs.Tasks.{Judge, Process, Processes, admitted, is_task, live_task, lives}
use Rattle.processes.specs.Views.{Containers, Same, SetAt, can_grow_in, present_in, same_text}
use Rattle.processes.specs.declared.outcome.Outcome.{Outcome}
use Rattle.processes.specs.declared.outcome.Outcome.TheVariants.{Done, Failed, Absent, Denied, Answered, Declined, NoTask}
use Rattle.processes.proofs.GroupLaws.{groups_stay_led, none_outlives_group_1}
use Rattle.processes.proofs.Numbers.{numbers_ascend}
use Rattle.lifecycle.specs.declared.command.Reply.TheVariants.{Presented}
use Rattle.lifecycle.specs.declared.command.Status.TheVariants.{Running, Stopped}
use Rattle.lifecycle.specs.declared.entry.Entry.{Entry}
use Rattle.lifecycle.specs.declared.entry.Phase.{Phase}
use Rattle.lifecycle.specs.declared.entry.Phase.TheVariants.{Made, Started, Ended}
use Rattle.lifecycle.specs.Entries.{container_by}
use Rattle.lifecycle.specs.Sound.{IsSound, SoundIn}
use Rattle.lifecycle.specs.Steps.{call, first_call, left_after}
use Rattle.lifecycle.specs.Steps as steps
use Rattle.lifecycle.specs.Worlds.{Container}

-- ---- what stays

event_sound : (n : ℕ) (r : Record) (a : Beside) (ps : Processes) → IsSound ps → IsSound (presented n r a ps).1
event_sound n r a ps s = record {
  order = numbers_ascend.event n r a ps s.order;
  led = groups_stay_led.event n r a ps s.order s.led;
  none_outlives = none_outlives_group_1.event n r a ps s.order s.led s.none_outlives;
}

signal_sound : (sig : ℕ) (ps : Processes) → IsSound ps → IsSound (signalled sig ps)
signal_sound sig ps s = record {
  order = numbers_ascend.signal sig ps s.order;
  led = groups_stay_led.signal sig ps s.led;
  none_outlives = none_outlives_group_1.signal sig ps s.none_outlives;
}

begin_sound : (native : Arch) (judge : Judge) → IsSound (admitted native judge)
begin_sound native judge = record {
  order = numbers_ascend.begin native judge;
  led = groups_stay_led.begin native judge;
  none_outlives = none_outlives_group_1.begin native judge;
}

left_sound : (o : Outcome) (ps : Processes) → IsSound ps → IsSound (left_after o ps)
left_sound (Denied v) ps s = signal_sound 9 ps s
left_sound (Done n) ps s = s
left_sound (Failed e) ps s = s
left_sound Absent ps s = s
left_sound (Answered n) ps s = s
left_sound (Declined e) ps s = s
left_sound NoTask ps s = s

-- after a first call,
pub first_sound : (native : Arch) (judge : Judge) → let p = first_call native judge in IsSound (left_after p.0 p.1)
first_sound native judge =
    let p = first_call native judge in
    left_sound p.0 p.1 (event_sound 1 (execve_of native) nothing_beside (admitted native judge) (begin_sound native judge))

-- an event
pub present_sound : (n : ℕ) (r : Record) (a : Beside) (o : Option Processes) → SoundIn o → SoundIn (present_in n r a o).1
present_sound n r a None s = tt
present_sound n r a (Some ps) s = event_sound n r a ps s

-- and a signal
pub signal_sound_in : (sig : ℕ) (o : Option Processes) → SoundIn o → SoundIn (option_map (signalled sig) o)
signal_sound_in sig None s = tt
signal_sound_in sig (Some ps) s = signal_sound sig ps s

-- so of all containers, where one is set
pub sound_set : (k l : Containers) (id : List ℕ) (v : Option Processes) → SetAt k l id v → SoundIn v
    → ((q : List ℕ) → SoundIn (k q)) → (q : List ℕ) → SoundIn (l q)
sound_set k l id v set own all q = by (same_text id q) (set q)
  where
    by : (b : Bool) → l q ≡ (if b then v else k q) → SoundIn (l q)
    by true h = subst SoundIn (sym h) own
    by false h = subst SoundIn (sym h) (all q)

-- and where nothing has changed
pub sound_same : (k l : Containers) → Same k l → ((q : List ℕ) → SoundIn (k q)) → (q : List ℕ) → SoundIn (l q)
sound_same k l same all q = subst SoundIn (sym (same q)) (all q)

pub sound_either : {T E : Type 0} (result : Result T E) (k l : Containers) (id : List ℕ) (v : Option Processes)
    → OnOk result (SetAt k l id v) → OnErr result (Same k l)
    → SoundIn v → ((q : List ℕ) → SoundIn (k q)) → (q : List ℕ) → SoundIn (l q)
sound_either (Ok x) k l id v ok err own all = sound_set k l id v ok own all
sound_either (Err x) k l id v ok err own all = sound_same k l err all

-- ---- a container of which group 1 has ended

not_both : (a : Bool) → (a && false) ≡ false
not_both true = refl
not_both false = refl

none_live : (n : ℕ) (ts : List Process) → Each HasEnded ts → live_task n ts ≡ None
none_live n [] p = refl
none_live n (t ∷ ts) p = rw (p.0, not_both (is_task n t)) (none_live n ts p.1)

idle : (n : ℕ) (r : Record) (a : Beside) (ps : Processes) → IsSound ps → lives ps ≡ false → presented n r a ps ≡ (NoTask, ps)
idle n r a ps s stopped = ap (λ o. presented_by o r a ps) (none_live n ps.tasks (s.none_outlives stopped))

module _ (n : ℕ) (r : Record) (a : Beside) (e : Entry) where
  -- what a call of a container that was started is answered, and leaves
  abbrev pub Shown : Option Processes → steps.Result
  Shown o = (Presented (present_in n r a o).0, Some (container_by Started e (present_in n r a o).1))

  abbrev pub as_begun : Processes → Bool → Container
  as_begun p b = record (container_by Started e (Some p)) { status = if b then Running else Stopped }

  begun_by : (p : Processes) → IsSound p → (b : Bool) → lives p ≡ b
      → call n r a (if b then Running else Stopped) (as_begun p b) ≡ Shown (Some p)
  begun_by p s true h = refl
  begun_by p s false h =
      let same : presented n r a p ≡ (NoTask, p) = idle n r a p s h in
      let there : (Presented NoTask, Some (as_begun p false)) ≡ (Presented NoTask, Some (as_begun p (lives p))) =
      ap (λ (b : Bool). (Presented NoTask, Some (as_begun p b))) (sym h) in
      there ∙ ap (λ (x : Answer). (Presented x.0, Some (container_by Started e (Some x.1)))) (sym same)

  begun : (o : Option Processes) → SoundIn o → let c = container_by Started e o in call n r a c.status c ≡ Shown o
  begun None s = refl
  begun (Some p) s = begun_by p s (lives p) refl

  -- a call of it is what the kernel makes of it
  pub called : (phase : Phase) (o : Option Processes) → phase ≡ Started → SoundIn o → let c = container_by phase e o in
      call n r a c.status c ≡ (Presented (present_in n r a o).0, Some (container_by phase e (present_in n r a o).1))
  called Started o h s = begun o s
  called Made o h s = let no_way : Made ≡ Started = h in absurd (cc)
  called Ended o h s = let no_way : Ended ≡ Started = h in absurd (cc)

  runs_by : (p : Processes) → IsSound p → can_grow n r a p ≡ true → (b : Bool) → lives p ≡ b → (if b then Running else Stopped) ≡ Running
  runs_by p s g true h = refl
  runs_by p s g false h =
      let never : false ≡ can_grow n r a p = ap (λ o. grows_by o r a p) (sym (none_live n p.tasks (s.none_outlives h))) in
      let bad : false ≡ true = never ∙ g in absurd (cc)

  -- and where the kernel may want memory for it, it runs
  pub grows_on : (phase : Phase) (o : Option Processes) → phase ≡ Started → SoundIn o
      → can_grow_in n r a o ≡ true → let c = container_by phase e o in
      (c.status ≡ Running) × (can_grow n r a c.processes ≡ true)
  grows_on Started None h s g = let bad : false ≡ true = g in absurd (cc)
  grows_on Started (Some p) h s g = (runs_by p s g (lives p) refl, g)
  grows_on Made o h s g = let no_way : Made ≡ Started = h in absurd (cc)
  grows_on Ended o h s g = let no_way : Ended ≡ Started = h in absurd (cc)
