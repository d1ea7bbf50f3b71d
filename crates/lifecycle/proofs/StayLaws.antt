-- A task keeps its filters, whatever is commanded.
use Rattle.std.proofs.Common.{◌≡◌, ℕ, Bool, true, false, List, [], ◌∷◌, Option, Some, None, if◌then◌else◌, refl, sym, ap, subst}
use Rattle.std.proofs.Common.{◌∙◌, arith, nat_lt, All, Contains}
use Rattle.std.proofs.lemmas.List.Elements.{All-cons, All-contains}
use Rattle.std.specs.Cmp.Lexicographic.{nat_list_eq_equiv}
use Rattle.call_record.specs.declared.layout.Record.{Record}
use Rattle.cert_check.specs.declared.checked.Checked.{Checked}
use Rattle.processes.specs.Attached.{Beside, nothing_beside}
use Rattle.processes.specs.Begin.{execve_of}
use Rattle.processes.specs.Ids.{is_id}
use Rattle.processes.specs.Kernel.{is_fatal, presented, signalled}
use Rattle.processes.specs.Laws.{StandsBehind}
use Rattle.processes.specs.Tasks.{Filter, Judge, Process, Processes, admitted, live_task, lives}
use Rattle.processes.specs.Views.{same_text}
use Rattle.processes.specs.declared.outcome.Outcome.{Outcome}
use Rattle.processes.specs.declared.outcome.Outcome.TheVariants.{Done, Failed, Absent, Denied, Answered, Declined, NoTask}
use Rattle.processes.proofs.Changes.{either}
use Rattle.processes.proofs.KeptLaws.{Agree, Agrees, Told, kept_by_event, kept_by_signal, told_begin, told_event, told_signal}
use Rattle.processes.proofs.Numbers.{InOrder, signal_ordered, stays_in_order}
use Rattle.lifecycle.specs.declared.command.Reply.TheVariants.{Accepted, Refused}
use Rattle.lifecycle.specs.declared.command.Status.{Status}
use Rattle.lifecycle.specs.declared.command.Status.TheVariants.{Created, Running, Stopped}
use Rattle.lifecycle.specs.declared.fault.Refusal.TheVariants.{BadId, BadSignal, IdTaken}
use Rattle.lifecycle.specs.Commands.{Command, id_of}
use Rattle.lifecycle.specs.Commands.Command.{Create, Start, Kill, Delete, State, Call}
use Rattle.lifecycle.specs.Promises.{LoadsTellFilters, OldFiltersStay, goes_on_after, world_after}
use Rattle.lifecycle.specs.Steps.{acted, call, delete, first_call, kill, left_after, running, start}
use Rattle.lifecycle.specs.Worlds.{Container, First, container_at, put}
use Rattle.lifecycle.proofs.CommandLaws.{by_start}
use Rattle.lifecycle.proofs.Containers.{At, IsKept, Leaves, created, holds_after}
use Rattle.lifecycle.proofs.FilterLaws.{each_all}
use Rattle.lifecycle.proofs.Isolation.{found_other, found_own, same_is}

-- ---- what holds of each container

-- its tasks stand in order, its load numbers tell its filters apart, and before it is started it has no tasks
pub record Steady (c : Container) : Type 0 where
  pub order : InOrder c.processes
  pub told : Told c.processes
  pub waits : c.status ≡ Created → c.processes.tasks ≡ []

left_order : (o : Outcome) (ps : Processes) → InOrder ps → InOrder (left_after o ps)
left_order (Denied v) ps p = signal_ordered 9 ps p
left_order (Done n) ps p = p
left_order (Failed e) ps p = p
left_order Absent ps p = p
left_order (Answered n) ps p = p
left_order (Declined e) ps p = p
left_order NoTask ps p = p

left_told : (o : Outcome) (ps : Processes) → Told ps → Told (left_after o ps)
left_told (Denied v) ps q = told_signal 9 ps q
left_told (Done n) ps q = q
left_told (Failed e) ps q = q
left_told Absent ps q = q
left_told (Answered n) ps q = q
left_told (Declined e) ps q = q
left_told NoTask ps q = q

-- a container that was started does not wait
begun : (c : Container) (ps : Processes) → InOrder ps → Told ps → Steady (running c ps)
begun c ps p q = record { order = p; told = q; waits = λ e. absurd (by_start (lives ps) e) }

steady_kept : IsKept Steady
steady_kept = record {
  stopped = λ c h. record { order = h.order; told = h.told; waits = λ e. let no_way : Stopped ≡ Created = e in absurd (cc) };
  started = λ c h.
      let native = c.processes.native in
      let p = first_call native c.first in
      let order : InOrder p.1 = stays_in_order 1 (execve_of native) nothing_beside (admitted native c.first) (omega arith, omega arith) in
      let told : Told p.1 = told_event 1 (execve_of native) nothing_beside (admitted native c.first) (told_begin native c.first) in
      begun c (left_after p.0 p.1) (left_order p.0 p.1 order) (left_told p.0 p.1 told);
  signal = λ c sig h. begun c (signalled sig c.processes) (signal_ordered sig c.processes h.order) (told_signal sig c.processes h.told);
  event = λ c n r a h. begun c (presented n r a c.processes).1 (stays_in_order n r a c.processes h.order) (told_event n r a c.processes h.told);
}

steady_first : (F : First) (given : Checked) → Steady (created F given)
steady_first F given = record { order = omega arith; told = record { judges = λ k. F given; agree = tt }; waits = λ e. refl }

steady_after : (F : First) (os : List Command) (id : List ℕ) (c : Container) → container_at id (world_after F os) ≡ Some c → Steady c
steady_after F os id c there = subst (At Steady) there (holds_after Steady steady_kept F (steady_first F) id os [] (λ q. tt))

-- ---- load numbers

agree_all : (judges : ℕ → Judge) (top : ℕ) (fs : List Filter) → Agree judges top fs → All (λ f. f.judge ≡ judges f.load) fs
agree_all judges top [] a = λ k d h. absurd (omega arith)
agree_all judges top (f ∷ fs) a = All-cons (λ (g : Filter). g.judge ≡ judges g.load) f fs a.0 (agree_all judges top fs a.2)

same_filter : (f g : Filter) → f.load ≡ g.load → f.judge ≡ g.judge → f ≡ g
same_filter f g load judge = ap (λ (n : ℕ). record { load = n; judge = f.judge }) load
    ∙ ap (λ (j : Judge). record { load = g.load; judge = j }) judge

pub loads_tell_filters : LoadsTellFilters
loads_tell_filters F os id c there t u f g in_t in_u in_f in_g same =
    let told = (steady_after F os id c there).told in
    let top = c.processes.loads in
    let all : All (Agrees told.judges top) c.processes.tasks = each_all (Agrees told.judges top) c.processes.tasks told.agree in
    let known : (v : Process) → Contains c.processes.tasks v → (h : Filter) → Contains v.filters h
    → h.judge ≡ told.judges h.load = λ v in_v h in_h.
    All-contains (λ (x : Filter). x.judge ≡ told.judges x.load) v.filters h
    (agree_all told.judges top v.filters (All-contains (Agrees told.judges top) c.processes.tasks v all in_v)) in_h in
    same_filter f g same (known t in_t f in_f ∙ (ap told.judges same ∙ sym (known u in_u g in_g)))

-- ---- what a command leaves of a task

-- the live task of this number has these filters behind newer ones or none
abbrev pub Later : ℕ → List Filter → Container → Type 0
Later m old d = (u : Process) → live_task m d.processes.tasks ≡ Some u → StandsBehind old u.filters

same_later : (m : ℕ) (t : Process) (c : Container) → live_task m c.processes.tasks ≡ Some t → Later m t.filters c
same_later m t c e = λ u f. let is : Some u ≡ Some t = sym f ∙ e in let same : u ≡ t = cc in ([], ap (λ (x : Process). x.filters) same)

module _ (m : ℕ) (t : Process) where
  abbrev pub LaterAt : Option Container → Type 0
  LaterAt o = At (Later m t.filters) o

  start_later : (s : Status) (c : Container) → c.status ≡ s → Steady c → live_task m c.processes.tasks ≡ Some t
      → Leaves (Later m t.filters) (start s c)
  start_later Created c is h e =
      let bad : None ≡ Some t = sym (ap (live_task m) (h.waits is)) ∙ e in absurd (cc)
  start_later Running c is h e = same_later m t c e
  start_later Stopped c is h e = same_later m t c e

  kill_later : (sig : ℕ) (s : Status) (c : Container) → Steady c → live_task m c.processes.tasks ≡ Some t
      → Leaves (Later m t.filters) (kill sig s c)
  kill_later sig Stopped c h e = same_later m t c e
  kill_later sig Created c h e =
      let stopped : Container = record c { status = Stopped } in
      either (Leaves (Later m t.filters)) (nat_lt 64 sig) (Refused BadSignal, Some c) (
        Accepted,
        Some (if is_fatal sig then stopped else c),
      ) (same_later m t c e)
      (either (Later m t.filters) (is_fatal sig) stopped c (same_later m t c e) (same_later m t c e))
  kill_later sig Running c h e =
      either (Leaves (Later m t.filters)) (nat_lt 64 sig) (Refused BadSignal, Some c) (
        Accepted,
        Some (running c (signalled sig c.processes)),
      ) (same_later m t c e)
      (λ u f. kept_by_signal sig c.processes m t u h.order h.told e f)

  delete_later : (s : Status) (c : Container) → live_task m c.processes.tasks ≡ Some t → Leaves (Later m t.filters) (delete s c)
  delete_later Stopped c e = tt
  delete_later Created c e = same_later m t c e
  delete_later Running c e = same_later m t c e

  call_later : (id : List ℕ) (n : ℕ) (r : Record) (a : Beside) (s : Status) (c : Container) → Steady c
      → goes_on_after (Call id n r a) m s c.processes ≡ Some t
      → Leaves (Later m t.filters) (call n r a s c)
  call_later id n r a Running c h e = λ u f. kept_by_event n r a c.processes m t u h.order h.told e f
  call_later id n r a Created c h e = same_later m t c e
  call_later id n r a Stopped c h e = same_later m t c e

  acts_later : (F : First) (o : Command) (c : Container) → Steady c → goes_on_after o m c.status c.processes ≡ Some t
      → Leaves (Later m t.filters) (acted F o (Some c))
  acts_later F (Create id given) c h e =
      either (Leaves (Later m t.filters)) (is_id id) (Refused IdTaken, Some c) (
        Refused BadId,
        Some c,
      ) (same_later m t c e) (same_later m t c e)
  acts_later F (Start id) c h e = start_later c.status c refl h e
  acts_later F (Kill id sig) c h e = kill_later sig c.status c h e
  acts_later F (Delete id) c h e = delete_later c.status c e
  acts_later F (State id) c h e = same_later m t c e
  acts_later F (Call id n r a) c h e = call_later id n r a c.status c h e

pub old_filters_stay : OldFiltersStay
old_filters_stay F os o id c d m t u there after is live = by (same_text id (id_of o)) refl
  where
    by : (b : Bool) → same_text id (id_of o) ≡ b → StandsBehind t.filters u.filters
    by true h =
        let w = world_after F os in
        let same : id_of o ≡ id = sym (same_is id (id_of o) h) in
        let own : goes_on_after o m c.status c.processes ≡ Some t = rw h at is in
        let before : container_at (id_of o) w ≡ Some c = ap (λ q. container_at q w) same ∙ there in
        let r = acted F o (container_at (id_of o) w) in
        let found : container_at id (put (id_of o) r.1 w) ≡ r.1 = ap (λ q. container_at q (put (id_of o) r.1 w)) (sym same)
        ∙ found_own (id_of o) r.1 w in
        let left : (acted F o (Some c)).1 ≡ Some d = ap (λ x. (acted F o x).1) (sym before) ∙ (sym found ∙ after) in
        let at : LaterAt m t (Some d) = subst (LaterAt m t) left (acts_later m t F o c (steady_after F os id c there) own) in
        at u live
    by false h =
        let w = world_after F os in
        let r = acted F o (container_at (id_of o) w) in
        let away : same_text (id_of o) id ≡ false = nat_list_eq_equiv.symm (id_of o) id ∙ h in
        let left : Some c ≡ Some d = sym there ∙ (sym (found_other (id_of o) id away r.1 w) ∙ after) in
        let same : c ≡ d = cc in
        let number : live_task m c.processes.tasks ≡ Some t = rw h at is in
        let at : Later m t.filters d = subst (Later m t.filters) same (same_later m t c number) in
        at u live
