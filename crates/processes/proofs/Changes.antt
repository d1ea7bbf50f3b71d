-- An event is one of a few changes, and so is a signal: what survives each of these is kept, whatever tasks do.
use Rattle.std.proofs.Common.{◌≡◌, ℕ, ◌+◌, ◌^◌, ◌-◌, ◌==◌, ◌&&◌, ◌||◌, Bool, true, false, not, List, Option, Some, None, if◌then◌else◌, refl}
use Rattle.std.specs.Prelude.{is_some, nat_lt, nat_le}
use Rattle.call_record.specs.declared.effect.Ends.{Ends}
use Rattle.call_record.specs.declared.effect.Ends.TheVariants.{Nothing, Task, Group}
use Rattle.call_record.specs.Ends.{ends_of}
use Rattle.call_record.specs.declared.layout.Record.{Record}
use Rattle.bpf_insn.specs.declared.instruction.Insn.{Insn}
use Rattle.processes.specs.declared.outcome.End.{End}
use Rattle.processes.specs.declared.outcome.End.TheVariants as end
use Rattle.processes.specs.declared.outcome.Outcome.{Outcome}
use Rattle.processes.specs.declared.outcome.Outcome.TheVariants.{Done, Failed}
use Rattle.processes.specs.Tasks.{Process, Processes, is_in_group, live_task, group_lives, lives, end_where, with_tasks, ended}
use Rattle.processes.specs.Calls.{row_of, arg}
use Rattle.processes.specs.declared.row.Loading.{Loading}
use Rattle.processes.specs.declared.row.Row.{Row}
use Rattle.processes.specs.declared.row.Row.TheVariants.{NewTask, NewThread, Execve, Exit, ExitGroup, Kill, Load}
use Rattle.processes.specs.Kernel.{Answer, forked, cloned, with_next, executed, killed, signalled, is_fatal, load_answer, load_program, load_size, loaded}
use Rattle.processes.specs.Kernel.{first_conflict, unless_conflict, load, carried_out, ended_by_verdict, judged, judged_by, passes}
use Rattle.processes.specs.Kernel.{presented, presented_by, verdict_on, withheld}
use Rattle.processes.specs.Attached.{Attached, Beside}
use Rattle.processes.specs.Attached.Attached.{NoBytes, Refused, Taken}

pub either : {A : Type 0} (P : A → Type 0) (b : Bool) (x y : A) → P x → P y → P (if b then x else y)
either P true x y p q = p
either P false x y p q = q

-- ends of some tasks leave it
abbrev pub SurvivesEnds : (Processes → Type 0) → Type 0
SurvivesEnds K = (test : Process → Bool) (e : End) (ps : Processes) → K ps → K (with_tasks ps (end_where test e ps.tasks))

-- and so does what they lead to where none of group 1 is left
abbrev pub SurvivesStops : (Processes → Type 0) → Type 0
SurvivesStops K = (test : Process → Bool) (e : End) (ps : Processes) → K ps → K (ended test e ps)

-- what survives ends of some tasks survives those of all others after them
pub stops_too : (K : Processes → Type 0) → SurvivesEnds K → SurvivesStops K
stops_too K ends test e ps s =
    let after = with_tasks ps (end_where test e ps.tasks) in
    let kept : K after = ends test e ps s in
    either K (lives after) after (with_tasks after (end_where (λ t. true) (end.Signal 9) after.tasks)) kept (ends (λ t. true) (end.Signal 9) after kept)

-- it is there, and whatever task t can change by presenting r, with this beside it, leaves it
pub record Survives (K : Processes → Type 0) (t : Process) (r : Record) (b : Beside) (ps : Processes) : Type 0 where
  pub same : K ps
  pub ends : SurvivesStops K
  pub fork : K (with_next (forked t) ps).1
  pub thread : K (with_next (cloned t) ps).1
  pub image : passes (verdict_on r t) r b t ≡ true → row_of ps.native r ≡ Execve → K (with_tasks ps (executed t ps.tasks))
  pub load : (how : Loading) (program : List Insn) → first_conflict how.for_all t ps ≡ None → K (loaded how program t ps)

module _ (K : Processes → Type 0) where
  -- of an answer
  abbrev pub KeptBy : Answer → Type 0
  KeptBy p = K p.1

  kill_keeps : SurvivesStops K → (target sig : ℕ) (ps : Processes) → K ps → KeptBy (killed target sig ps)
  kill_keeps ends target sig ps s =
      let last : Answer = (Done 0, ended (is_in_group target) (end.Signal sig) ps) in
      let third : Answer = if (target == 1) || not (is_fatal sig) then (Done 0, ps) else last in
      let second : Answer = if not (group_lives target ps.tasks) then (Failed 3, ps) else third in
      either KeptBy (nat_lt 64 sig) (Failed 22, ps) second s
      (either KeptBy (not (group_lives target ps.tasks)) (Failed 3, ps) third s
      (either KeptBy ((target == 1) || not (is_fatal sig)) (Done 0, ps) last s (ends (is_in_group target) (end.Signal sig) ps s)))

  unless_keeps : (how : Loading) (o : Option Process) (ps after : Processes) (done : Outcome) → K ps → (o ≡ None → K after)
      → KeptBy (unless_conflict how o ps (done, after))
  unless_keeps how (Some u) ps after done s q = s
  unless_keeps how None ps after done s q = q refl

  module _ (t : Process) (r : Record) (b : Beside) (ps : Processes) (s : Survives K t r b ps) where
    program_keeps : (how : Loading) (p : List Insn) → KeptBy (load_program how t p ps)
    program_keeps how p =
        let after = loaded how p t ps in
        let last : Answer = unless_conflict how (first_conflict how.for_all t ps) ps (load_answer how (ps.loads + 1), after) in
        let second : Answer = if nat_le (2 ^ 32 - 1) ps.loads then (Failed 12, ps) else last in
        either KeptBy (nat_lt 32768 (load_size p t)) (Failed 12, ps) second s.same
        (either KeptBy (nat_le (2 ^ 32 - 1) ps.loads) (Failed 12, ps) last s.same
        (unless_keeps how (first_conflict how.for_all t ps) ps after (load_answer how (ps.loads + 1)) s.same (s.load how p)))

    load_keeps : (how : Loading) (a : Attached) → KeptBy (load how t a ps)
    load_keeps how NoBytes = s.same
    load_keeps how Refused = s.same
    load_keeps how (Taken p) =
        either KeptBy (how.listens && is_some t.listener) (Failed 16, ps) (load_program how t p ps) s.same (program_keeps how p)

    row_keeps : passes (verdict_on r t) r b t ≡ true → (row : Row)
        → row_of ps.native r ≡ row → KeptBy (carried_out row t r b.attached ps)
    row_keeps h NewTask e = either KeptBy (nat_lt ps.made 1024) (with_next (forked t) ps) (Failed 11, ps) s.fork s.same
    row_keeps h NewThread e = either KeptBy (nat_lt ps.made 1024) (with_next (cloned t) ps) (Failed 11, ps) s.thread s.same
    row_keeps h Execve e = s.image h e
    row_keeps h Exit e = s.ends _ _ ps s.same
    row_keeps h ExitGroup e = s.ends _ _ ps s.same
    row_keeps h Kill e = kill_keeps s.ends (arg r 0) (arg r 1) ps s.same
    row_keeps h (Load how) e = load_keeps how b.attached
    row_keeps h row e = s.same

    verdict_keeps : (e : Ends) → K (ended_by_verdict e t ps)
    verdict_keeps Nothing = s.same
    verdict_keeps Task = s.ends _ _ ps s.same
    verdict_keeps Group = s.ends _ _ ps s.same

    judged_keeps : (v : ℕ) → verdict_on r t ≡ v → (o : Option Outcome) → withheld v r b.response t ≡ o → KeptBy (judged_by o v t r b ps)
    judged_keeps v is None h = row_keeps (rw (is, h) refl) (row_of ps.native r) refl
    judged_keeps v is (Some outcome) h = verdict_keeps (ends_of v)

  -- What survives whatever a task can do is kept by what it does.
  pub judged_stays : (t : Process) (r : Record) (b : Beside) (ps : Processes) → Survives K t r b ps
      → KeptBy (judged (verdict_on r t) t r b ps)
  judged_stays t r b ps s = judged_keeps t r b ps s (verdict_on r t) refl (withheld (verdict_on r t) r b.response t) refl

  by_caller : (n : ℕ) (r : Record) (b : Beside) (ps : Processes) → K ps
      → ((t : Process) → live_task n ps.tasks ≡ Some t → Survives K t r b ps)
      → (o : Option Process) → live_task n ps.tasks ≡ o → KeptBy (presented_by o r b ps)
  by_caller n r b ps s each None e = s
  by_caller n r b ps s each (Some t) e = judged_stays t r b ps (each t e)

  -- and by an event
  pub event_keeps : (n : ℕ) (r : Record) (b : Beside) (ps : Processes) → K ps
      → ((t : Process) → live_task n ps.tasks ≡ Some t → Survives K t r b ps)
      → K (presented n r b ps).1
  event_keeps n r b ps s each = by_caller n r b ps s each (live_task n ps.tasks) refl

  -- and what survives ends by a signal from outside
  pub signal_keeps : SurvivesStops K → (sig : ℕ) (ps : Processes) → K ps → K (signalled sig ps)
  signal_keeps ends sig ps s = either K (is_fatal sig) (ended (is_in_group 1) (end.Signal sig) ps) ps (ends (is_in_group 1) (end.Signal sig) ps s) s

-- The machine of a container stays.
pub native_stays : (n : ℕ) (r : Record) (b : Beside) (ps : Processes) → (presented n r b ps).1.native ≡ ps.native
native_stays n r b ps = event_keeps (λ qs. qs.native ≡ ps.native) n r b ps refl (λ t e. record {
  same = refl;
  ends = stops_too (λ qs. qs.native ≡ ps.native) (λ test by qs h. h);
  fork = refl;
  thread = refl;
  image = λ h row. refl;
  load = λ how program h. refl;
})

pub native_stays_signalled : (sig : ℕ) (ps : Processes) → (signalled sig ps).native ≡ ps.native
native_stays_signalled sig ps = signal_keeps (λ qs. qs.native
    ≡ ps.native) (stops_too (λ qs. qs.native ≡ ps.native) (λ test by qs h. h)) sig ps refl
