-- The first filter stays the oldest of each task, so what it refuses is never carried out.
use Rattle.std.proofs.Common.{◌≡◌, ◌==◌, ◌&&◌, not, ℕ, Bool, true, false, List, [], ◌∷◌, ◌++◌, Option, Some, None, is_some, refl, map}
use Rattle.std.proofs.Common.{sym, ap, subst, take, ◌∙◌, arith, All, Contains}
use Rattle.std.specs.Prelude.{int_lt}
use Rattle.std.specs.Int.{cast_signed, w32}
use Rattle.std.proofs.lemmas.Bool.{and_parts, eqb-true}
use Rattle.std.proofs.lemmas.List.Elements.{All-cons, Contains-push}
use Rattle.machines.specs.declared.arch.Arch.{Arch}
use Rattle.call_record.specs.declared.layout.Record.{Record}
use Rattle.call_record.specs.Record.{words}
use Rattle.call_record.specs.Verdict.{IsRefusal, action, is_stricter, is_through, strictest_of, user_notif}
use Rattle.call_record.proofs.StrictestLemmas.{refusal_stands, strictest_of-least}
use Rattle.profile.specs.Said.{said}
use Rattle.cert_check.specs.declared.checked.Checked.{Checked}
use Rattle.cert_check.specs.Checked.{profile_of}
use Rattle.processes.specs.Attached.{Beside, nothing_beside}
use Rattle.processes.specs.Begin.{execve_of}
use Rattle.processes.specs.First.{by_profile}
use Rattle.processes.specs.Kernel.{is_same, is_told, judged, judged_by, presented_by, responded, verdict_on, withheld}
use Rattle.processes.specs.Stores.{notifier}
use Rattle.processes.specs.Tasks.{Filter, Judge, Process, Processes, admitted, first_task, is_live, is_task, live_task}
use Rattle.processes.specs.declared.outcome.Outcome.{Outcome}
use Rattle.processes.specs.declared.outcome.Outcome.TheVariants.{Done, Failed, Absent, Denied, Answered, Declined, NoTask}
use Rattle.processes.specs.declared.outcome.Response.{Response}
use Rattle.processes.specs.declared.outcome.Response.TheVariants.{Value, Error, Continue}
use Rattle.processes.specs.Laws.{Each, KeepsBehind}
use Rattle.processes.proofs.Laws.{first_is_behind, found, keeps_behind, signal_keeps_behind}
use Rattle.lifecycle.specs.declared.command.Reply.{Reply}
use Rattle.lifecycle.specs.declared.command.Reply.TheVariants.{Presented}
use Rattle.lifecycle.specs.declared.command.Status.{Status}
use Rattle.lifecycle.specs.declared.command.Status.TheVariants.{Created, Running, Stopped}
use Rattle.lifecycle.specs.Commands.{Command}
use Rattle.lifecycle.specs.Commands.Command.{Start, Call}
use Rattle.lifecycle.specs.Promises.{FirstFilterIsOldest, IsDeniedStart, IsOldest, MadeBy, NotCarriedOut, RefusedIsNotCarriedOut, RefusesIn}
use Rattle.lifecycle.specs.Promises.{is_continue, is_withheld, may_be_continued, world_after}
use Rattle.lifecycle.specs.Runs.{IsRun}
use Rattle.lifecycle.specs.Steps.{acted, call, first_call, left_after, run, start, start_reply, step}
use Rattle.lifecycle.specs.Worlds.{Container, First, World, container_at}
use Rattle.lifecycle.proofs.CommandLaws.{never}
use Rattle.lifecycle.proofs.Containers.{At, IsKept, holds_after}
use Rattle.lifecycle.proofs.GivenLaws.{AsGiven, as_given, is_there}
use Rattle.lifecycle.proofs.Runs.{replies_are_steps}

-- ---- the oldest filter

abbrev pub only : Judge → List Filter
only judge = record { load = 0; judge = judge } ∷ []

-- the container's first filter is the oldest of each of its tasks
abbrev pub Sound : Container → Type 0
Sound c = Each (KeepsBehind (only c.first)) c.processes.tasks

-- what is left after the first call
left_sound : (first : Judge) (o : Outcome) (ps : Processes) → Each (KeepsBehind (only first)) ps.tasks
    → Each (KeepsBehind (only first)) (left_after o ps).tasks
left_sound first (Denied v) ps s = signal_keeps_behind (only first) 9 ps s
left_sound first (Done n) ps s = s
left_sound first (Failed e) ps s = s
left_sound first Absent ps s = s
left_sound first (Answered n) ps s = s
left_sound first (Declined e) ps s = s
left_sound first NoTask ps s = s

sound_kept : IsKept Sound
sound_kept = record {
  stopped = λ c h. h;
  started = λ c h.
      let native = c.processes.native in
      let p = first_call native c.first in
      left_sound c.first p.0 p.1 (keeps_behind (only c.first) 1 (execve_of native) nothing_beside (admitted native c.first) (first_is_behind native c.first));
  signal = λ c sig h. signal_keeps_behind (only c.first) sig c.processes h;
  event = λ c n r a h. keeps_behind (only c.first) n r a c.processes h;
}

-- so of each container that there is after some commands
pub sound_after : (F : First) (os : List Command) (id : List ℕ) (c : Container) → container_at id (world_after F os) ≡ Some c → Sound c
sound_after F os id c there = subst (At Sound) there (holds_after Sound sound_kept F (λ given. tt) id os [] (λ q. tt))

pub each_all : (P : Process → Type 0) (ts : List Process) → Each P ts → All P ts
each_all P [] e = λ k d h. absurd (omega arith)
each_all P (t ∷ ts) e = All-cons P t ts e.0 (each_all P ts e.1)

pub first_filter_is_oldest : FirstFilterIsOldest
first_filter_is_oldest F os id c there = each_all (IsOldest c.first) c.processes.tasks (sound_after F os id c there)

-- ---- what is refused

verdict_last : (r : Record) (newer : List Filter) (f : Filter)
    → map (λ g. g.judge.verdict r) (newer ++ f ∷ []) ≡ map (λ g. g.judge.verdict r) newer ++ f.judge.verdict r ∷ []
verdict_last r [] f = refl
verdict_last r (g ∷ newer) f = ap (λ (ws : List ℕ). g.judge.verdict r ∷ ws) (verdict_last r newer f)

-- the oldest filter's verdict is one of all
own_among : (first : Judge) (t : Process) (r : Record) → KeepsBehind (only first) t
    → Contains (map (λ f. f.judge.verdict r) t.filters) (first.verdict r)
own_among first t r behind =
    let own : Filter = record { load = 0; judge = first } in
    let ws : map (λ f. f.judge.verdict r) t.filters ≡ map (λ f. f.judge.verdict r) behind.0 ++ first.verdict r ∷ [] =
    ap (map (λ f. f.judge.verdict r)) behind.1 ∙ verdict_last r behind.0 own in
    subst (λ vs. Contains vs (first.verdict r)) (sym ws) (Contains-push (map (λ f. f.judge.verdict r) behind.0) (first.verdict r))

-- where it refuses, the verdict lets nothing through
refused : (first : Judge) (t : Process) (r : Record) → KeepsBehind (only first) t
    → IsRefusal (first.verdict r) → is_through (verdict_on r t) ≡ false
refused first t r behind refusal =
    never (is_through (verdict_on r t)) (λ through. absurd (refusal_stands (map (λ f. f.judge.verdict r) t.filters) (first.verdict r)
    (own_among first t r behind) refusal through))

-- where a listener is told, no filter's verdict is stricter than the one that notifies
none_stricter : (ws : List ℕ) (u : ℕ) → Contains ws u → (action (strictest_of ws) == user_notif) ≡ true → is_stricter u user_notif ≡ false
none_stricter ws u among h =
    let same : action (strictest_of ws) ≡ action user_notif = eqb-true (action (strictest_of ws)) user_notif h in
    ap (λ (a : ℕ). int_lt (cast_signed w32 (action u)) (cast_signed w32 a)) (sym same) ∙ strictest_of-least ws u among

told_notifies : (v : ℕ) (r : Record) (t : Process) → is_told v r t ≡ true → (action v == user_notif) ≡ true
told_notifies v r t h = (and_parts (action v == user_notif) (is_same (notifier r t.filters) t.listener) h).0

abbrev pub IsWithheld : Option Outcome → Type 0
IsWithheld answer = (o : Outcome) × (answer ≡ Some o) × (is_withheld o ≡ true)

answered : (v own : ℕ) (response : Option Response) → is_stricter own user_notif ≡ false
    → (not (is_stricter own user_notif) && is_continue response) ≡ false → IsWithheld (responded v response)
answered v own None least h = (Denied v, refl, refl)
answered v own (Some (Value n)) least h = (Answered n, refl, refl)
answered v own (Some (Error e)) least h = (Declined e, refl, refl)
answered v own (Some Continue) least h = let bad : true ≡ false = rw least at h in absurd (cc)

barred : (v own : ℕ) (r : Record) (response : Option Response) (t : Process) → is_through v ≡ false
    → (x : Bool) → is_told v r t ≡ x → (x ≡ true → is_stricter own user_notif ≡ false)
    → (not (is_stricter own user_notif) && is_continue response) ≡ false → IsWithheld (withheld v r response t)
barred v own r response t shut true told least h =
    let p = answered v own response (least refl) h in
    let is : withheld v r response t ≡ responded v response = rw (shut, told) refl in
    (p.0, is ∙ p.1, p.2)
barred v own r response t shut false told least h = (Denied v, rw (shut, told) refl, refl)

-- where there is no response, it is denied
no_response : (v : ℕ) (r : Record) (t : Process) → is_through v ≡ false → (x : Bool) → is_told v r t ≡ x → withheld v r None t ≡ Some (Denied v)
no_response v r t shut true told = rw (shut, told) refl
no_response v r t shut false told = rw (shut, told) refl

denied : (t : Process) (r : Record) (ps : Processes) → is_through (verdict_on r t) ≡ false
    → (judged (verdict_on r t) t r nothing_beside ps).0 ≡ Denied (verdict_on r t)
denied t r ps shut =
    let v = verdict_on r t in
    ap (λ (o : Option Outcome). (judged_by o v t r nothing_beside ps).0) (no_response v r t shut (is_told v r t) refl)

event_refused : (first : Judge) (n : ℕ) (r : Record) (a : Beside) (ps : Processes) (o : Option Process)
    → live_task n ps.tasks ≡ o → Each (KeepsBehind (only first)) ps.tasks
    → IsRefusal (first.verdict r) → may_be_continued (first.verdict r) a ≡ false → NotCarriedOut (Presented (presented_by o r a ps).0)
event_refused first n r a ps None e s refusal strict = (NoTask, refl, refl)
event_refused first n r a ps (Some t) e s refusal strict =
    let behind = found (KeepsBehind (only first)) (λ u. is_task n u && is_live u) ps.tasks s t e in
    let v = verdict_on r t in
    let least : is_told v r t ≡ true → is_stricter (first.verdict r) user_notif ≡ false =
    λ told. none_stricter (map (λ f. f.judge.verdict r) t.filters) (first.verdict r) (own_among first t r behind) (told_notifies v r t told) in
    let p = barred v (first.verdict r) r a.response t (refused first t r behind refusal) (is_told v r t) refl least strict in
    (p.0, ap (λ (o : Option Outcome). Presented (judged_by o v t r a ps).0) p.1, p.2)

call_refused : (s : Status) (c : Container) (task : ℕ) (r : Record) (a : Beside) → Sound c
    → IsRefusal (c.first.verdict r) → may_be_continued (c.first.verdict r) a ≡ false → NotCarriedOut (call task r a s c).0
call_refused Created c task r a s refusal strict = (NoTask, refl, refl)
call_refused Stopped c task r a s refusal strict = (NoTask, refl, refl)
call_refused Running c task r a s refusal strict = event_refused c.first task r a c.processes (live_task task c.processes.tasks) refl s refusal strict

start_refused : (native : Arch) (first : Judge) → IsRefusal (first.verdict (execve_of native))
    → IsDeniedStart (start_reply (first_call native first).0)
start_refused native first refusal =
    let t = first_task first in
    let r = execve_of native in
    let no_way = refused first t r ([], refl) refusal in
    (verdict_on r t, ap start_reply (denied t r (admitted native first) no_way))

-- the container that a command made
there_by : (F : First) (commands : List Command) (id : List ℕ) (given : Checked) → MadeBy F commands id given
    → (c : Container) × (container_at id (world_after F commands) ≡ Some c) × AsGiven F given c
there_by F commands id given m = by (container_at id (world_after F commands)) refl
  where
    by : (o : Option Container) → container_at id (world_after F commands) ≡ o
        → (c : Container) × (container_at id (world_after F commands) ≡ Some c) × AsGiven F given c
    by None e = let bad : false ≡ true = sym (ap is_some e) ∙ is_there F commands id given m in absurd (cc)
    by (Some c) e = (c, e, as_given F commands id given m c e)

-- a call in the world after some commands
call_step : (os : List Command) (id : List ℕ) (given : Checked) → MadeBy by_profile os id given → (task : ℕ) (r : Record) (a : Beside)
    → IsRefusal (said (profile_of given) (words r)) → may_be_continued (said (profile_of given) (words r)) a ≡ false
    → NotCarriedOut (step by_profile (Call id task r a) (world_after by_profile os)).0
call_step os id given m task r a refusal strict =
    let c = there_by by_profile os id given m in
    let word : IsRefusal (c.0.first.verdict r) = subst (λ (j : Judge). IsRefusal (j.verdict r)) (sym c.2.0) refusal in
    let kept : may_be_continued (c.0.first.verdict r) a ≡ false = subst (λ (j : Judge). may_be_continued (j.verdict r) a ≡ false) (sym c.2.0) strict in
    subst NotCarriedOut (sym (ap (λ o. (acted by_profile (Call id task r a) o).0) c.1))
    (call_refused c.0.status c.0 task r a (sound_after by_profile os id c.0 c.1) word kept)

-- and a start of a created container
start_step : (os : List Command) (id : List ℕ) (given : Checked) → MadeBy by_profile os id given
    → (c : Container) → container_at id (world_after by_profile os) ≡ Some c → c.status ≡ Created
    → IsRefusal (said (profile_of given) (words (execve_of (profile_of given).native)))
    → IsDeniedStart (step by_profile (Start id) (world_after by_profile os)).0
start_step os id given m c there created refusal =
    let made = as_given by_profile os id given m c there in
    let call = execve_of c.processes.native in
    let same : execve_of (profile_of given).native ≡ call = ap execve_of (sym made.1) in
    let here : IsRefusal (said (profile_of given) (words call)) = subst (λ (r : Record). IsRefusal (said (profile_of given) (words r)))
    same refusal in
    let word : IsRefusal (c.first.verdict call) = subst (λ (j : Judge). IsRefusal (j.verdict call)) (sym made.0) here in
    subst IsDeniedStart (sym (ap (λ o. (acted by_profile (Start id) o).0) there ∙ ap (λ s. (start s c).0) created))
    (start_refused c.processes.native c.first word)

pub refused_is_not_carried_out : RefusedIsNotCarriedOut
refused_is_not_carried_out os = record {
  call = λ i id given task r a at m refusal strict. record {
    reply = (step by_profile (Call id task r a) (world_after by_profile (take i os))).0;
    at = replies_are_steps by_profile os i (Call id task r a) at;
    is = call_step (take i os) id given m task r a refusal strict;
  };
  start = λ i id given c at m there created refusal. record {
    reply = (step by_profile (Start id) (world_after by_profile (take i os))).0;
    at = replies_are_steps by_profile os i (Start id) at;
    is = start_step (take i os) id given m c there created refusal;
  };
}

-- and in a run of the runtime's, where it had no containers before
pub refused_in_run : (os : List Command) (replies : List Reply) (w w' : World) → IsRun by_profile os w replies w' → w ≡ []
    → RefusesIn os replies
refused_in_run os replies w w' ran none =
    let from_none : run by_profile os [] ≡ (replies, w') = subst (λ (v : World). run by_profile os v ≡ (replies, w')) none ran in
    subst (λ (rs : List Reply). RefusesIn os rs) (ap (λ p. p.0) from_none) (refused_is_not_carried_out os)
