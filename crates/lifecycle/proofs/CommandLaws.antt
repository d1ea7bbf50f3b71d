-- What a command does to a container of a status, and what stays true of what is kept.
use Rattle.std.proofs.Common.{◌≡◌, ◌<◌, ◌≤◌, ℕ, Bool, true, false, cond, List, [], ◌∷◌, Option, None, Some, is_some, Result, Ok}
use Rattle.std.proofs.Common.{Err, OnOk, OnErr, IfNone, refl, map, slice_get, if◌then◌else◌, sym, ap, ◌∙◌}
use Rattle.std.specs.Option.{option_map}
use Rattle.std.specs.Map.{lookup}
use Rattle.std.proofs.lemmas.Bool.{lt-ltb, le-ltb}
use Rattle.std.proofs.lemmas.Option.{slice_get-map}
use Rattle.machines.specs.declared.arch.Arch.{Arch}
use Rattle.cert_check.specs.Checked.{profile_of}
use Rattle.processes.specs.First.{by_program}
use Rattle.processes.specs.Ids.{is_id}
use Rattle.processes.specs.Kernel.{is_fatal, signalled}
use Rattle.processes.specs.Tasks.{Processes, lives}
use Rattle.processes.specs.Views.{Containers, SetAt, lives_in, same_text}
use Rattle.lifecycle.specs.declared.command.Reply.TheVariants.{Accepted, Refused}
use Rattle.lifecycle.specs.declared.command.Status.{Status}
use Rattle.lifecycle.specs.declared.command.Status.TheVariants.{Created, Running, Stopped}
use Rattle.lifecycle.specs.declared.entry.Entry.{Entry}
use Rattle.lifecycle.specs.declared.entry.Phase.{Phase}
use Rattle.lifecycle.specs.declared.entry.Phase.TheVariants.{Made, Started, Ended}
use Rattle.lifecycle.specs.declared.fault.Refusal.TheVariants.{BadSignal, NotCreated}
use Rattle.lifecycle.specs.Worlds.{Container, container_at, ids_of}
use Rattle.lifecycle.specs.Steps.{first_call, kill, left_after, running, start, start_reply}
use Rattle.lifecycle.specs.Entries.{Entries, FindsAt, container_by, container_of, is_started, started_at, started_in, world_from}
use Rattle.lifecycle.proofs.Isolation.{same_is}
use Rattle.lifecycle.proofs.Entries.{there}

-- ---- which status an entry has

by_life : (b : Bool) (s : Status) → (if b then Running else Stopped) ≡ s → (s ≡ Created → ⊥)
by_life true s h = λ bad. let no_way : Running ≡ Created = h ∙ bad in absurd (cc)
by_life false s h = λ bad. let no_way : Stopped ≡ Created = h ∙ bad in absurd (cc)

-- a created container is one that was made and no more
pub made : (phase : Phase) (e : Entry) (ps : Option Processes) → (container_by phase e ps).status ≡ Created → phase ≡ Made
made Made e ps h = refl
made Started e None h = let no_way : Stopped ≡ Created = h in absurd (cc)
made Started e (Some p) h = absurd (by_life (lives p) (if lives p then Running else Stopped) refl h)
made Ended e ps h = let no_way : Stopped ≡ Created = h in absurd (cc)

lives_by : (b : Bool) → (if b then Running else Stopped) ≡ Running → b ≡ true
lives_by true h = refl
lives_by false h = let no_way : Stopped ≡ Running = h in absurd (cc)

-- what changes the tasks of a running container, which the kernel has, changes them in the world
pub runs_on : (change : Processes → Processes) (phase : Phase) (e : Entry) (ps : Option Processes)
    → (container_by phase e ps).status ≡ Running
    → container_by phase e (option_map change ps) ≡ running (container_by phase e ps) (change (container_by phase e ps).processes)
runs_on change Made e ps h = let no_way : Created ≡ Running = h in absurd (cc)
runs_on change Started e None h = let no_way : Stopped ≡ Running = h in absurd (cc)
runs_on change Started e (Some p) h = refl
runs_on change Ended e ps h = let no_way : Stopped ≡ Running = h in absurd (cc)

-- ---- commands by status

module _ (sig : ℕ) (c : Container) where
  pub bad_created : c.status ≡ Created → 64 < sig → kill sig c.status c ≡ (Refused BadSignal, Some c)
  bad_created h lt =
      let stopped : Container = if is_fatal sig then record c { status = Stopped } else c in
      ap (λ s. kill sig s c) h ∙ ap (λ (b : Bool). if b then (Refused BadSignal, Some c) else (Accepted, Some stopped)) (lt-ltb 64 sig lt)

  pub bad_running : c.status ≡ Running → 64 < sig → kill sig c.status c ≡ (Refused BadSignal, Some c)
  bad_running h lt =
      let after : Container = running c (signalled sig c.processes) in
      ap (λ s. kill sig s c) h ∙ ap (λ (b : Bool). if b then (Refused BadSignal, Some c) else (Accepted, Some after)) (lt-ltb 64 sig lt)

  pub killed_created : (fatal : Bool) → is_fatal sig ≡ fatal → c.status ≡ Created → sig ≤ 64
      → kill sig c.status c ≡ (Accepted, Some (if fatal then record c { status = Stopped } else c))
  killed_created fatal is h le =
      let after : Bool → Container = λ b. if b then record c { status = Stopped } else c in
      ap (λ s. kill sig s c) h ∙ (ap (λ (b : Bool). if b then (Refused BadSignal, Some c) else (
        Accepted,
        Some (after (is_fatal sig)),
      )) (le-ltb 64 sig le)
      ∙ ap (λ (b : Bool). (Accepted, Some (after b))) is)

  pub killed_running : c.status ≡ Running → sig ≤ 64 → kill sig c.status c ≡ (Accepted, Some (running c (signalled sig c.processes)))
  killed_running h le =
      let after : Container = running c (signalled sig c.processes) in
      ap (λ s. kill sig s c) h ∙ ap (λ (b : Bool). if b then (Refused BadSignal, Some c) else (Accepted, Some after)) (le-ltb 64 sig le)

-- a container that was made and is stopped is as one that ended before it was started
pub ended_as : (phase : Phase) (e : Entry) (ps : Option Processes) → phase ≡ Made
    → record (container_by phase e ps) { status = Stopped } ≡ container_by Ended e ps
ended_as Made e ps h = refl
ended_as Started e ps h = let no_way : Started ≡ Made = h in absurd (cc)
ended_as Ended e ps h = let no_way : Ended ≡ Made = h in absurd (cc)

-- ---- what is kept

-- the kernel as it is has for an id what it has
pub set_own : (k : Containers) (id : List ℕ) → SetAt k k id (k id)
set_own k id = λ q. by q (same_text id q) refl
  where
    by : (q : List ℕ) (b : Bool) → same_text id q ≡ b → k q ≡ (if same_text id q then k id else k q)
    by q true t = rw t (ap k (sym (same_is id q t)))
    by q false t = rw t refl

abbrev pub AllIds : Entries → Type 0
AllIds es = (q : List ℕ) → is_some (lookup (same_text q) es) ≡ true → is_id q ≡ true

abbrev pub InStep : Containers → Entries → Type 0
InStep k es = (q : List ℕ) → is_some (k q) ≡ started_at es q

pub ids_kept : (old new : Entries) (id : List ℕ) (x : Option Entry) → FindsAt old new id x → is_id id ≡ true → AllIds old → AllIds new
ids_kept old new id x finds is all = λ q h. by q (same_text id q) refl (sym (ap is_some (finds q)) ∙ h)
  where
    by : (q : List ℕ) (b : Bool) → same_text id q ≡ b → is_some (cond (same_text id q) x (lookup (same_text q) old)) ≡ true → is_id q ≡ true
    by q true t h = ap is_id (sym (same_is id q t)) ∙ is
    by q false t h = let before : is_some (lookup (same_text q) old) ≡ true = rw t at h in all q before

step_by : (b : Bool) (v w : Option Processes) (x y : Option Entry) → is_some v ≡ started_in x → is_some w ≡ started_in y
    → is_some (if b then v else w) ≡ started_in (cond b x y)
step_by true v w x y own others = own
step_by false v w x y own others = others

pub step_kept : (k l : Containers) (old new : Entries) (id : List ℕ) (v : Option Processes) (x : Option Entry)
    → SetAt k l id v → FindsAt old new id x
    → is_some v ≡ started_in x → InStep k old → InStep l new
step_kept k l old new id v x set finds own all = λ q.
    ap is_some (set q) ∙ (step_by (same_text id q) v (k q) x (lookup (same_text q) old) own (all q) ∙ sym (ap started_in (finds q)))

-- an id that is found is one
pub is_known : (es : Entries) (id : List ℕ) (e : Entry) → AllIds es → lookup (same_text id) es ≡ Some e → is_id id ≡ true
is_known es id e all h = all id (ap is_some h)

-- a text that is no id is not found
pub no_id : (es : Entries) (id : List ℕ) → AllIds es → is_id id ≡ false → lookup (same_text id) es ≡ None
no_id es id all h = by (lookup (same_text id) es) refl
  where
    by : (o : Option Entry) → lookup (same_text id) es ≡ o → lookup (same_text id) es ≡ None
    by None e = e
    by (Some x) e = let bad : false ≡ true = sym h ∙ is_known es id x all e in absurd (cc)

pub on_err : {T E P : Type 0} (r : Result T E) → P → OnErr r P
on_err (Ok v) p = tt
on_err (Err e) p = p

pub if_none : {T P : Type 0} (o : Option T) → P → IfNone o P
if_none None p = p
if_none (Some x) p = tt

-- ---- statuses

pub status_made : (e : Entry) (ps : Option Processes) → e.phase ≡ Made → (container_of e ps).status ≡ Created
status_made e ps h = ap (λ p. (container_by p e ps).status) h

pub status_ended : (e : Entry) (ps : Option Processes) → e.phase ≡ Ended → (container_of e ps).status ≡ Stopped
status_ended e ps h = ap (λ p. (container_by p e ps).status) h

begun_status : (e : Entry) (ps : Option Processes) → (container_by Started e ps).status ≡ (if lives_in ps then Running else Stopped)
begun_status e None = refl
begun_status e (Some p) = refl

pub status_started : (e : Entry) (ps : Option Processes) → e.phase ≡ Started
    → (container_of e ps).status ≡ (if lives_in ps then Running else Stopped)
status_started e ps h = ap (λ p. (container_by p e ps).status) h ∙ begun_status e ps

pub by_start : (b : Bool) → (if b then Running else Stopped) ≡ Created → ⊥
by_start b h = by_life b (if b then Running else Stopped) refl h

-- what was started before, or has ended, is not created
pub not_created : (c : Container) → (c.status ≡ Created → ⊥) → start c.status c ≡ (Refused NotCreated, Some c)
not_created c n = by c.status refl
  where
    by : (s : Status) → c.status ≡ s → start s c ≡ (Refused NotCreated, Some c)
    by Created h = absurd (n h)
    by Running h = refl
    by Stopped h = refl

pub started_no : (e : Entry) (ps : Option Processes) → e.phase ≡ Started → ((container_of e ps).status ≡ Created → ⊥)
started_no e ps h = λ bad. by_start (lives_in ps) (sym (status_started e ps h) ∙ bad)

pub ended_no : (e : Entry) (ps : Option Processes) → e.phase ≡ Ended → ((container_of e ps).status ≡ Created → ⊥)
ended_no e ps h = λ bad. let no_way : Stopped ≡ Created = sym (status_ended e ps h) ∙ bad in absurd (cc)

-- a container that is started
pub starts : (c : Container) → c.status ≡ Created
    → let p = first_call c.processes.native c.first in start c.status c ≡ (start_reply p.0, Some (running c (left_after p.0 p.1)))
starts c h = ap (λ s. start s c) h

begins_by : (phase : Phase) (e : Entry) (ps : Option Processes) → phase ≡ Made → let c = container_by phase e ps in
    (c.first ≡ by_program e.checked) × (c.processes.native ≡ (profile_of e.checked).native)
begins_by Made e ps h = (refl, refl)
begins_by Started e ps h = let no_way : Started ≡ Made = h in absurd (cc)
begins_by Ended e ps h = let no_way : Ended ≡ Made = h in absurd (cc)

-- begins with its checked filter
pub begins : (e : Entry) (ps : Option Processes) → e.phase ≡ Made → let c = container_of e ps in
    first_call c.processes.native c.first ≡ first_call (profile_of e.checked).native (by_program e.checked)
begins e ps h =
    let both = begins_by e.phase e ps h in
    ap (λ (native : Arch). first_call native (container_of e ps).first) both.1 ∙ ap (first_call (profile_of e.checked).native) both.0

as_by : (phase : Phase) (e : Entry) (ps : Option Processes) (p : Processes) → phase ≡ Made
    → running (container_by phase e ps) p ≡ container_by Started e (Some p)
as_by Made e ps p h = refl
as_by Started e ps p h = let no_way : Started ≡ Made = h in absurd (cc)
as_by Ended e ps p h = let no_way : Ended ≡ Made = h in absurd (cc)

-- a made container with tasks is one that was started
pub runs_as : (e : Entry) (ps : Option Processes) (p : Processes) → e.phase ≡ Made
    → running (container_of e ps) p ≡ container_of (record e { phase = Started }) (Some p)
runs_as e ps p h = as_by e.phase e ps p h

-- ---- ids

same_ids : (k : Containers) (es : Entries) → ids_of (world_from k es) ≡ map (λ e. e.0) es
same_ids k [] = refl
same_ids k (e ∷ es) = ap (λ (ids : List (List ℕ)). e.0 ∷ ids) (same_ids k es)

pub id_at : (k : Containers) (es : Entries) (i : ℕ) → slice_get (ids_of (world_from k es)) i ≡ option_map (λ e. e.0) (slice_get es i)
id_at k es i = ap (λ ids. slice_get ids i) (same_ids k es) ∙ slice_get-map (λ e. e.0) es i

-- ---- a new entry

pub lacks : (es : Entries) (id : List ℕ) → is_some (lookup (same_text id) es) ≡ false → lookup (same_text id) es ≡ None
lacks es id h = by (lookup (same_text id) es) refl
  where
    by : (o : Option Entry) → lookup (same_text id) es ≡ o → lookup (same_text id) es ≡ None
    by None e = e
    by (Some x) e = let bad : true ≡ false = sym (ap is_some e) ∙ h in absurd (cc)

-- an id that is kept has a container
pub taken : (k : Containers) (id : List ℕ) (es : Entries) → is_some (lookup (same_text id) es) ≡ true
    → (c : Container) × (container_at id (world_from k es) ≡ Some c)
taken k id es h = by (lookup (same_text id) es) refl
  where
    by : (o : Option Entry) → lookup (same_text id) es ≡ o → (c : Container) × (container_at id (world_from k es) ≡ Some c)
    by None e = let bad : false ≡ true = sym (ap is_some e) ∙ h in absurd (cc)
    by (Some x) e = (container_of x (k id), there k id es x e)

-- what stays true whether the new entry could be kept or not
pub record Kept (k : Containers) (es : Entries) : Type 0 where
  pub ids : AllIds es
  pub in_step : InStep k es

pub kept_by : {T E P : Type 0} (k : Containers) (r : Result T E) (id : List ℕ) (x : Entry) (old new : Entries)
    → OnOk r P → (P → FindsAt old new id (Some x))
    → OnErr r (new ≡ old) → lookup (same_text id) old ≡ None → x.phase ≡ Made → is_id id ≡ true → AllIds old → InStep k old → Kept k new
kept_by k (Ok v) id x old new ok finds err none phase is ids steps =
    let own : is_some (k id) ≡ started_in (Some x) = steps id ∙ (ap started_in none ∙ sym (ap is_started phase)) in record {
      ids = ids_kept old new id (Some x) (finds ok) is ids;
      in_step = step_kept k k old new id (k id) (Some x) (set_own k id) (finds ok) own steps;
    }
kept_by k (Err v) id x old new ok finds err none phase is ids steps = record {
  ids = λ q h. ids q (sym (ap (λ es. is_some (lookup (same_text q) es)) err) ∙ h);
  in_step = λ q. steps q ∙ sym (ap (λ es. started_at es q) err);
}

-- what is never true is false
pub never : (b : Bool) → (b ≡ true → false ≡ true) → b ≡ false
never true h = let bad : false ≡ true = h refl in absurd (cc)
never false h = refl
