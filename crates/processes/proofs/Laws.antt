-- What is kept, and what ends, whatever tasks do.
use Rattle.std.proofs.Common.{◌≡◌, ℕ, ◌+◌, ◌&&◌, ◌||◌, Bool, true, false, not, List, [], ◌∷◌, ◌++◌, Some, None, if◌then◌else◌, refl}
use Rattle.std.proofs.Common.{map, ap, subst}
use Rattle.std.specs.Prelude.{filter, find}
use Rattle.call_record.specs.declared.layout.Record.{Record}
use Rattle.bpf_insn.specs.declared.instruction.Insn.{Insn}
use Rattle.machines.specs.declared.arch.Arch.{Arch}
use Rattle.processes.specs.declared.outcome.End.{End}
use Rattle.processes.specs.declared.outcome.End.TheVariants as end
use Rattle.processes.specs.declared.row.Loading.{Loading}
use Rattle.processes.specs.Laws.{Each, FirstFilterStays, HasEnded, KeepsBehind, StandsBehind}
use Rattle.processes.specs.Tasks.{Judge, Filter, admitted, Process, Processes, is_live, is_task, live_task, lives, end_by}
use Rattle.processes.specs.Tasks.{end_where, with_tasks, ended}
use Rattle.processes.specs.Kernel.{forked, cloned, is_sibling, renewed, executed, loaded, presented, signalled, takes}
use Rattle.processes.specs.Attached.{Beside}
use Rattle.processes.proofs.Changes.{Survives, SurvivesStops, either, event_keeps, signal_keeps, stops_too}

pub each_map : (P Q : Process → Type 0) (f : Process → Process) → ((t : Process) → P t → Q (f t))
    → (ts : List Process) → Each P ts → Each Q (map f ts)
each_map P Q f h [] p = tt
each_map P Q f h (t ∷ ts) p = (h t p.0, each_map P Q f h ts p.1)

kept_if : (P : Process → Type 0) (b : Bool) (t : Process) (ts : List Process) → P t → Each P ts → Each P (if b then t ∷ ts else ts)
kept_if P true t ts p q = (p, q)
kept_if P false t ts p q = q

pub each_filter : (P : Process → Type 0) (test : Process → Bool) (ts : List Process) → Each P ts → Each P (filter test ts)
each_filter P test [] p = tt
each_filter P test (t ∷ ts) p = kept_if P (test t) t (filter test ts) p.0 (each_filter P test ts p.1)

pub each_push : (P : Process → Type 0) (ts : List Process) (u : Process) → Each P ts → P u → Each P (ts ++ u ∷ [])
each_push P [] u p q = (q, tt)
each_push P (t ∷ ts) u p q = (p.0, each_push P ts u p.1 q)

-- Ends.

over : (e : End) (t : Process) (b : Bool) → is_live t ≡ b → is_live (if b then record t { end = Some e } else t) ≡ false
over e t true h = refl
over e t false h = h

-- a task that ends lives no more
ends : (e : End) (t : Process) → HasEnded (end_by e t)
ends e t = over e t (is_live t) refl

all_end : (e : End) (ts : List Process) → Each HasEnded (end_where (λ t. true) e ts)
all_end e [] = tt
all_end e (t ∷ ts) = (ends e t, all_end e ts)

settled_by : (ps : Processes) (b : Bool) → lives ps ≡ b
    → let out = if b then ps else with_tasks ps (end_where (λ t. true) (end.Signal 9) ps.tasks) in
    lives out ≡ false → Each HasEnded out.tasks
settled_by ps true h stopped = let bad : true ≡ false = rw h at stopped in absurd (cc)
settled_by ps false h stopped = all_end (end.Signal 9) ps.tasks

-- Where an end leaves no live task of group 1, it leaves no live task.
pub stops_all : (test : Process → Bool) (e : End) (ps : Processes) → lives (ended test e ps) ≡ false → Each HasEnded (ended test e ps).tasks
stops_all test e ps = settled_by (with_tasks ps (end_where test e ps.tasks)) (lives (with_tasks ps (end_where test e ps.tasks))) refl

-- What an end leaves of a task, ends leave of each,
pub end_each : (P : Process → Type 0) → ((e : End) (u : Process) → P u → P (record u { end = Some e }))
    → (test : Process → Bool) (e : End) (ts : List Process)
    → Each P ts → Each P (end_where test e ts)
end_each P ends test e ts s =
    each_map P P (λ u. if test u then end_by e u else u)
    (λ u p. either P (test u) (end_by e u) u (either P (is_live u) (record u { end = Some e }) u (ends e u p) p) p) ts s

-- and a new image of what the caller goes on as
pub image_each : (P : Process → Type 0) → ((e : End) (u : Process) → P u → P (record u { end = Some e }))
    → (t : Process) → P (renewed t) → (ts : List Process)
    → Each P ts → Each P (executed t ts)
image_each P ends t own ts s =
    let left = end_where (is_sibling t) (end.Signal 9) ts in
    let test : Process → Bool = λ u. is_task t.group u || not (is_task t.number u) in
    each_map P P (λ u. if is_task t.group u then renewed t else u) (λ u p. either P (is_task t.group u) (renewed t) u own p) (filter test left)
    (each_filter P test left (end_each P ends (is_sibling t) (end.Signal 9) ts s))

-- Filters.

pub behind_one : (old fs : List Filter) (f : Filter) → StandsBehind old fs → StandsBehind old (f ∷ fs)
behind_one old fs f s = (f ∷ s.0, ap (λ (xs : List Filter). f ∷ xs) s.1)

where_keeps : (old : List Filter) (test : Process → Bool) (e : End) (ts : List Process)
    → Each (KeepsBehind old) ts → Each (KeepsBehind old) (end_where test e ts)
where_keeps old test e ts s = end_each (KeepsBehind old) (λ last u p. p) test e ts s

loaded_keeps : (old : List Filter) (how : Loading) (p : List Insn) (t : Process) (ps : Processes) → KeepsBehind old t
    → Each (KeepsBehind old) ps.tasks → Each (KeepsBehind old) (loaded how p t ps).tasks
loaded_keeps old how p t ps k s =
    each_map (KeepsBehind old) (KeepsBehind old) _
    (λ u q. either (KeepsBehind old) (takes how.for_all t u) _ u (behind_one old t.filters _ k) q) ps.tasks s

found_by : (P : Process → Type 0) (test : Process → Bool) (t : Process) (ts : List Process) (b : Bool) → test t ≡ b → P t → (u : Process)
    → (find test ts ≡ Some u → P u) → find test (t ∷ ts) ≡ Some u → P u
found_by P test t ts true h p u rest e = let is : Some t ≡ Some u = rw h at e in let same : t ≡ u = cc in subst P same p
found_by P test t ts false h p u rest e = rest (rw h at e)

-- a task that is found is one of the list
pub found : (P : Process → Type 0) (test : Process → Bool) (ts : List Process) → Each P ts → (u : Process) → find test ts ≡ Some u → P u
found P test [] s u e = let bad : None ≡ Some u = e in absurd (cc)
found P test (t ∷ ts) s u e = found_by P test t ts (test t) refl s.0 u (found P test ts s.1 u) e

ends_keep : (old : List Filter) → SurvivesStops (λ qs. Each (KeepsBehind old) qs.tasks)
ends_keep old = stops_too (λ qs. Each (KeepsBehind old) qs.tasks) (λ test last qs q. where_keeps old test last qs.tasks q)

-- What is behind the filters of every task stays behind them, whatever a task presents.
pub keeps_behind : (old : List Filter) (n : ℕ) (r : Record) (b : Beside) (ps : Processes) → Each (KeepsBehind old) ps.tasks
    → Each (KeepsBehind old) (presented n r b ps).1.tasks
keeps_behind old n r b ps s = event_keeps (λ qs. Each (KeepsBehind old) qs.tasks) n r b ps s by
  where
    by : (t : Process) → live_task n ps.tasks ≡ Some t → Survives (λ qs. Each (KeepsBehind old) qs.tasks) t r b ps
    by t e =
        let k = found (KeepsBehind old) (λ u. is_task n u && is_live u) ps.tasks s t e in record {
          same = s;
          ends = ends_keep old;
          fork = each_push (KeepsBehind old) ps.tasks (forked t (ps.made + 1)) s k;
          thread = each_push (KeepsBehind old) ps.tasks (cloned t (ps.made + 1)) s k;
          image = λ through row. image_each (KeepsBehind old) (λ last u p. p) t k ps.tasks s;
          load = λ how p none. loaded_keeps old how p t ps k s;
        }

-- and whatever signal comes from outside
pub signal_keeps_behind : (old : List Filter) (sig : ℕ) (ps : Processes) → Each (KeepsBehind old) ps.tasks
    → Each (KeepsBehind old) (signalled sig ps).tasks
signal_keeps_behind old sig ps s =
    signal_keeps (λ qs. Each (KeepsBehind old) qs.tasks) (ends_keep old) sig ps s

-- and a container begins with its first filter there
pub first_is_behind : (native : Arch) (judge : Judge)
    → Each (KeepsBehind (record { load = 0; judge = judge } ∷ [])) (admitted native judge).tasks
first_is_behind native judge = (([], refl), tt)

pub first_filter_stays : FirstFilterStays
first_filter_stays = record { begin = first_is_behind; event = keeps_behind; signal = signal_keeps_behind }
