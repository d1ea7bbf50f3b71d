-- A task keeps its filters: what stood in a task's list stands there after an event, behind newer ones or none.
use Rattle.std.proofs.Common.{◌≡◌, ℕ, zero, suc, ◌+◌, ◌-◌, ◌==◌, ◌&&◌, ◌||◌, ◌<◌, ◌≤◌, Bool, true, false, not, List, [], ◌∷◌, ◌++◌}
use Rattle.std.proofs.Common.{Option, Some, None, if◌then◌else◌, refl, map, length, take, drop, sym, ap, subst, ◌∙◌, arith}
use Rattle.std.proofs.Common.{take-append-drop}
use Rattle.std.specs.Prelude.{filter, find, is_none}
use Rattle.std.specs.Cmp.Lexicographic.{bytes_decides}
use Rattle.std.proofs.lemmas.Bool.{and_parts, eqb-true}
use Rattle.std.proofs.lemmas.Bool.Decides.{Decides-eqb}
use Rattle.call_record.specs.declared.layout.Record.{Record}
use Rattle.bpf_insn.specs.declared.instruction.Insn.{Insn}
use Rattle.machines.specs.declared.arch.Arch.{Arch}
use Rattle.processes.specs.declared.outcome.End.{End}
use Rattle.processes.specs.declared.outcome.End.TheVariants as end
use Rattle.processes.specs.declared.outcome.Outcome.{Outcome}
use Rattle.processes.specs.declared.row.Loading.{Loading}
use Rattle.processes.specs.declared.row.Row.{Row}
use Rattle.processes.specs.declared.row.Row.TheVariants.{NewTask, NewThread, Execve, Exit, ExitGroup, Kill, GetPid, GetTid}
use Rattle.processes.specs.declared.row.Row.TheVariants.{GetParent, Load, NoLoad, Plain, Missing}
use Rattle.processes.specs.Laws.{Each, StandsBehind, executes, goes_on, goes_on_by, is_execve}
use Rattle.processes.specs.Tasks.{Filter, Judge, Process, Processes, admitted, end_where, is_in_group, is_live, is_task, live_task}
use Rattle.processes.specs.Tasks.{program_judge, with_tasks}
use Rattle.processes.specs.Calls.{row_of}
use Rattle.processes.specs.Kernel.{carried_out, cloned, conflicts, executed, first_conflict, forked, is_oldest_part, is_sibling}
use Rattle.processes.specs.Kernel.{judged, judged_by, listener_after, loaded, loads_of, passes, presented, presented_by, renewed}
use Rattle.processes.specs.Kernel.{signalled, takes, verdict_on, withheld}
use Rattle.processes.specs.Attached.{Beside}
use Rattle.processes.proofs.Changes.{Survives, SurvivesStops, either, event_keeps, judged_stays, signal_keeps, stops_too}
use Rattle.processes.proofs.Laws.{behind_one, each_map, each_push, end_each, found, image_each}
use Rattle.processes.proofs.Numbers.{Ascends, InOrder, above}

-- ---- lists of tasks

pub each_to : (P Q : Process → Type 0) → ((u : Process) → P u → Q u) → (ts : List Process) → Each P ts → Each Q ts
each_to P Q h [] p = tt
each_to P Q h (t ∷ ts) p = (h t p.0, each_to P Q h ts p.1)

pub each_both : (P Q : Process → Type 0) (ts : List Process) → Each P ts → Each Q ts → Each (λ u. P u × Q u) ts
each_both P Q [] p q = tt
each_both P Q (t ∷ ts) p q = ((p.0, q.0), each_both P Q ts p.1 q.1)

pub each_any : (P : Process → Type 0) → ((u : Process) → P u) → (ts : List Process) → Each P ts
each_any P h [] = tt
each_any P h (t ∷ ts) = (h t, each_any P h ts)

meets_by : (test : Process → Bool) (t u : Process) (ts : List Process) (b : Bool) → test t ≡ b
    → (find test ts ≡ Some u → test u ≡ true) → find test (t ∷ ts) ≡ Some u → test u ≡ true
meets_by test t u ts true h rest e = let is : Some t ≡ Some u = rw h at e in let same : t ≡ u = cc in
    subst (λ (x : Process). test x ≡ true) same h
meets_by test t u ts false h rest e = rest (rw h at e)

-- who is found meets the test
pub meets : (test : Process → Bool) (ts : List Process) (u : Process) → find test ts ≡ Some u → test u ≡ true
meets test [] u e = let bad : None ≡ Some u = e in absurd (cc)
meets test (t ∷ ts) u e = meets_by test t u ts (test t) refl (meets test ts u) e

none_by : (test : Process → Bool) (t : Process) (ts : List Process) (b : Bool) → test t ≡ b
    → (find test ts ≡ None → Each (λ u. test u ≡ false) ts)
    → find test (t ∷ ts) ≡ None → Each (λ u. test u ≡ false) (t ∷ ts)
none_by test t ts true h rest e = let bad : Some t ≡ None = rw h at e in absurd (cc)
none_by test t ts false h rest e = (h, rest (rw h at e))

-- where none is found, none meets it
none_meets : (test : Process → Bool) (ts : List Process) → find test ts ≡ None → Each (λ u. test u ≡ false) ts
none_meets test [] e = tt
none_meets test (t ∷ ts) e = none_by test t ts (test t) refl (none_meets test ts) e

-- ---- the one live task of a number

same_number : (a b : ℕ) → a ≡ b → (a == b) ≡ true
same_number a b e = (Decides-eqb a b).1 e

-- who lives and has this number is this task
abbrev pub Only : ℕ → Process → Process → Type 0
Only m t u = u.number ≡ m → is_live u ≡ true → u ≡ t

abbrev pub test_of : ℕ → Process → Bool
test_of m u = is_task m u && is_live u

is_number : (m : ℕ) (u : Process) → test_of m u ≡ true → u.number ≡ m
is_number m u h = eqb-true u.number m (and_parts (u.number == m) (is_live u) h).0

lives_too : (m : ℕ) (u : Process) → test_of m u ≡ true → is_live u ≡ true
lives_too m u h = (and_parts (u.number == m) (is_live u) h).1

test_meets : (m : ℕ) (u : Process) → u.number ≡ m → is_live u ≡ true → test_of m u ≡ true
test_meets m u is live = rw (same_number u.number m is) live

only_by : (m top : ℕ) (x t : Process) (ts : List Process) (b : Bool) → test_of m x ≡ b → Each (λ u. x.number < u.number) ts
    → (find (test_of m) ts ≡ Some t → Each (Only m t) ts) → find (test_of m) (x ∷ ts) ≡ Some t → Each (Only m t) (x ∷ ts)
only_by m top x t ts true h over rest e =
    let is : Some x ≡ Some t = rw h at e in
    let same : x ≡ t = cc in
    let number : x.number ≡ m = is_number m x h in
    (λ n l. same, each_to (λ u. x.number < u.number) (Only m t) (λ u less n l. absurd (omega arith)) ts over)
only_by m top x t ts false h over rest e =
    ((λ n l. let bad : true ≡ false = sym (test_meets m x n l) ∙ h in absurd (cc)), rest (rw h at e))

only_one : (m low top : ℕ) (t : Process) (ts : List Process) → Ascends low ts top → live_task m ts ≡ Some t → Each (Only m t) ts
only_one m low top t [] p e = tt
only_one m low top t (x ∷ ts) p e = only_by m top x t ts (test_of m x) refl (above x.number top ts p.1) (only_one m x.number top t ts p.1) e

at_most : (low top : ℕ) (ts : List Process) → Ascends low ts top → low ≤ top
at_most low top [] p = p
at_most low top (t ∷ ts) p =
    let less : low < t.number = p.0 in
    let rest : t.number ≤ top = at_most t.number top ts p.1 in omega arith

-- no number is above the count
within : (low top : ℕ) (ts : List Process) → Ascends low ts top → Each (λ u. u.number ≤ top) ts
within low top [] p = tt
within low top (t ∷ ts) p = (at_most t.number top ts p.1, within t.number top ts p.1)

-- ---- load numbers tell filters apart

-- each filter has the judge of its load number, and none a load number above the count
abbrev pub Agree : (ℕ → Judge) → ℕ → List Filter → Type 0
Agree judges top [] = Unit {0}
Agree judges top (f ∷ fs) = (f.judge ≡ judges f.load) × (f.load ≤ top) × Agree judges top fs

abbrev pub Agrees : (ℕ → Judge) → ℕ → Process → Type 0
Agrees judges top t = Agree judges top t.filters

-- in a container a load number stands for one judge
pub record Told (ps : Processes) : Type 0 where
  pub judges : ℕ → Judge
  pub agree : Each (Agrees judges ps.loads) ps.tasks

-- with one judge more
abbrev pub more : (ℕ → Judge) → ℕ → Judge → ℕ → Judge
more judges top judge k = if k == top + 1 then judge else judges k

old_by : (judges : ℕ → Judge) (top k : ℕ) (judge : Judge) (b : Bool) → (k == top + 1) ≡ b
    → k ≤ top → judges k ≡ (if b then judge else judges k)
old_by judges top k judge true h le = let same : k ≡ top + 1 = eqb-true k (top + 1) h in absurd (omega arith)
old_by judges top k judge false h le = refl

grows : (judges : ℕ → Judge) (top : ℕ) (judge : Judge) (fs : List Filter) → Agree judges top fs → Agree (more judges top judge) (top + 1) fs
grows judges top judge [] a = tt
grows judges top judge (f ∷ fs) a =
    let le : f.load ≤ top = a.1 in
    (a.0 ∙ old_by judges top f.load judge (f.load == top + 1) refl le, omega arith, grows judges top judge fs a.2)

new_is : (judges : ℕ → Judge) (top : ℕ) (judge : Judge) → judge ≡ more judges top judge (top + 1)
new_is judges top judge = rw (same_number (top + 1) (top + 1) refl) refl

agrees_ends : (judges : ℕ → Judge) (top : ℕ) (test : Process → Bool) (e : End) (ts : List Process)
    → Each (Agrees judges top) ts → Each (Agrees judges top) (end_where test e ts)
agrees_ends judges top test e ts s = end_each (Agrees judges top) (λ last u a. a) test e ts s

told_ends : SurvivesStops Told
told_ends = stops_too Told (λ test e ps told. record {
  judges = told.judges;
  agree = agrees_ends told.judges ps.loads test e ps.tasks told.agree;
})

told_loaded : (how : Loading) (p : List Insn) (t : Process) (ps : Processes) (told : Told ps)
    → Agrees told.judges ps.loads t → Told (loaded how p t ps)
told_loaded how p t ps told own =
    let judges = more told.judges ps.loads (program_judge p) in
    let first : Filter = record { load = ps.loads + 1; judge = program_judge p } in
    let listener = listener_after how (ps.loads + 1) t.listener in
    let all : Agree judges (ps.loads + 1) (first ∷ t.filters) =
    (new_is told.judges ps.loads (program_judge p), omega arith, grows told.judges ps.loads (program_judge p) t.filters own) in
    record {
      judges = judges;
      agree = each_map (Agrees told.judges ps.loads) (Agrees judges (ps.loads + 1)) (λ u. if takes how.for_all t u then record u {
        filters = first ∷ t.filters;
        listener = listener;
      } else u)
          (λ u a. either (Agrees judges (ps.loads + 1)) (takes how.for_all t u) (record u {
            filters = first ∷ t.filters;
            listener = listener;
          }) u all (grows told.judges ps.loads (program_judge p) u.filters a))
          ps.tasks told.agree;
    }

-- Load numbers stay so, whatever a task presents,
pub told_event : (n : ℕ) (r : Record) (b : Beside) (ps : Processes) → Told ps → Told (presented n r b ps).1
told_event n r b ps told = event_keeps Told n r b ps told by
  where
    by : (t : Process) → live_task n ps.tasks ≡ Some t → Survives Told t r b ps
    by t e =
        let P = Agrees told.judges ps.loads in
        let own : P t = found P (test_of n) ps.tasks told.agree t e in record {
          same = told;
          ends = told_ends;
          fork = record { judges = told.judges; agree = each_push P ps.tasks (forked t (ps.made + 1)) told.agree own };
          thread = record { judges = told.judges; agree = each_push P ps.tasks (cloned t (ps.made + 1)) told.agree own };
          image = λ through row. record { judges = told.judges; agree = image_each P (λ last u q. q) t own ps.tasks told.agree };
          load = λ how p none. told_loaded how p t ps told own;
        }

-- and whatever signal comes from outside,
pub told_signal : (sig : ℕ) (ps : Processes) → Told ps → Told (signalled sig ps)
told_signal sig ps told = signal_keeps Told told_ends sig ps told

-- and are so as a container begins
pub told_begin : (native : Arch) (judge : Judge) → Told (admitted native judge)
told_begin native judge = record { judges = λ k. judge; agree = ((refl, omega arith, tt), tt) }

-- ---- an oldest part

drop_loads : (k : ℕ) (fs : List Filter) → map (λ f. f.load) (drop k fs) ≡ drop k (map (λ f. f.load) fs)
drop_loads zero fs = refl
drop_loads (suc k) [] = refl
drop_loads (suc k) (f ∷ fs) = drop_loads k fs

drop_agree : (judges : ℕ → Judge) (top k : ℕ) (fs : List Filter) → Agree judges top fs → Agree judges top (drop k fs)
drop_agree judges top zero fs a = a
drop_agree judges top (suc k) [] a = a
drop_agree judges top (suc k) (f ∷ fs) a = drop_agree judges top k fs a.2

-- filters of the same load numbers are the same
same_filters : (judges : ℕ → Judge) (top : ℕ) (xs ys : List Filter) → Agree judges top xs → Agree judges top ys
    → map (λ f. f.load) xs ≡ map (λ f. f.load) ys → xs ≡ ys
same_filters judges top [] [] a b e = refl
same_filters judges top [] (y ∷ ys) a b e = absurd (cc)
same_filters judges top (x ∷ xs) [] a b e = absurd (cc)
same_filters judges top (x ∷ xs) (y ∷ ys) a b e =
    let load : x.load ≡ y.load = cc in
    let left : map (λ f. f.load) xs ≡ map (λ f. f.load) ys = cc in
    let judge : x.judge ≡ y.judge = a.0 ∙ (ap judges load ∙ sym b.0) in
    let first : x ≡ y = ap (λ (n : ℕ). record { load = n; judge = x.judge }) load
    ∙ ap (λ (j : Judge). record { load = y.load; judge = j }) judge in
    let rest : xs ≡ ys = same_filters judges top xs ys a.2 b.2 left in
    ap (λ (f : Filter). f ∷ xs) first ∙ ap (λ (fs : List Filter). y ∷ fs) rest

-- a list whose load numbers are an oldest part of another's stands behind its newest filters
part_stands : (judges : ℕ → Judge) (top : ℕ) (older newer : Process) → Agrees judges top older → Agrees judges top newer
    → is_oldest_part (loads_of older) (loads_of newer) ≡ true → StandsBehind older.filters newer.filters
part_stands judges top older newer a b h =
    let k = length (loads_of newer) - length (loads_of older) in
    let same : loads_of older ≡ drop k (loads_of newer) = (bytes_decides (loads_of older) (drop k (loads_of newer))).0 h in
    let seen : loads_of older ≡ map (λ f. f.load) (drop k newer.filters) = same ∙ sym (drop_loads k newer.filters) in
    let is : older.filters ≡ drop k newer.filters = same_filters judges top older.filters (drop k newer.filters) a (drop_agree judges top k newer.filters b) seen in
    (take k newer.filters, sym (take-append-drop k newer.filters) ∙ ap (λ (fs : List Filter). take k newer.filters ++ fs) (sym is))

-- ---- what a task keeps

-- the live task of this number has these filters behind newer ones or none
abbrev pub Keeps : ℕ → List Filter → Process → Type 0
Keeps m old u = u.number ≡ m → is_live u ≡ true → StandsBehind old u.filters

abbrev pub AllKeep : ℕ → List Filter → Processes → Type 0
AllKeep m old qs = Each (Keeps m old) qs.tasks

over : (m : ℕ) (old : List Filter) (e : End) (u : Process) → Keeps m old u → Keeps m old (record u { end = Some e })
over m old e u k = λ is live. let bad : false ≡ true = live in absurd (cc)

keep_ends : (m : ℕ) (old : List Filter) → SurvivesStops (AllKeep m old)
keep_ends m old = stops_too (AllKeep m old) (λ test e ps s. end_each (Keeps m old) (over m old) test e ps.tasks s)

only_keeps : (m : ℕ) (t u : Process) → Only m t u → Keeps m t.filters u
only_keeps m t u only = λ is live. ([], ap (λ (x : Process). x.filters) (only is live))

-- what is known of each task when task c loads a filter
abbrev pub Known : (ℕ → Judge) → ℕ → ℕ → Process → Process → Bool → Process → Type 0
Known judges top m t c for_all u = Only m t u × (Only c.number c u × (Agrees judges top u × (for_all ≡ true → conflicts c u ≡ false)))

sibling_by : (judges : ℕ → Judge) (top : ℕ) (c u : Process) → Only c.number c u → Agrees judges top u
    → Agrees judges top c → conflicts c u ≡ false
    → is_in_group c.group u ≡ true → is_live u ≡ true → (b : Bool) → is_task c.number u ≡ b → StandsBehind u.filters c.filters
sibling_by judges top c u only a b free member live true h =
    ([], ap (λ (x : Process). x.filters) (sym (only (eqb-true u.number c.number h) live)))
sibling_by judges top c u only a b free member live false h = by (is_oldest_part (loads_of u) (loads_of c)) refl
  where
    by : (x : Bool) → is_oldest_part (loads_of u) (loads_of c) ≡ x → StandsBehind u.filters c.filters
    by true e = part_stands judges top u c a b e
    by false e =
        let taken : conflicts c u ≡ true = rw (member, h, live, e) refl in
        let bad : true ≡ false = sym taken ∙ free in absurd (cc)

-- who gets the caller's list has it behind the new filter
taker : (judges : ℕ → Judge) (top m : ℕ) (t c u : Process) (for_all : Bool) → Agrees judges top c → Known judges top m t c for_all u
    → takes for_all c u ≡ true → StandsBehind u.filters c.filters
taker judges top m t c u false own k h =
    let parts = and_parts (is_task c.number u) (is_live u) h in
    ([], ap (λ (x : Process). x.filters) (sym (k.1.0 (eqb-true u.number c.number parts.0) parts.1)))
taker judges top m t c u true own k h =
    let parts = and_parts (is_in_group c.group u) (is_live u) h in
    sibling_by judges top c u k.1.0 k.1.1.0 own (k.1.1.1 refl) parts.0 parts.1 (is_task c.number u) refl

given_by : (judges : ℕ → Judge) (top m : ℕ) (t c u : Process) (for_all : Bool) (f : Filter) (listener : Option ℕ)
    → Agrees judges top c → Known judges top m t c for_all u
    → (b : Bool) → takes for_all c u ≡ b → Keeps m t.filters (if b then record u { filters = f ∷ c.filters; listener = listener } else u)
given_by judges top m t c u for_all f listener own k true h = λ is live.
    let same : u ≡ t = k.0 is live in
    let behind : StandsBehind t.filters c.filters = subst (λ (x : Process). StandsBehind x.filters c.filters) same (taker judges top m t c u for_all own k h) in
    behind_one t.filters c.filters f behind
given_by judges top m t c u for_all f listener own k false h = only_keeps m t u k.0

free_by : (for_all : Bool) (c : Process) (ps : Processes) → first_conflict for_all c ps ≡ None
    → Each (λ u. for_all ≡ true → conflicts c u ≡ false) ps.tasks
free_by false c ps e = each_any (λ u. false ≡ true → conflicts c u ≡ false) (λ u h. absurd (cc)) ps.tasks
free_by true c ps e = each_to (λ u. conflicts c u ≡ false) (λ u. true ≡ true
    → conflicts c u ≡ false) (λ u h _. h) ps.tasks (none_meets (conflicts c) ps.tasks e)

module _ (ps : Processes) (p : InOrder ps) (told : Told ps) (m : ℕ) (t : Process) (is : live_task m ps.tasks ≡ Some t) where
  only : Each (Only m t) ps.tasks
  only = only_one m 0 ps.made t ps.tasks p is

  pub as_before : AllKeep m t.filters ps
  as_before = each_to (Only m t) (Keeps m t.filters) (only_keeps m t) ps.tasks only

  no_new : (n : ℕ) → n ≡ ps.made + 1 → n ≡ m → ⊥
  no_new n e f =
      let number : t.number ≡ m = is_number m t (meets (test_of m) ps.tasks t is) in
      let le : t.number ≤ ps.made = found (λ u. u.number ≤ ps.made) (test_of m) ps.tasks (within 0 ps.made ps.tasks p) t is in omega arith

  survives : (n : ℕ) (r : Record) (b : Beside) (c : Process) → live_task n ps.tasks ≡ Some c
      → (executes r b ps c && (c.group == m)) ≡ false → Survives (AllKeep m t.filters) c r b ps
  survives n r b c e other = record {
    same = as_before;
    ends = keep_ends m t.filters;
    fork = each_push (Keeps m t.filters) ps.tasks (forked c (ps.made + 1)) as_before (λ number live. absurd (no_new (ps.made + 1) refl number));
    thread = each_push (Keeps m t.filters) ps.tasks (cloned c (ps.made + 1)) as_before (λ number live. absurd (no_new (ps.made + 1) refl number));
    image = λ through row. image_each (Keeps m t.filters) (over m t.filters) c
        (λ number live. let bad : true ≡ false = sym (rw (through, row, same_number c.group m number) refl) ∙ other in
        absurd (cc)) ps.tasks as_before;
    load = λ how q none.
        let P = Agrees told.judges ps.loads in
        let own : P c = found P (test_of n) ps.tasks told.agree c e in
        let number : c.number ≡ n = is_number n c (meets (test_of n) ps.tasks c e) in
        let caller : Each (Only c.number c) ps.tasks = only_one c.number 0 ps.made c ps.tasks p (ap (λ k. live_task k ps.tasks) number ∙ e) in
        let free : Each (λ u. how.for_all ≡ true → conflicts c u ≡ false) ps.tasks = free_by how.for_all c ps none in
        let first : Filter = record { load = ps.loads + 1; judge = program_judge q } in
        let listener = listener_after how (ps.loads + 1) c.listener in
        each_map (Known told.judges ps.loads m t c how.for_all) (Keeps m t.filters) (λ u. if takes how.for_all c u then record u {
          filters = first ∷ c.filters;
          listener = listener;
        } else u)
        (λ u k. given_by told.judges ps.loads m t c u how.for_all first listener own k (takes how.for_all c u) refl) ps.tasks
        (each_both (Only m t) _ ps.tasks only (each_both (Only c.number c) _ ps.tasks caller (each_both P _ ps.tasks told.agree free)));
  }

-- the caller of an execve goes on under its group's number
row_by : (row : Row) → is_execve row ≡ true → row ≡ Execve
row_by Execve h = refl
row_by NewTask h = absurd (cc)
row_by NewThread h = absurd (cc)
row_by Exit h = absurd (cc)
row_by ExitGroup h = absurd (cc)
row_by Kill h = absurd (cc)
row_by GetPid h = absurd (cc)
row_by GetTid h = absurd (cc)
row_by GetParent h = absurd (cc)
row_by (Load how) h = absurd (cc)
row_by NoLoad h = absurd (cc)
row_by Plain h = absurd (cc)
row_by Missing h = absurd (cc)

renewed_by : (m : ℕ) (c u : Process) → c.group ≡ m → (b : Bool) → is_task c.group u ≡ b → Keeps m c.filters (if b then renewed c else u)
renewed_by m c u e true h = λ is live. ([], refl)
renewed_by m c u e false h = λ is live. let bad : true ≡ false = sym (same_number u.number c.group (is ∙ sym e)) ∙ h in absurd (cc)

executed_keeps : (m : ℕ) (c : Process) (ts : List Process) → c.group ≡ m → Each (Keeps m c.filters) (executed c ts)
executed_keeps m c ts e =
    let kept = filter (λ u. is_task c.group u || not (is_task c.number u)) (end_where (is_sibling c) (end.Signal 9) ts) in
    each_map (λ u. Unit {0}) (Keeps m c.filters) (λ u. if is_task c.group u then renewed c else u) (λ u x. renewed_by m c u e (is_task c.group u) refl) kept
    (each_any (λ u. Unit {0}) (λ u. tt) kept)

-- what is withheld, where a call passes
none_withheld : (o : Option Outcome) → is_none o ≡ true → o ≡ None
none_withheld None h = refl
none_withheld (Some outcome) h = absurd (cc)

carried : (r : Record) (b : Beside) (ps : Processes) (c : Process) → executes r b ps c ≡ true
    → (judged (verdict_on r c) c r b ps).1 ≡ with_tasks ps (executed c ps.tasks)
carried r b ps c h =
    let v = verdict_on r c in
    let parts = and_parts (passes v r b c) (is_execve (row_of ps.native r)) h in
    ap (λ (o : Option Outcome). (judged_by o v c r b ps).1) (none_withheld (withheld v r b.response c) parts.0)
    ∙ ap (λ (row : Row). (carried_out row c r b.attached ps).1) (row_by (row_of ps.native r) parts.1)

after_by : (n : ℕ) (r : Record) (b : Beside) (ps : Processes) (m : ℕ) (t : Process) → InOrder ps
    → Told ps → (o : Option Process) → live_task n ps.tasks ≡ o
    → goes_on_by o r b m ps ≡ Some t → AllKeep m t.filters (presented_by o r b ps).1
after_by n r b ps m t p told None e is = as_before ps p told m t is
after_by n r b ps m t p told (Some c) e is = by (executes r b ps c && (c.group == m)) refl
  where
    by : (x : Bool) → (executes r b ps c && (c.group == m)) ≡ x → AllKeep m t.filters (presented_by (Some c) r b ps).1
    by true h =
        let parts = and_parts (executes r b ps c) (c.group == m) h in
        let caller : Some c ≡ Some t = rw h at is in
        let same : c ≡ t = cc in
        let kept : AllKeep m c.filters (with_tasks ps (executed c ps.tasks)) = executed_keeps m c ps.tasks (eqb-true c.group m parts.1) in
        let there : AllKeep m c.filters (judged (verdict_on r c) c r b ps).1 = subst (AllKeep m c.filters) (sym (carried r b ps c parts.0)) kept in
        subst (λ (x : Process). AllKeep m x.filters (judged (verdict_on r c) c r b ps).1) same there
    by false h =
        let number : live_task m ps.tasks ≡ Some t = rw h at is in
        judged_stays (AllKeep m t.filters) c r b ps (survives ps p told m t number n r b c e h)

kept_by : (m : ℕ) (old : List Filter) (qs : Processes) (u : Process) → AllKeep m old qs
    → live_task m qs.tasks ≡ Some u → StandsBehind old u.filters
kept_by m old qs u all e =
    let test : test_of m u ≡ true = meets (test_of m) qs.tasks u e in
    found (Keeps m old) (test_of m) qs.tasks all u e (is_number m u test) (lives_too m u test)

-- Who goes on under a number after an event has its old filters there, behind newer ones or none.
pub kept_by_event : (n : ℕ) (r : Record) (b : Beside) (ps : Processes) (m : ℕ) (t u : Process)
    → InOrder ps → Told ps → goes_on n r b m ps ≡ Some t
    → live_task m (presented n r b ps).1.tasks ≡ Some u → StandsBehind t.filters u.filters
kept_by_event n r b ps m t u p told is after =
    kept_by m t.filters (presented n r b ps).1 u (after_by n r b ps m t p told (live_task n ps.tasks) refl is) after

-- and so has each live task after a signal from outside
pub kept_by_signal : (sig : ℕ) (ps : Processes) (m : ℕ) (t u : Process) → InOrder ps → Told ps → live_task m ps.tasks ≡ Some t
    → live_task m (signalled sig ps).tasks ≡ Some u → StandsBehind t.filters u.filters
kept_by_signal sig ps m t u p told is after =
    kept_by m t.filters (signalled sig ps) u (signal_keeps (AllKeep m t.filters) (keep_ends m t.filters) sig ps (as_before ps p told m t is)) after
