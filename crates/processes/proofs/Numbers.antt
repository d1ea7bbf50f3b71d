-- Tasks stand in the order of their numbers, so no number stands twice and the first that meets a test
-- has the least.
use Rattle.std.proofs.Common.{◌≡◌, ℕ, ◌+◌, ◌==◌, ◌||◌, ◌<◌, ◌≤◌, Bool, true, false, not, List, [], ◌∷◌, ◌++◌, Some, if◌then◌else◌}
use Rattle.std.proofs.Common.{refl, sym, ◌∙◌, map, arith, subst}
use Rattle.std.specs.Prelude.{IsTrue, nat_lt, filter, find}
use Rattle.std.proofs.lemmas.Bool.Decides.{Decides-eqb}
use Rattle.std.proofs.lemmas.Bool.{and_parts, leb-true, ltb-true, le-leb, lt-ltb}
use Rattle.call_record.specs.declared.layout.Record.{Record}
use Rattle.bpf_insn.specs.declared.instruction.Insn.{Insn}
use Rattle.processes.specs.declared.outcome.End.{End}
use Rattle.processes.specs.declared.outcome.End.TheVariants as end
use Rattle.processes.specs.declared.row.Loading.{Loading}
use Rattle.processes.specs.Tasks.{ascends, Process, Processes, is_live, is_task, end_by, end_where}
use Rattle.processes.specs.Kernel.{forked, cloned, is_sibling, renewed, executed, loaded, takes, signalled, presented}
use Rattle.processes.specs.Attached.{Beside}
use Rattle.processes.specs.Laws.{Each, NumbersAscend}
use Rattle.processes.proofs.Changes.{SurvivesStops, either, event_keeps, signal_keeps, stops_too}

-- the numbers ascend, above one number and up to another
abbrev pub Ascends : ℕ → List Process → ℕ → Type 0
Ascends low [] top = low ≤ top
Ascends low (t ∷ ts) top = (low < t.number) × Ascends t.number ts top

abbrev pub InOrder : Processes → Type 0
InOrder ps = Ascends 0 ps.tasks ps.made

pub to_order : (low : ℕ) (ts : List Process) (top : ℕ) → IsTrue (ascends low ts top) → Ascends low ts top
to_order low [] top h = leb-true low top h
to_order low (t ∷ ts) top h =
    let parts = and_parts (nat_lt low t.number) (ascends t.number ts top) h in
    (ltb-true low t.number parts.0, to_order t.number ts top parts.1)

pub from_order : (low : ℕ) (ts : List Process) (top : ℕ) → Ascends low ts top → IsTrue (ascends low ts top)
from_order low [] top p = le-leb low top p
from_order low (t ∷ ts) top p = rw (lt-ltb low t.number p.0) (from_order t.number ts top p.1)

lower : (low less top : ℕ) (ts : List Process) → less ≤ low → Ascends low ts top → Ascends less ts top
lower low less top [] h p = omega arith
lower low less top (t ∷ ts) h p = let q : low < t.number = p.0 in let r : less < t.number = omega arith in (r, p.1)

pub same_map : (f : Process → Process) → ((t : Process) → (f t).number ≡ t.number) → (low top : ℕ) (ts : List Process)
    → Ascends low ts top → Ascends low (map f ts) top
same_map f h low top [] p = p
same_map f h low top (t ∷ ts) p = rw (h t) (p.0, same_map f h t.number top ts p.1)

fewer_if : (b : Bool) (t : Process) (rest : List Process) (low top : ℕ) → low < t.number
    → Ascends t.number rest top → Ascends low (if b then t ∷ rest else rest) top
fewer_if true t rest low top h p = (h, p)
fewer_if false t rest low top h p = let less : low ≤ t.number = omega arith in lower t.number low top rest less p

pub fewer : (test : Process → Bool) (low top : ℕ) (ts : List Process) → Ascends low ts top → Ascends low (filter test ts) top
fewer test low top [] p = p
fewer test low top (t ∷ ts) p = fewer_if (test t) t (filter test ts) low top p.0 (fewer test t.number top ts p.1)

one_more : (low top : ℕ) (ts : List Process) (u : Process) → u.number ≡ top + 1 → Ascends low ts top → Ascends low (ts ++ u ∷ []) (top + 1)
one_more low top [] u e p =
    let h : low ≤ top = p in let below : low < u.number = rw e (omega arith) in
    let within : u.number ≤ top + 1 = rw e (omega arith) in (below, within)
one_more low top (t ∷ ts) u e p = (p.0, one_more t.number top ts u e p.1)

same_end : (e : End) (t : Process) → (end_by e t).number ≡ t.number
same_end e t = either (λ (u : Process). u.number ≡ t.number) (is_live t) (record t { end = Some e }) t refl refl

where_ordered : (test : Process → Bool) (e : End) (low top : ℕ) (ts : List Process)
    → Ascends low ts top → Ascends low (end_where test e ts) top
where_ordered test e low top ts p =
    same_map (λ t. if test t then end_by e t else t)
    (λ t. either (λ (u : Process). u.number ≡ t.number) (test t) (end_by e t) t (same_end e t) refl) low top ts p

pub where_kept : (test : Process → Bool) (e : End) (old new : List Process) (top : ℕ) → new ≡ end_where test e old
    → IsTrue (ascends 0 old top) → IsTrue (ascends 0 new top)
where_kept test e old new top same h = rw same (from_order 0 (end_where test e old) top (where_ordered test e 0 top old (to_order 0 old top h)))

pub next_kept : (old new : List Process) (u : Process) (top : ℕ) → new ≡ old ++ u ∷ [] → u.number ≡ top + 1
    → IsTrue (ascends 0 old top) → IsTrue (ascends 0 new (top + 1))
next_kept old new u top same next h = rw same (from_order 0 (old ++ u ∷ []) (top + 1) (one_more 0 top old u next (to_order 0 old top h)))

number_by : (t u : Process) (b : Bool) → (u.number == t.group) ≡ b → (if b then renewed t else u).number ≡ u.number
number_by t u true h = sym ((Decides-eqb u.number t.group).0 h)
number_by t u false h = refl

pub image_ordered : (t : Process) (top : ℕ) (ts : List Process) → Ascends 0 ts top → Ascends 0 (executed t ts) top
image_ordered t top ts p =
    let left = end_where (is_sibling t) (end.Signal 9) ts in
    let test : Process → Bool = λ u. is_task t.group u || not (is_task t.number u) in
    same_map (λ u. if is_task t.group u then renewed t else u) (λ u. number_by t u (u.number == t.group) refl) 0 top (filter test left)
    (fewer test 0 top left (where_ordered (is_sibling t) (end.Signal 9) 0 top ts p))

loaded_ordered : (how : Loading) (q : List Insn) (t : Process) (ps : Processes) → InOrder ps → InOrder (loaded how q t ps)
loaded_ordered how q t ps p =
    same_map _ (λ u. either (λ (v : Process). v.number ≡ u.number) (takes how.for_all t u) _ u refl refl) 0 ps.made ps.tasks p

ends_ordered : SurvivesStops InOrder
ends_ordered = stops_too InOrder (λ test e ps p. where_ordered test e 0 ps.made ps.tasks p)

-- Whatever a task presents, tasks stay in the order of their numbers,
pub stays_in_order : (n : ℕ) (r : Record) (b : Beside) (ps : Processes) → InOrder ps → InOrder (presented n r b ps).1
stays_in_order n r b ps p = event_keeps InOrder n r b ps p (λ t e. record {
  same = p;
  ends = ends_ordered;
  fork = one_more 0 ps.made ps.tasks (forked t (ps.made + 1)) refl p;
  thread = one_more 0 ps.made ps.tasks (cloned t (ps.made + 1)) refl p;
  image = λ through row. image_ordered t ps.made ps.tasks p;
  load = λ how program none. loaded_ordered how program t ps p;
})

-- and whatever signal comes from outside
pub signal_ordered : (sig : ℕ) (ps : Processes) → InOrder ps → InOrder (signalled sig ps)
signal_ordered sig ps p = signal_keeps InOrder ends_ordered sig ps p

pub above : (low top : ℕ) (ts : List Process) → Ascends low ts top → Each (λ t. low < t.number) ts
above low top [] p = tt
above low top (t ∷ ts) p = (p.0, higher ts (above t.number top ts p.1))
  where
    higher : (us : List Process) → Each (λ u. t.number < u.number) us → Each (λ u. low < u.number) us
    higher [] q = tt
    higher (u ∷ us) q = let first : low < t.number = p.0 in let next : t.number < u.number = q.0 in
        let both : low < u.number = omega arith in (both, higher us q.1)

-- the one that is found has no greater number than any other that meets the test
abbrev pub IsLeast : (Process → Bool) → Process → List Process → Type 0
IsLeast test u ts = Each (λ v. test v ≡ true → u.number ≤ v.number) ts

all_above : (test : Process → Bool) (t : Process) (ts : List Process) → Each (λ v. t.number < v.number) ts → IsLeast test t ts
all_above test t ts p = each_map_same ts p
  where
    each_map_same : (us : List Process) → Each (λ v. t.number < v.number) us → IsLeast test t us
    each_map_same [] q = tt
    each_map_same (u ∷ us) q = (λ e. let h : t.number < u.number = q.0 in omega arith, each_map_same us q.1)

least_by : (test : Process → Bool) (t u : Process) (ts : List Process) (b : Bool) → test t ≡ b → Each (λ v. t.number < v.number) ts
    → (find test ts ≡ Some u → IsLeast test u ts) → find test (t ∷ ts) ≡ Some u → IsLeast test u (t ∷ ts)
least_by test t u ts true h p rest e =
    let is : Some t ≡ Some u = rw h at e in
    let same : t ≡ u = cc in
    let whole : IsLeast test t (t ∷ ts) = ((λ m. omega arith), all_above test t ts p) in
    subst (λ (x : Process). IsLeast test x (t ∷ ts)) same whole
least_by test t u ts false h p rest e =
    ((λ m. let bad : true ≡ false = sym m ∙ h in absurd (cc)), rest (rw h at e))

pub first_is_least : (test : Process → Bool) (low top : ℕ) (ts : List Process) (u : Process)
    → Ascends low ts top → find test ts ≡ Some u → IsLeast test u ts
first_is_least test low top [] u p e = tt
first_is_least test low top (t
    ∷ ts) u p e = least_by test t u ts (test t) refl (above t.number top ts p.1) (first_is_least test t.number top ts u p.1) e

pub numbers_ascend : NumbersAscend
numbers_ascend = record {
  begin = λ native judge. refl;
  event = λ n r b ps h. let q = presented n r b ps in
      from_order 0 q.1.tasks q.1.made (stays_in_order n r b ps (to_order 0 ps.tasks ps.made h));
  signal = λ sig ps h. from_order 0 (signalled sig ps).tasks (signalled sig ps).made (signal_ordered sig ps (to_order 0 ps.tasks ps.made h));
}
