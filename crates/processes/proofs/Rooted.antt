-- Every task has a filter, whatever tasks do, so what is seen of a handle stays while a store gains filters.
use Rattle.std.proofs.Common.{◌≡◌, ℕ, zero, suc, Bool, true, if◌then◌else◌, List, [], ◌∷◌, ◌++◌, Option, Some, refl, ap, subst, IsTrue}
use Rattle.std.specs.Prelude.{slice_get}
use Rattle.std.proofs.lemmas.Bool.{and_parts}
use Rattle.processes.specs.declared.outcome.End.{End}
use Rattle.processes.specs.declared.task.Task.{Task}
use Rattle.processes.specs.Kernel.{executed}
use Rattle.processes.specs.Laws.{Each}
use Rattle.processes.specs.Tasks.{Filter, Process, end_where}
use Rattle.processes.specs.Kept.{all_of, process_of}
use Rattle.processes.specs.Stores.{has_filter, is_rooted}
use Rattle.processes.specs.inner.Table.{given}
use Rattle.processes.proofs.Changes.{either}
use Rattle.processes.proofs.Laws.{each_map, each_push, end_each, image_each}

abbrev pub Rooted : Process → Type 0
Rooted t = has_filter t.filters ≡ true

to_each : (ts : List Process) → IsTrue (is_rooted ts) → Each Rooted ts
to_each [] h = tt
to_each (t ∷ ts) h = let parts = and_parts (has_filter t.filters) (is_rooted ts) h in (parts.0, to_each ts parts.1)

from_each : (ts : List Process) → Each Rooted ts → IsTrue (is_rooted ts)
from_each [] p = refl
from_each (t ∷ ts) p = rw p.0 (from_each ts p.1)

pub where_rooted : (test : Process → Bool) (e : End) (old new : List Process) → new ≡ end_where test e old
    → IsTrue (is_rooted old) → IsTrue (is_rooted new)
where_rooted test e old new same h = rw same (from_each (end_where test e old) (end_each Rooted (λ e u p. p) test e old (to_each old h)))

pub next_rooted : (old new : List Process) (u : Process) → new ≡ old ++ u ∷ [] → has_filter u.filters ≡ true
    → IsTrue (is_rooted old) → IsTrue (is_rooted new)
next_rooted old new u same own h = rw same (from_each (old ++ u ∷ []) (each_push Rooted old u (to_each old h) own))

pub image_rooted : (t : Process) (old new : List Process) → new ≡ executed t old → has_filter t.filters ≡ true
    → IsTrue (is_rooted old) → IsTrue (is_rooted new)
image_rooted t old new same own h = rw same (from_each (executed t old) (image_each Rooted (λ e u p. p) t own old (to_each old h)))

pub given_rooted : (test : Process → Bool) (l : Option ℕ) (fs : List Filter) (old new : List Process) → new ≡ given test l fs old
    → has_filter fs ≡ true
    → IsTrue (is_rooted old) → IsTrue (is_rooted new)
given_rooted test l fs old new same own h =
    rw same (from_each (given test l fs old)
    (each_map Rooted Rooted (λ u. if test u then record u { filters = fs; listener = l } else u)
    (λ u p. either Rooted (test u) (record u { filters = fs; listener = l }) u own p) old (to_each old h)))

-- the task at a place has a filter
pub rooted_at : {H : Type 0} (seen : H → List Filter) (tasks : List (Task H)) (at : ℕ) (t : Task H) → slice_get tasks at ≡ Some t
    → IsTrue (is_rooted (all_of seen tasks)) → has_filter (seen t.filters) ≡ true
rooted_at {H} seen [] at t e h = absurd (cc)
rooted_at {H} seen (u ∷ tasks) zero t e h =
    let same : u ≡ t = cc in
    let parts = and_parts (has_filter (seen u.filters)) (is_rooted (all_of seen tasks)) h in
    subst (λ (v : Task H). has_filter (seen v.filters) ≡ true) same parts.0
rooted_at {H} seen (u ∷ tasks) (suc at) t e h =
    let parts = and_parts (has_filter (seen u.filters)) (is_rooted (all_of seen tasks)) h in
    rooted_at seen tasks at t e parts.1

-- a store that keeps what each handle with a filter stands for keeps all tasks
pub seen_same : {H : Type 0} (seen later : H → List Filter) (tasks : List (Task H))
    → ((h : H) → has_filter (seen h) ≡ true → later h ≡ seen h)
    → IsTrue (is_rooted (all_of seen tasks)) → all_of later tasks ≡ all_of seen tasks
seen_same {H} seen later [] keeps h = refl
seen_same {H} seen later (t ∷ tasks) keeps h =
    let parts = and_parts (has_filter (seen t.filters)) (is_rooted (all_of seen tasks)) h in
    let first : process_of later t
    ≡ process_of seen t = ap (λ (fs : List Filter). record (process_of seen t) { filters = fs }) (keeps t.filters parts.0) in
    let rest : all_of later tasks ≡ all_of seen tasks = seen_same seen later tasks keeps parts.1 in
    cc (first, rest)
