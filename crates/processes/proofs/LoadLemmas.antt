-- A further filter, and who gets it.
use Rattle.std.proofs.Common.{◌≡◌, ℕ, suc, ◌+◌, ◌<◌, ◌≤◌, Option, Some, None, Bool, true, false, cond, not, List, [], ◌∷◌, ◌++◌}
use Rattle.std.proofs.Common.{All, length, get_or, drop, set, refl, IsTrue, ap, ◌∙◌, arith, add-one}
use Rattle.std.specs.Prelude.{count_by, find, if◌then◌else◌, option_map}
use Rattle.std.proofs.lemmas.Bool.{le-ltb, lt-ltb, lt-leb}
use Rattle.processes.specs.declared.outcome.Outcome.TheVariants.{Failed}
use Rattle.processes.specs.declared.row.Loading.{Loading}
use Rattle.std.proofs.Math.Seq.{drop-cons}
use Rattle.std.proofs.lemmas.List.{drop-set-lt}
use Rattle.std.proofs.lemmas.List.Sums.{sum_by-cons}
use Rattle.std.proofs.lemmas.List.Elements.{All-cons, All-contains, All-nil, All-tail, Contains-push}
use Rattle.bpf_insn.specs.declared.instruction.Insn.{Insn}
use Rattle.processes.specs.Tasks.{Filter, Process, Processes, ascends}
use Rattle.processes.proofs.Changes.{either}
use Rattle.processes.proofs.Numbers.{Ascends, from_order, same_map, to_order}
use Rattle.processes.specs.declared.task.Task.{Task}
use Rattle.processes.specs.declared.tasks.Which.{Which}
use Rattle.processes.specs.declared.tasks.Which.TheVariants as which
use Rattle.processes.specs.Kernel.{conflict_answer, conflicts, first_conflict, is_oldest_part, load_program, load_size, takes}
use Rattle.processes.specs.Kernel.{unless_conflict, with_filter}
use Rattle.processes.specs.Stores.{loads_in, program_filter, size_beside}
use Rattle.processes.specs.Kept.{process_of}
use Rattle.processes.specs.inner.Table.{bare_of, given, is_taker}

pub conflicts_by : {H : Type 0} (seen : H → List Filter) (t u : Task H) → is_taker (which.Siblings t.group t.number) (bare_of u) ≡ true
    → not (is_oldest_part (loads_in (seen u.filters)) (loads_in (seen t.filters))) ≡ conflicts (process_of seen t) (process_of seen u)
conflicts_by {H} seen t u h = rw h refl

-- Handles that are given to the tasks that meet a test.

-- who gets one does not depend on what is seen of filters
pub taker_bare : {H : Type 0} (seen : H → List Filter) (w : Which) (t : Task H) → is_taker w (process_of seen t) ≡ is_taker w (bare_of t)
taker_bare {H} seen (which.One n) t = refl
taker_bare {H} seen (which.Group n) t = refl
taker_bare {H} seen (which.Siblings n m) t = refl
taker_bare {H} seen which.All t = refl

abbrev pub Test : Type 0
Test = Process → Bool

count_at : {H : Type 0} (test : Test) (xs : List (Task H)) (i : ℕ) (d : Task H) → i < length xs
    → count_by (λ t. test (bare_of t)) (drop i xs)
    ≡ cond (test (bare_of (get_or xs i d))) 1 0 + count_by (λ t. test (bare_of t)) (drop (suc i) xs)
count_at {H} test xs i d lt =
    ap (count_by (λ t. test (bare_of t))) (drop-cons xs i d lt)
    ∙ sum_by-cons (λ (t : Task H). cond (test (bare_of t)) 1 0) (get_or xs i d) (drop (suc i) xs)

pub count_here : {H : Type 0} (test : Test) (xs : List (Task H)) (i : ℕ) (d : Task H) (n : ℕ)
    → i < length xs → test (bare_of (get_or xs i d)) ≡ true
    → n ≡ count_by (λ t. test (bare_of t)) (drop i xs) → 0 < n
count_here {H} test xs i d n lt h e =
    let parts : count_by (λ t. test (bare_of t)) (drop i xs)
    ≡ 1 + count_by (λ t. test (bare_of t)) (drop (suc i) xs) = rw h at (count_at test xs i d lt) in
    omega arith

past : {H : Type 0} (test : Test) (xs : List (Task H)) (i : ℕ) (y : Task H)
    → count_by (λ t. test (bare_of t)) (drop (suc i) (set xs i y)) ≡ count_by (λ t. test (bare_of t)) (drop (suc i) xs)
past {H} test xs i y = ap (count_by (λ t. test (bare_of t))) (drop-set-lt (suc i) xs i y (omega arith))

pub left_taken : {H : Type 0} (test : Test) (xs : List (Task H)) (i : ℕ) (y d : Task H) (n m : ℕ)
    → i < length xs → test (bare_of (get_or xs i d)) ≡ true
    → n ≡ count_by (λ t. test (bare_of t)) (drop i xs) → n ≡ m + 1 → m ≡ count_by (λ t. test (bare_of t)) (drop (i + 1) (set xs i y))
left_taken {H} test xs i y d n m lt h e f =
    let parts : count_by (λ t. test (bare_of t)) (drop i xs)
    ≡ 1 + count_by (λ t. test (bare_of t)) (drop (suc i) xs) = rw h at (count_at test xs i d lt) in
    let same = past test xs i y in
    rw add-one (omega arith)

pub left_other : {H : Type 0} (test : Test) (xs : List (Task H)) (i : ℕ) (y d : Task H) (n : ℕ)
    → i < length xs → test (bare_of (get_or xs i d)) ≡ false
    → n ≡ count_by (λ t. test (bare_of t)) (drop i xs) → n ≡ count_by (λ t. test (bare_of t)) (drop (i + 1) (set xs i y))
left_other {H} test xs i y d n lt h e =
    let parts : count_by (λ t. test (bare_of t)) (drop i xs)
    ≡ 0 + count_by (λ t. test (bare_of t)) (drop (suc i) xs) = rw h at (count_at test xs i d lt) in
    let same = past test xs i y in
    rw add-one (omega arith)

pub front : {X : Type 0} (P : X → Type 0) (xs : List X) (y : X) → All P (xs ++ y ∷ []) → All P xs
front P [] y h = All-nil P
front P (x ∷ xs) y h = All-cons P x xs (h 0 x (omega arith)) (front P xs y (All-tail P x (xs ++ y ∷ []) h))

pub last : {X : Type 0} (P : X → Type 0) (xs : List X) (y : X) → All P (xs ++ y ∷ []) → P y
last P xs y h = All-contains P (xs ++ y ∷ []) y h (Contains-push xs y)

-- The new list for whoever gets it.

given_same : (test more : Test) (l : Option ℕ) (fs : List Filter) (ts : List Process) → ((u : Process) → test u ≡ more u)
    → given test l fs ts ≡ given more l fs ts
given_same test more l fs [] h = refl
given_same test more l fs (t ∷ ts) h = rw (h t, given_same test more l fs ts h) refl

pub loaded_by : {H : Type 0} (seen : H
    → List Filter) (for_all : Bool) (program : List Insn) (t : Task H) (old new : List Process) (test : Test) (load : ℕ) (l : Option ℕ)
    → new ≡ given test l (program_filter load program ∷ seen t.filters) old → ((u : Process) → test u ≡ takes for_all (process_of seen t) u)
    → new ≡ given (takes for_all (process_of seen t)) l (program_filter load program ∷ seen t.filters) old
loaded_by {H} seen for_all program t old new test load l after same =
    after ∙ given_same test (takes for_all (process_of seen t)) l (program_filter load program ∷ seen t.filters) old same

given_ordered : (test : Test) (l : Option ℕ) (fs : List Filter) (low top : ℕ) (ts : List Process) → Ascends low ts top
    → Ascends low (given test l fs ts) top
given_ordered test l fs low top ts p =
    same_map (λ u. if test u then record u { filters = fs; listener = l } else u) (λ u. either (λ (v : Process). v.number
    ≡ u.number) (test u) (record u { filters = fs; listener = l }) u refl refl) low top ts p

pub given_kept : (test : Test) (l : Option ℕ) (fs : List Filter) (old new : List Process) (top : ℕ) → new ≡ given test l fs old
    → IsTrue (ascends 0 old top) → IsTrue (ascends 0 new top)
given_kept test l fs old new top same h =
    rw same (from_order 0 (given test l fs old) top (given_ordered test l fs 0 top old (to_order 0 old top h)))

-- What a load of a program leads to, by its cases.

pub load_big : (how : Loading) (program : List Insn) (t : Process) (ps : Processes) → 32768 < length program + size_beside t.filters
    → load_program how t program ps ≡ (Failed 12, ps)
load_big how program t ps h =
    let big : 32768 < load_size program t = h in
    rw (lt-ltb 32768 (load_size program t) big) refl

pub load_fits : (how : Loading) (program : List Insn) (t : Process) (ps : Processes)
    → length program + size_beside t.filters ≤ 32768 → ps.loads < 4294967295
    → load_program how t program ps ≡ unless_conflict how (first_conflict how.for_all t ps) ps (with_filter how program t ps)
load_fits how program t ps h less =
    let small : load_size program t ≤ 32768 = h in
    rw (le-ltb 32768 (load_size program t) small, lt-leb 4294967295 ps.loads less) refl

pub load_conflict : (how : Loading) (program : List Insn) (t : Process) (ps : Processes) (n : ℕ)
    → length program + size_beside t.filters ≤ 32768 → ps.loads < 4294967295 → how.for_all ≡ true
    → option_map (λ u. u.number) (find (conflicts t) ps.tasks) ≡ Some n → load_program how t program ps ≡ (conflict_answer how n, ps)
load_conflict how program t ps n h less all e =
    load_fits how program t ps h less
    ∙ (ap (λ b. unless_conflict how (first_conflict b t ps) ps (with_filter how program t ps)) all ∙ by (find (conflicts t) ps.tasks) e)
  where
    by : (o : Option Process) → option_map (λ u. u.number) o ≡ Some n
        → unless_conflict how o ps (with_filter how program t ps) ≡ (conflict_answer how n, ps)
    by None f = absurd (cc)
    by (Some u) f = let same : u.number ≡ n = cc in ap (λ m. (conflict_answer how m, ps)) same

pub load_group : (how : Loading) (program : List Insn) (t : Process) (ps : Processes)
    → length program + size_beside t.filters ≤ 32768 → ps.loads < 4294967295 → how.for_all ≡ true
    → option_map (λ u. u.number) (find (conflicts t) ps.tasks) ≡ None → load_program how t program ps ≡ with_filter how program t ps
load_group how program t ps h less all e =
    load_fits how program t ps h less
    ∙ (ap (λ b. unless_conflict how (first_conflict b t ps) ps (with_filter how program t ps)) all ∙ by (find (conflicts t) ps.tasks) e)
  where
    by : (o : Option Process) → option_map (λ u. u.number) o ≡ None
        → unless_conflict how o ps (with_filter how program t ps) ≡ with_filter how program t ps
    by None f = refl
    by (Some u) f = absurd (cc)

pub load_own : (how : Loading) (program : List Insn) (t : Process) (ps : Processes)
    → length program + size_beside t.filters ≤ 32768 → ps.loads < 4294967295 → how.for_all ≡ false
    → load_program how t program ps ≡ with_filter how program t ps
load_own how program t ps h less alone =
    load_fits how program t ps h less
    ∙ ap (λ b. unless_conflict how (first_conflict b t ps) ps (with_filter how program t ps)) alone

-- what a test by `!` tells
pub is_not : (b : Bool) → not b ≡ true → b ≡ false
is_not true h = absurd (cc)
is_not false h = refl

pub is_so : (b : Bool) → not b ≡ false → b ≡ true
is_so true h = refl
is_so false h = absurd (cc)
