-- execve's changes to a list of tasks in the order of their numbers.
use Rattle.std.proofs.Common.{◌≡◌, inl, inr, ℕ, zero, suc, ◌==◌, ◌&&◌, ◌||◌, ◌<◌, Bool, true, false, not, List, [], ◌∷◌, Option}
use Rattle.std.proofs.Common.{Some, None, if◌then◌else◌, refl, sym, ◌∙◌, ap, map, length, set, arith, subst, IsTrue}
use Rattle.std.specs.Prelude.{filter, find, nat_lt, option_map, remove, slice_get}
use Rattle.std.proofs.lemmas.Bool.{eq-eqb, eqb-true}
use Rattle.std.proofs.lemmas.List.{map-set}
use Rattle.std.proofs.lemmas.Option.{slice_get-map, slice_get_cases}
use Rattle.processes.specs.declared.outcome.End.{End}
use Rattle.processes.specs.declared.outcome.End.TheVariants as end
use Rattle.processes.specs.declared.task.Task.{Task}
use Rattle.processes.specs.Kernel.{executed, is_sibling, renewed, take_over}
use Rattle.processes.specs.Tasks.{Filter, Process, ascends, end_where, is_task}
use Rattle.processes.specs.Kept.{all_of, process_of}
use Rattle.processes.specs.inner.Table.{bare_of}
use Rattle.processes.specs.Laws.{Each}
use Rattle.processes.proofs.Numbers.{Ascends, above, fewer, from_order, image_ordered, to_order}

not_task : (n : ℕ) (u : Process) → (u.number ≡ n → ⊥) → is_task n u ≡ false
not_task n u ne = by (u.number == n) refl
  where
    by : (b : Bool) → (u.number == n) ≡ b → is_task n u ≡ false
    by true e = absurd (ne (eqb-true u.number n e))
    by false e = e

each_at : (P : Process → Type 0) (ts : List Process) (i : ℕ) (u : Process) → Each P ts → slice_get ts i ≡ Some u → P u
each_at P [] i u p e = absurd (cc)
each_at P (t ∷ ts) zero u p e = let same : t ≡ u = cc in subst P same p.0
each_at P (t ∷ ts) (suc i) u p e = each_at P ts i u p.1 e

-- one entry has the number, and is replaced
map_above : (n : ℕ) (r : Process) (ts : List Process) → Each (λ u. n < u.number) ts → map (λ u. if is_task n u then r else u) ts ≡ ts
map_above n r [] p = refl
map_above n r (t ∷ ts) p =
    let lt : n < t.number = p.0 in
    let e : is_task n t ≡ false = not_task n t (λ q. omega arith) in
    rw (e, map_above n r ts p.1) refl

map_one : (n : ℕ) (r : Process) (low top : ℕ) (ts : List Process) (i : ℕ) (u : Process)
    → Ascends low ts top → slice_get ts i ≡ Some u → u.number ≡ n
    → map (λ v. if is_task n v then r else v) ts ≡ set ts i r
map_one n r low top [] i u p e h = absurd (cc)
map_one n r low top (t ∷ ts) zero u p e h =
    let same : t ≡ u = cc in
    let own : t.number ≡ n = ap (λ (v : Process). v.number) same ∙ h in
    let higher : Each (λ v. n < v.number) ts = subst (λ m. Each (λ v. m < v.number) ts) own (above t.number top ts p.1) in
    rw (eq-eqb t.number n own, map_above n r ts higher) refl
map_one n r low top (t ∷ ts) (suc i) u p e h =
    let lt : t.number < u.number = each_at (λ v. t.number < v.number) ts i u (above t.number top ts p.1) e in
    let other : is_task n t ≡ false = not_task n t (λ q. omega arith) in
    rw other (ap (λ vs. t ∷ vs) (map_one n r t.number top ts i u p.1 e h))

-- the entries that stay: that of the group's number, and all but the caller's
abbrev pub stays : ℕ → ℕ → Process → Bool
stays g n u = is_task g u || not (is_task n u)

stays_with : (g n : ℕ) (u : Process) → is_task n u ≡ false → stays g n u ≡ true
stays_with g n u e = by (is_task g u) refl
  where
    by : (b : Bool) → is_task g u ≡ b → (b || not (is_task n u)) ≡ true
    by true h = refl
    by false h = rw e refl

goes : (g n : ℕ) (u : Process) → is_task n u ≡ true → is_task g u ≡ false → stays g n u ≡ false
goes g n u a b = rw (b, a) refl

stays_leader : (n : ℕ) (u : Process) → stays n n u ≡ true
stays_leader n u = by (is_task n u)
  where
    by : (b : Bool) → (b || not b) ≡ true
    by true = refl
    by false = refl

filter_all : (test : Process → Bool) (ts : List Process) → ((u : Process) → test u ≡ true) → filter test ts ≡ ts
filter_all test [] h = refl
filter_all test (t ∷ ts) h = rw (h t, filter_all test ts h) refl

filter_above : (g n : ℕ) (ts : List Process) → Each (λ u. n < u.number) ts → filter (stays g n) ts ≡ ts
filter_above g n [] p = refl
filter_above g n (t ∷ ts) p =
    let lt : n < t.number = p.0 in
    let e : stays g n t ≡ true = stays_with g n t (not_task n t (λ q. omega arith)) in
    rw (e, filter_above g n ts p.1) refl

filter_one : (g n : ℕ) (low top : ℕ) (ts : List Process) (i : ℕ) (u : Process) → (n ≡ g → ⊥)
    → Ascends low ts top → slice_get ts i ≡ Some u → u.number ≡ n
    → filter (stays g n) ts ≡ remove ts i
filter_one g n low top [] i u ne p e h = absurd (cc)
filter_one g n low top (t ∷ ts) zero u ne p e h =
    let same : t ≡ u = cc in
    let own : t.number ≡ n = ap (λ (v : Process). v.number) same ∙ h in
    let higher : Each (λ v. n < v.number) ts = subst (λ m. Each (λ v. m < v.number) ts) own (above t.number top ts p.1) in
    let out : stays g n t ≡ false = goes g n t (eq-eqb t.number n own) (not_task g t (λ q. ne (sym own ∙ q))) in
    rw out (filter_above g n ts higher)
filter_one g n low top (t ∷ ts) (suc i) u ne p e h =
    let lt : t.number < u.number = each_at (λ v. t.number < v.number) ts i u (above t.number top ts p.1) e in
    let in_place : stays g n t ≡ true = stays_with g n t (not_task n t (λ q. omega arith)) in
    rw in_place (ap (λ vs. t ∷ vs) (filter_one g n t.number top ts i u ne p.1 e h))

leader : (t : Process) (low top : ℕ) (ts : List Process) (i : ℕ) → Ascends low ts top → slice_get ts i ≡ Some t
    → t.number ≡ t.group → take_over t ts ≡ set ts i (renewed t)
leader t low top ts i p e h =
    let all : (u : Process) → stays t.group t.number u ≡ true = λ u. subst (λ m. stays t.group m u
    ≡ true) (sym h) (stays_leader t.group u) in
    ap (map (λ u. if is_task t.group u then renewed t else u)) (filter_all (stays t.group t.number) ts all)
    ∙ map_one t.group (renewed t) low top ts i t p e h

mover : (t : Process) (low top : ℕ) (ts : List Process) (i : ℕ) → Ascends low ts top → slice_get ts i ≡ Some t → (t.number ≡ t.group → ⊥)
    → take_over t ts ≡ map (λ u. if is_task t.group u then renewed t else u) (remove ts i)
mover t low top ts i p e ne = ap (map (λ u. if is_task t.group u then renewed t else u)) (filter_one t.group t.number low top ts i t ne p e refl)

without : (t : Process) (low top : ℕ) (ts : List Process) (i : ℕ) → Ascends low ts top → slice_get ts i ≡ Some t
    → (t.number ≡ t.group → ⊥) → Ascends low (remove ts i) top
without t low top ts i p e ne =
    subst (λ us. Ascends low us top) (filter_one t.group t.number low top ts i t ne p e refl) (fewer (stays t.group t.number) low top ts p)

map_absent : (n : ℕ) (r : Process) (ts : List Process) → find (is_task n) ts ≡ None → map (λ u. if is_task n u then r else u) ts ≡ ts
map_absent n r [] e = refl
map_absent n r (t ∷ ts) e = by (is_task n t) (map_absent n r ts) e
  where
    by : (b : Bool) → (find (is_task n) ts ≡ None → map (λ u. if is_task n u then r else u) ts ≡ ts)
        → (if b then Some t else find (is_task n) ts) ≡ None → (if b then r else t) ∷ map (λ u. if is_task n u then r else u) ts ≡ t ∷ ts
    by true rest g = absurd (cc)
    by false rest g = ap (λ us. t ∷ us) (rest g)

found_passes : (test : Process → Bool) (ts : List Process) (u : Process) → find test ts ≡ Some u → test u ≡ true
found_passes test [] u e = absurd (cc)
found_passes test (t ∷ ts) u e = by (test t) refl (found_passes test ts u) e
  where
    by : (b : Bool) → test t ≡ b → (find test ts ≡ Some u → test u ≡ true) → (if b then Some t else find test ts) ≡ Some u → test u ≡ true
    by true h rest g = let same : t ≡ u = cc in subst (λ (v : Process). test v ≡ true) same h
    by false h rest g = rest g

-- The same of the tasks that the code keeps.

-- their order is that of their numbers, whatever is seen of their filters
pub bare_order : {H : Type 0} (seen : H → List Filter) (low : ℕ) (tasks : List (Task H)) (top : ℕ)
    → ascends low (map bare_of tasks) top ≡ ascends low (all_of seen tasks) top
bare_order {H} seen low [] top = refl
bare_order {H} seen low (t ∷ tasks) top = ap (λ b. nat_lt low t.number && b) (bare_order seen t.number tasks top)

seen_at : {H : Type 0} (seen : H → List Filter) (tasks : List (Task H)) (at : ℕ) (t : Task H) → slice_get tasks at ≡ Some t
    → slice_get (all_of seen tasks) at ≡ Some (process_of seen t)
seen_at {H} seen tasks at t e = slice_get-map (process_of seen) tasks at ∙ ap (option_map (process_of seen)) e

all_of-remove : {H : Type 0} (seen : H → List Filter) (tasks : List (Task H)) (at : ℕ)
    → all_of seen (remove tasks at) ≡ remove (all_of seen tasks) at
all_of-remove {H} seen [] zero = refl
all_of-remove {H} seen [] (suc at) = refl
all_of-remove {H} seen (t ∷ tasks) zero = refl
all_of-remove {H} seen (t ∷ tasks) (suc at) = ap (λ us. process_of seen t ∷ us) (all_of-remove seen tasks at)

pub leader_over : {H : Type 0} (seen : H → List Filter) (tasks : List (Task H)) (at top : ℕ) (t x : Task H)
    → IsTrue (ascends 0 (all_of seen tasks) top) → slice_get tasks at ≡ Some t → t.number ≡ t.group
    → process_of seen x ≡ renewed (process_of seen t) → all_of seen (set tasks at x) ≡ take_over (process_of seen t) (all_of seen tasks)
leader_over {H} seen tasks at top t x order e h new =
    map-set (process_of seen) tasks at x ∙ (ap (λ u. set (all_of seen tasks) at u) new
    ∙ sym (leader (process_of seen t) 0 top (all_of seen tasks) at (to_order 0 (all_of seen tasks) top order) (seen_at seen tasks at t e) h))

moved : {H : Type 0} (seen : H → List Filter) (tasks rest : List (Task H)) (at top : ℕ) (t : Task H)
    → IsTrue (ascends 0 (all_of seen tasks) top) → slice_get tasks at ≡ Some t → (t.number ≡ t.group → ⊥) → rest ≡ remove tasks at
    → take_over (process_of seen t) (all_of seen tasks)
    ≡ map (λ u. if is_task t.group u then renewed (process_of seen t) else u) (all_of seen rest)
moved {H} seen tasks rest at top t order e ne same =
    mover (process_of seen t) 0 top (all_of seen tasks) at (to_order 0 (all_of seen tasks) top order) (seen_at seen tasks at t e) ne
    ∙ ap (map (λ u. if is_task t.group u then renewed (process_of seen t) else u)) (sym (ap (all_of seen) same
    ∙ all_of-remove seen tasks at))

pub mover_nowhere : {H : Type 0} (seen : H → List Filter) (tasks rest : List (Task H)) (at top : ℕ) (t : Task H)
    → IsTrue (ascends 0 (all_of seen tasks) top) → slice_get tasks at ≡ Some t → (t.number ≡ t.group → ⊥) → rest ≡ remove tasks at
    → find (is_task t.group) (all_of seen rest) ≡ None → all_of seen rest ≡ take_over (process_of seen t) (all_of seen tasks)
mover_nowhere {H} seen tasks rest at top t order e ne same none =
    sym (moved seen tasks rest at top t order e ne same ∙ map_absent t.group (renewed (process_of seen t)) (all_of seen rest) none)

pub mover_over : {H : Type 0} (seen : H → List Filter) (tasks rest : List (Task H)) (at place top : ℕ) (t x : Task H)
    → IsTrue (ascends 0 (all_of seen tasks) top) → slice_get tasks at ≡ Some t → (t.number ≡ t.group → ⊥) → rest ≡ remove tasks at
    → find (is_task t.group) (all_of seen rest) ≡ option_map (process_of seen) (slice_get rest place) → place < length rest
    → process_of seen x ≡ renewed (process_of seen t) → all_of seen (set rest place x) ≡ take_over (process_of seen t) (all_of seen tasks)
mover_over {H} seen tasks rest at place top t x order e ne same found within new = by (slice_get rest place) refl
  where
    placed : (v : Task H) → slice_get rest place ≡ Some v → all_of seen (set rest place x)
        ≡ take_over (process_of seen t) (all_of seen tasks)
    placed v h =
        let is : find (is_task t.group) (all_of seen rest) ≡ Some (process_of seen v) = found ∙ ap (option_map (process_of seen)) h in
        let own : v.number ≡ t.group = eqb-true v.number t.group (found_passes (is_task t.group) (all_of seen rest) (process_of seen v) is) in
        let order_left : Ascends 0 (all_of seen rest) top =
        subst (λ us. Ascends 0 us top) (sym (ap (all_of seen) same
        ∙ all_of-remove seen tasks at)) (without (process_of seen t) 0 top (all_of seen tasks) at (to_order 0 (all_of seen tasks) top order) (seen_at seen tasks at t e) ne) in
        map-set (process_of seen) rest place x ∙ (ap (λ u. set (all_of seen rest) place u) new
        ∙ sym (moved seen tasks rest at top t order e ne same
        ∙ map_one t.group (renewed (process_of seen t)) 0 top (all_of seen rest) place (process_of seen v) order_left (seen_at seen rest place v h) own))

    by : (o : Option (Task H)) → slice_get rest place ≡ o → all_of seen (set rest place x)
        ≡ take_over (process_of seen t) (all_of seen tasks)
    by (Some v) h = placed v h
    by None h = elim (slice_get_cases rest place).1 [
      | inl y ↦ placed y.0 y.2
      | inr past ↦ let le = past.0 in absurd (omega arith)
    ]

-- an end spares whom it does not mean
spared : (test : Process → Bool) (e : End) (ts : List Process) (i : ℕ) (u : Process) → slice_get ts i ≡ Some u
    → test u ≡ false → slice_get (end_where test e ts) i ≡ Some u
spared test e [] i u h f = absurd (cc)
spared test e (t ∷ ts) zero u h f = let same : t ≡ u = cc in
    let g : test t ≡ false = subst (λ (v : Process). test v ≡ false) (sym same) f in rw g (ap Some same)
spared test e (t ∷ ts) (suc i) u h f = spared test e ts i u h f

no_sibling : (t : Process) → is_sibling t t ≡ false
no_sibling t = rw (eq-eqb t.number t.number refl, eq-eqb t.group t.group refl) refl

pub execute_over : {H : Type 0} (seen : H → List Filter) (old middle new : List (Task H)) (at : ℕ) (t : Task H) → slice_get old at ≡ Some t
    → all_of seen middle ≡ end_where (is_sibling (process_of seen t)) (end.Signal 9) (all_of seen old)
    → ((u : Task H) → slice_get middle at ≡ Some u → all_of seen new ≡ take_over (process_of seen u) (all_of seen middle))
    → all_of seen new ≡ executed (process_of seen t) (all_of seen old)
execute_over {H} seen old middle new at t e ended taken = by (slice_get middle at) refl
  where
    there : slice_get (all_of seen middle) at ≡ Some (process_of seen t)
    there = ap (λ us. slice_get us at) ended
        ∙ spared (is_sibling (process_of seen t)) (end.Signal 9) (all_of seen old) at (process_of seen t) (seen_at seen old at t e) (no_sibling (process_of seen t))

    by : (o : Option (Task H)) → slice_get middle at ≡ o → all_of seen new ≡ executed (process_of seen t) (all_of seen old)
    by None h =
        let none : slice_get (all_of seen middle) at ≡ None = slice_get-map (process_of seen) middle at
        ∙ ap (option_map (process_of seen)) h in
        let bad : Some (process_of seen t) ≡ None = sym there ∙ none in absurd (cc)
    by (Some u) h =
        let found : Some (process_of seen u) ≡ Some (process_of seen t) = sym (seen_at seen middle at u h) ∙ there in
        let same : process_of seen u ≡ process_of seen t = cc in
        taken u h ∙ (ap (λ v. take_over v (all_of seen middle)) same ∙ ap (take_over (process_of seen t)) ended)

pub image_kept : (t : Process) (old new : List Process) (top : ℕ) → new ≡ executed t old
    → IsTrue (ascends 0 old top) → IsTrue (ascends 0 new top)
image_kept t old new top same h = rw same (from_order 0 (executed t old) top (image_ordered t top old (to_order 0 old top h)))
