-- Each group is led by the task of its number, and no task outlives group 1.
use Rattle.std.proofs.Common.{◌≡◌, ℕ, ◌+◌, ◌==◌, ◌&&◌, ◌||◌, ◌<◌, Bool, true, false, not, List, [], ◌∷◌, ◌++◌, Option, Some, if◌then◌else◌}
use Rattle.std.proofs.Common.{refl, sym, ◌∙◌, map, arith, ap}
use Rattle.std.specs.Prelude.{IsTrue, filter, find}
use Rattle.std.specs.List.{list_any}
use Rattle.std.proofs.lemmas.Bool.{and_parts, eqb-true, eq-eqb, ne_eqb}
use Rattle.call_record.specs.declared.layout.Record.{Record}
use Rattle.processes.specs.Attached.{Beside}
use Rattle.processes.specs.declared.outcome.End.{End}
use Rattle.processes.specs.declared.outcome.End.TheVariants as end
use Rattle.processes.specs.Tasks.{Filter, Process, Processes, ascends, end_by, end_where, is_in_group, is_live, is_task}
use Rattle.processes.specs.Tasks.{live_task, lives, with_tasks}
use Rattle.processes.specs.Kernel.{cloned, executed, forked, is_sibling, loaded, presented, renewed, takes, with_next}
use Rattle.processes.specs.Laws.{Each, GroupsAreLed, GroupsStayLed, HasEnded, NoneOutlives, NoneOutlivesGroup1, is_led}
use Rattle.processes.proofs.Changes.{Survives, SurvivesStops, either, event_keeps, signal_keeps, stops_too}
use Rattle.processes.proofs.Laws.{each_filter, each_map, each_push, end_each, found, stops_all}
use Rattle.processes.proofs.Numbers.{Ascends, InOrder, above, to_order}
use Rattle.processes.proofs.KeptLaws.{each_any, each_both, each_to, meets, test_of}

-- ---- some task of a list

or_right : (a b : Bool) → b ≡ true → (a || b) ≡ true
or_right true b h = refl
or_right false b h = h

-- a list of which some task meets a test has one, changed, that meets another
any_map : (R : Process → Type 0) (test more : Process → Bool) (f : Process → Process)
    → ((u : Process) → R u → test u ≡ true → more (f u) ≡ true)
    → (ts : List Process) → Each R ts → list_any test ts ≡ true → list_any more (map f ts) ≡ true
any_map R test more f h [] p e = absurd (cc)
any_map R test more f h (t ∷ ts) p e = by (test t) refl (any_map R test more f h ts p.1) e
  where
    by : (b : Bool) → test t ≡ b → (list_any test ts ≡ true → list_any more (map f ts) ≡ true) → (b || list_any test ts) ≡ true
        → (more (f t) || list_any more (map f ts)) ≡ true
    by true is rest g = rw (h t p.0 is) refl
    by false is rest g = or_right (more (f t)) (list_any more (map f ts)) (rest g)

any_filter : (R : Process → Type 0) (test keep : Process → Bool) → ((u : Process) → R u → test u ≡ true → keep u ≡ true)
    → (ts : List Process) → Each R ts → list_any test ts ≡ true → list_any test (filter keep ts) ≡ true
any_filter R test keep h [] p e = absurd (cc)
any_filter R test keep h (t ∷ ts) p e = by (test t) refl (any_filter R test keep h ts p.1) e
  where
    kept : (b : Bool) → list_any test (filter keep ts) ≡ true → list_any test (if b then t ∷ filter keep ts else filter keep ts) ≡ true
    kept true g = or_right (test t) (list_any test (filter keep ts)) g
    kept false g = g

    by : (b : Bool) → test t ≡ b → (list_any test ts ≡ true → list_any test (filter keep ts) ≡ true) → (b || list_any test ts) ≡ true
        → list_any test (if keep t then t ∷ filter keep ts else filter keep ts) ≡ true
    by true is rest g = rw (h t p.0 is, is) refl
    by false is rest g = kept (keep t) (rest g)

any_push : (test : Process → Bool) (ts : List Process) (u : Process) → list_any test ts ≡ true → list_any test (ts ++ u ∷ []) ≡ true
any_push test [] u e = absurd (cc)
any_push test (t ∷ ts) u e = by (test t) refl (any_push test ts u) e
  where
    by : (b : Bool) → test t ≡ b → (list_any test ts ≡ true → list_any test (ts ++ u ∷ []) ≡ true) → (b || list_any test ts) ≡ true
        → (test t || list_any test (ts ++ u ∷ [])) ≡ true
    by true is rest g = rw is refl
    by false is rest g = or_right (test t) (list_any test (ts ++ u ∷ [])) (rest g)

any_last : (test : Process → Bool) (ts : List Process) (u : Process) → test u ≡ true → list_any test (ts ++ u ∷ []) ≡ true
any_last test [] u e = rw e refl
any_last test (t ∷ ts) u e = or_right (test t) (list_any test (ts ++ u ∷ [])) (any_last test ts u e)

-- who has the number of a task is that task
abbrev pub Same : Process → Process → Type 0
Same t u = u.number ≡ t.number → u ≡ t

same_by : (test : Process → Bool) (x t : Process) (ts : List Process) (b : Bool) → test x ≡ b → Each (λ u. x.number < u.number) ts
    → (find test ts ≡ Some t → Each (Same t) ts) → find test (x ∷ ts) ≡ Some t → Each (Same t) (x ∷ ts)
same_by test x t ts true h over rest e =
    let is : Some x ≡ Some t = rw h at e in
    let same : x ≡ t = cc in
    let number : x.number ≡ t.number = ap (λ (u : Process). u.number) same in
    (λ n. same, each_to (λ u. x.number < u.number) (Same t) (λ u less n. absurd (omega arith)) ts over)
same_by test x t ts false h over rest e =
    let later : find test ts ≡ Some t = rw h at e in
    let above : x.number < t.number = found (λ u. x.number < u.number) test ts over t later in
    (λ n. absurd (omega arith), rest later)

only_number : (test : Process → Bool) (low top : ℕ) (t : Process) (ts : List Process)
    → Ascends low ts top → find test ts ≡ Some t → Each (Same t) ts
only_number test low top t [] p e = tt
only_number test low top t (x
    ∷ ts) p e = same_by test x t ts (test x) refl (above x.number top ts p.1) (only_number test x.number top t ts p.1) e

-- who leads a group
abbrev pub leads : ℕ → Process → Bool
leads g u = is_task g u && is_in_group g u

-- where it is led, who has its number is of it
abbrev pub Leader : ℕ → Process → Type 0
Leader g u = u.number ≡ g → u.group ≡ g

no_other : (g : ℕ) (n : ℕ) (ts : List Process) → Each (λ u. n < u.number) ts → list_any (leads g) ts ≡ true → n < g
no_other g n [] p e = absurd (cc)
no_other g n (t ∷ ts) p e = by (leads g t) refl (no_other g n ts p.1) e
  where
    by : (b : Bool) → leads g t ≡ b → (list_any (leads g) ts ≡ true → n < g) → (b || list_any (leads g) ts) ≡ true → n < g
    by true is rest h = let number : t.number ≡ g = eqb-true t.number g (and_parts (t.number == g) (t.group == g) is).0 in
        let less : n < t.number = p.0 in omega arith
    by false is rest h = rest h

leader_only : (g low top : ℕ) (ts : List Process) → Ascends low ts top → list_any (leads g) ts ≡ true → Each (Leader g) ts
leader_only g low top [] p e = tt
leader_only g low top (t ∷ ts) p e = by (leads g t) refl (leader_only g t.number top ts p.1) e
  where
    over : Each (λ u. t.number < u.number) ts
    over = above t.number top ts p.1

    by : (b : Bool) → leads g t ≡ b → (list_any (leads g) ts ≡ true → Each (Leader g) ts)
        → (b || list_any (leads g) ts) ≡ true → Each (Leader g) (t ∷ ts)
    by true is rest h =
        let parts = and_parts (t.number == g) (t.group == g) is in
        let number : t.number ≡ g = eqb-true t.number g parts.0 in
        (λ n. eqb-true t.group g parts.1, each_to (λ u. t.number < u.number) (Leader g) (λ u less n. absurd (omega arith)) ts over)
    by false is rest h =
        let less : t.number < g = no_other g t.number ts over h in
        (λ n. absurd (omega arith), rest h)

-- ---- groups stay led

-- a change that leaves each task's number and group leaves groups led
abbrev pub Alike : (Process → Process) → Type 0
Alike f = (u : Process) → ((f u).number ≡ u.number) × ((f u).group ≡ u.group)

led_map : (f : Process → Process) → Alike f → (ts : List Process) → GroupsAreLed ts → GroupsAreLed (map f ts)
led_map f same ts p =
    each_map (λ t. is_led t.group ts ≡ true) (λ t. is_led t.group (map f ts) ≡ true) f
    (λ t led. rw (same t).1 (any_map (λ u. Unit {0}) (leads t.group) (leads t.group) f (λ u x h. rw (
      (same u).0,
      (same u).1,
    ) h) ts (each_any (λ u. Unit {0}) (λ u. tt) ts) led)) ts p

same_end : (e : End) (u : Process) → ((end_by e u).number ≡ u.number) × ((end_by e u).group ≡ u.group)
same_end e u = either (λ (v : Process). (v.number ≡ u.number)
    × (v.group ≡ u.group)) (is_live u) (record u { end = Some e }) u (refl, refl) (refl, refl)

ends_alike : (test : Process → Bool) (e : End) → Alike (λ u. if test u then end_by e u else u)
ends_alike test e u = either (λ (v : Process). (v.number ≡ u.number)
    × (v.group ≡ u.group)) (test u) (end_by e u) u (same_end e u) (refl, refl)

led_where : (test : Process → Bool) (e : End) (ts : List Process) → GroupsAreLed ts → GroupsAreLed (end_where test e ts)
led_where test e ts p = led_map (λ u. if test u then end_by e u else u) (ends_alike test e) ts p

abbrev pub Led : Processes → Type 0
Led ps = GroupsAreLed ps.tasks

ends_led : SurvivesStops Led
ends_led = stops_too Led (λ test e ps p. led_where test e ps.tasks p)

loaded_alike : (for_all : Bool) (t : Process) (filters : List Filter) (listener : Option ℕ)
    → Alike (λ u. if takes for_all t u then record u { filters = filters; listener = listener } else u)
loaded_alike for_all t filters listener u =
    either (λ (v : Process). (v.number ≡ u.number) × (v.group ≡ u.group)) (takes for_all t u) (record u { filters = filters; listener = listener }) u (
      refl,
      refl,
    ) (refl, refl)

-- a new task whose group is led, or which leads it itself
led_push : (ts : List Process) (u : Process) → list_any (leads u.group) (ts ++ u ∷ []) ≡ true
    → GroupsAreLed ts → GroupsAreLed (ts ++ u ∷ [])
led_push ts u own p =
    each_push (λ t. is_led t.group (ts ++ u ∷ []) ≡ true) ts u
    (each_to (λ t. is_led t.group ts ≡ true) (λ t. is_led t.group (ts ++ u ∷ [])
    ≡ true) (λ t led. any_push (leads t.group) ts u led) ts p) own

same_number : (a : ℕ) → (a == a) ≡ true
same_number a = eq-eqb a a refl

leads_itself : (t : Process) → t.number ≡ t.group → leads t.group t ≡ true
leads_itself t h = rw (eq-eqb t.number t.group h, same_number t.group) refl

-- ---- execve

-- who stays in the list
abbrev pub stays : Process → Process → Bool
stays t u = is_task t.group u || not (is_task t.number u)

abbrev pub placed : Process → Process → Process
placed t u = if is_task t.group u then renewed t else u

-- what is known of each task where task t presents an execve
abbrev pub Known : Process → Process → Type 0
Known t u = (u.number ≡ t.number → u.group ≡ t.group) × Leader t.group u

-- the number stays, and so does the group
placed_by : (t u : Process) (b : Bool) → is_task t.group u ≡ b → Leader t.group u
    → ((if b then renewed t else u).number ≡ u.number) × ((if b then renewed t else u).group ≡ u.group)
placed_by t u true h lead = let number : u.number ≡ t.group = eqb-true u.number t.group h in (sym number, sym (lead number))
placed_by t u false h lead = (refl, refl)

-- who leads a group stays
stays_by : (t u : Process) (g : ℕ) → Known t u → leads g u ≡ true → (a b : Bool) → is_task t.group u ≡ a
    → is_task t.number u ≡ b → (a || not b) ≡ true
stays_by t u g known h true b p q = refl
stays_by t u g known h false false p q = refl
stays_by t u g known h false true p q =
    let parts = and_parts (u.number == g) (u.group == g) h in
    let number : u.number ≡ g = eqb-true u.number g parts.0 in
    let group : u.group ≡ g = eqb-true u.group g parts.1 in
    let own : u.group ≡ t.group = known.0 (eqb-true u.number t.number q) in
    let there : is_task t.group u ≡ true = eq-eqb u.number t.group (number ∙ (sym group ∙ own)) in
    let bad : true ≡ false = sym there ∙ p in absurd (cc)

image_led : (t : Process) (ts : List Process) → Each (Known t) ts → GroupsAreLed ts → GroupsAreLed (map (placed t) (filter (stays t) ts))
image_led t ts known p =
    let left = filter (stays t) ts in
    let after = map (placed t) left in
    let there : (g : ℕ) → list_any (leads g) ts ≡ true → list_any (leads g) after ≡ true =
    λ g led. any_map (Known t) (leads g) (leads g) (placed t)
    (λ u k h. let same = placed_by t u (is_task t.group u) refl k.1 in
    rw (same.0, same.1) h) left (each_filter (Known t) (stays t) ts known)
    (any_filter (Known t) (leads g) (stays t) (λ u k h. stays_by t u g k h (is_task t.group u) (is_task t.number u) refl refl) ts known led) in
    each_map (λ u. Known t u × (is_led u.group ts ≡ true)) (λ u. is_led u.group after ≡ true) (placed t)
    (λ u k. let same = placed_by t u (is_task t.group u) refl k.0.1 in rw same.1 (there u.group k.1)) left
    (each_filter (λ u. Known t u × (is_led u.group ts ≡ true)) (stays t) ts (each_both (Known t) (λ u. is_led u.group ts
    ≡ true) ts known p))

-- ---- what a live task of a container can do

module _ (n : ℕ) (ps : Processes) (t : Process) (p : InOrder ps) (led : Led ps) (e : live_task n ps.tasks ≡ Some t) where
  own_led : is_led t.group ps.tasks ≡ true
  own_led = found (λ u. is_led u.group ps.tasks ≡ true) (test_of n) ps.tasks led t e

  known : Each (Known t) ps.tasks
  known =
      each_both (λ u. u.number ≡ t.number → u.group ≡ t.group) (Leader t.group) ps.tasks
      (each_to (Same t) (λ u. u.number ≡ t.number → u.group ≡ t.group) (λ u same is. ap (λ (v : Process). v.group) (same is)) ps.tasks
      (only_number (test_of n) 0 ps.made t ps.tasks p e))
      (leader_only t.group 0 ps.made ps.tasks p own_led)

  known_left : Each (Known t) (end_where (is_sibling t) (end.Signal 9) ps.tasks)
  known_left = end_each (Known t) (λ last u k. k) (is_sibling t) (end.Signal 9) ps.tasks known

  pub survive_led : (r : Record) (b : Beside) → Survives Led t r b ps
  survive_led r b = record {
    same = led;
    ends = ends_led;
    fork = led_push ps.tasks (forked t (ps.made + 1)) (any_last (leads (ps.made + 1)) ps.tasks (forked t (ps.made + 1)) (leads_itself (forked t (ps.made + 1)) refl)) led;
    thread = led_push ps.tasks (cloned t (ps.made + 1)) (any_push (leads t.group) ps.tasks (cloned t (ps.made + 1)) own_led) led;
    image = λ through row. image_led t (end_where (is_sibling t) (end.Signal 9) ps.tasks) known_left (led_where (is_sibling t) (end.Signal 9) ps.tasks led);
    load = λ how q none. led_map _ (loaded_alike how.for_all t _ _) ps.tasks led;
  }

  caller_lives : is_live t ≡ true
  caller_lives = (and_parts (t.number == n) (is_live t) (meets (test_of n) ps.tasks t e)).1

  -- a container with a live task runs
  pub runs : NoneOutlives ps → lives ps ≡ true
  runs none = by (lives ps) refl
    where
      by : (b : Bool) → lives ps ≡ b → b ≡ true
      by true h = refl
      by false h =
          let stopped : is_live t ≡ false = found HasEnded (test_of n) ps.tasks (none h) t e in
          let bad : true ≡ false = sym caller_lives ∙ stopped in absurd (cc)

  -- the caller goes on in the leader's place
  goes_on_there : (t.group == 1) ≡ true → lives (with_tasks ps (executed t ps.tasks)) ≡ true
  goes_on_there h =
      let before : list_any (leads t.group) (end_where (is_sibling t) (end.Signal 9) ps.tasks) ≡ true =
      any_map (λ u. Unit {0}) (leads t.group) (leads t.group) (λ u. if is_sibling t u then end_by (end.Signal 9) u else u)
      (λ u x is. let same = ends_alike (is_sibling t) (end.Signal 9) u in
      rw (same.0, same.1) is) ps.tasks (each_any (λ u. Unit {0}) (λ u. tt) ps.tasks) own_led in
      any_map (λ u. Unit {0}) (leads t.group) (λ u. is_in_group 1 u && is_live u) (placed t)
      (λ u x is. rw ((and_parts (u.number == t.group) (u.group == t.group) is).0, h, caller_lives) refl)
      (filter (stays t) (end_where (is_sibling t) (end.Signal 9) ps.tasks)) (each_any (λ u. Unit {0}) (λ u. tt) _)
      (any_filter (Known t) (leads t.group) (stays t) (λ u k is. stays_by t u t.group k is (is_task t.group u) (is_task t.number u) refl refl)
      (end_where (is_sibling t) (end.Signal 9) ps.tasks) known_left before)

  -- another group's execve leaves group 1 as it is
  others_go_on : (t.group == 1) ≡ false → lives ps ≡ true → lives (with_tasks ps (executed t ps.tasks)) ≡ true
  others_go_on h runs =
      let other : (u : Process) → (is_in_group 1 u && is_live u) ≡ true → u.group ≡ t.group → ⊥ =
      λ u is same.
      let one : u.group ≡ 1 = eqb-true u.group 1 (and_parts (u.group == 1) (is_live u) is).0 in
      let bad : true ≡ false = sym (eq-eqb t.group 1 (sym same ∙ one)) ∙ h in cc in
      let before : list_any (λ u. is_in_group 1 u && is_live u) (end_where (is_sibling t) (end.Signal 9) ps.tasks) ≡ true =
      any_map (λ u. Unit {0}) (λ u. is_in_group 1 u && is_live u) (λ u. is_in_group 1 u && is_live u) (λ u. if is_sibling t u then end_by (end.Signal 9) u else u)
      (λ u x is. rw (ne_eqb u.group t.group (other u is)) is) ps.tasks (each_any (λ u. Unit {0}) (λ u. tt) ps.tasks) runs in
      any_map (Known t) (λ u. is_in_group 1 u && is_live u) (λ u. is_in_group 1 u && is_live u) (placed t)
      (λ u k is. rw (ne_eqb u.number t.group (λ number. other u is (k.1 number))) is)
      (filter (stays t) (end_where (is_sibling t) (end.Signal 9) ps.tasks)) (each_filter (Known t) (stays t) _ known_left)
      (any_filter (Known t) (λ u. is_in_group 1 u && is_live u) (stays t)
      (λ u k is. or_right (is_task t.group u) (not (is_task t.number u)) (rw (ne_eqb u.number t.number (λ number. other u is (k.0 number))) refl))
      (end_where (is_sibling t) (end.Signal 9) ps.tasks) known_left before)

  still_runs : (qs : Processes) → lives qs ≡ true → NoneOutlives qs
  still_runs qs h = λ stopped. let bad : true ≡ false = sym h ∙ stopped in absurd (cc)

  pub survive_none : (r : Record) (b : Beside) → NoneOutlives ps → Survives NoneOutlives t r b ps
  survive_none r b none = record {
    same = none;
    ends = λ test last qs h. stops_all test last qs;
    fork = still_runs (with_next (forked t) ps).1 (any_push (λ u. is_in_group 1 u && is_live u) ps.tasks (forked t (ps.made + 1)) (runs none));
    thread = still_runs (with_next (cloned t) ps).1 (any_push (λ u. is_in_group 1 u && is_live u) ps.tasks (cloned t (ps.made + 1)) (runs none));
    image = λ through row. still_runs (with_tasks ps (executed t ps.tasks)) (image_runs (t.group == 1) refl);
    load = λ how q free. still_runs (loaded how q t ps) (any_map (λ u. Unit {0}) (λ u. is_in_group 1 u && is_live u) (λ u. is_in_group 1 u && is_live u) _
        (λ u x is. either (λ (v : Process). (is_in_group 1 v && is_live v)
        ≡ true) (takes how.for_all t u) _ u is is) ps.tasks (each_any (λ u. Unit {0}) (λ u. tt) ps.tasks) (runs none));
  }
    where
      image_runs : (b : Bool) → (t.group == 1) ≡ b → lives (with_tasks ps (executed t ps.tasks)) ≡ true
      image_runs true h = goes_on_there h
      image_runs false h = others_go_on h (runs none)

-- Whatever a task presents, groups stay led,
led_event : (n : ℕ) (r : Record) (b : Beside) (ps : Processes) → IsTrue (ascends 0 ps.tasks ps.made) → Led ps → Led (presented n r b ps).1
led_event n r b ps h led = event_keeps Led n r b ps led (λ t e. survive_led n ps t (to_order 0 ps.tasks ps.made h) led e r b)

pub groups_stay_led : GroupsStayLed
groups_stay_led = record {
  begin = λ native judge. (refl, tt);
  event = led_event;
  signal = λ sig ps led. signal_keeps Led ends_led sig ps led;
}

-- and none outlives group 1
none_event : (n : ℕ) (r : Record) (b : Beside) (ps : Processes) → IsTrue (ascends 0 ps.tasks ps.made)
    → Led ps → NoneOutlives ps → NoneOutlives (presented n r b ps).1
none_event n r b ps h led none = event_keeps NoneOutlives n r b ps none (λ t e. survive_none n ps t (to_order 0 ps.tasks ps.made h) led e r b none)

pub none_outlives_group_1 : NoneOutlivesGroup1
none_outlives_group_1 = record {
  end = stops_all;
  begin = λ native judge stopped. let bad : true ≡ false = stopped in absurd (cc);
  event = none_event;
  signal = λ sig ps none. signal_keeps NoneOutlives (λ test last qs h. stops_all test last qs) sig ps none;
}
