-- The places that have no node yet fit into a certificate, with all that they lead to.
use Rattle.std.proofs.Common.{◌≡◌, ℕ, ◌+◌, ◌<◌, ◌≤◌, true, false, List, [], ◌∷◌, ◌++◌, length, refl, ap, sym, ◌∙◌, subst, arith, inl, inr, ⊎_elim}
use Rattle.std.specs.Prelude.{All, Some, None, Result, Ok, Err, IfErr, IfOk, slice_get, option_to_list}
use Rattle.std.proofs.lemmas.List.{append_assoc, append-nil, length-append}
use Rattle.std.proofs.lemmas.List.Elements.{All-head, All-nil, All-tail}
use Rattle.std.proofs.lemmas.Option.{none-some, same_Some}
use Rattle.bpf_insn.specs.declared.code.Operation.TheVariants.{ReturnK}
use Rattle.bpf_insn.specs.declared.instruction.Insn.{Insn}
use Rattle.bpf_insn.specs.Code.{operation_of}
use Rattle.profile.specs.Policy.{Policy}
use Rattle.cert_state.specs.declared.literal.Lit.{Lit}
use Rattle.cert_state.specs.declared.literal.Regs.{Regs}
use Rattle.cert_state.specs.Sharp.{sharp_fact}
use Rattle.cert_form.specs.declared.node.Kind.{Kind}
use Rattle.certify.specs.declared.fault.PathsError.{PathsError}
use Rattle.certify.specs.declared.fault.PathsError.TheVariants.{OutOfMemory}
use Rattle.certify.specs.declared.paths.Paths.{Paths}
use Rattle.certify.specs.declared.place.Next.{Next}
use Rattle.certify.specs.declared.place.Place.{Place}
use Rattle.certify.specs.inner.Counts.{inside, path_cost}
use Rattle.certify.specs.inner.Follow.{AreTwo, IsFork, IsGiven, IsStep, way}
use Rattle.certify.specs.inner.Leaf.{IsOfCalls}
use Rattle.certify.specs.inner.Limits.{IsFull, LacksRoom}
use Rattle.certify.specs.inner.Meant.{IsMeant}
use Rattle.certify.specs.inner.Places.{ArePaths, IsAdded, IsGrown, IsLonger, IsPlace, first_place, known_at}
use Rattle.certify.specs.inner.Plain.{AllTake, AreShares, HaveRoom, IsParted, Takes, TakesAt}
use Rattle.certify.proofs.ChainFacts.{literals_none}
use Rattle.certify.proofs.CountLaws.{inside_most}
use Rattle.certify.proofs.GrowLaws.{grown_added, known_more, longer_than}
use Rattle.certify.proofs.ShareLaws.{BothTake, OneTakes}
use Rattle.profile.proofs.KeptLaws.{slice_get_last}

module _ (policy : Policy) (p : List Insn) where
  -- ---- lists of places

  pub all_length : (es : List (ℕ × Lit)) (xs : List Place) (total : ℕ) → AllTake policy p es xs total → length xs ≤ total
  all_length es [] total take = omega arith
  all_length es (x ∷ xs) total (n, rest, some, fits, here, take) =
      let more = all_length es xs rest take in omega (arith, some, fits, more)

  all_append : (es : List (ℕ × Lit)) (xs ys : List Place) (a b : ℕ) → AllTake policy p es xs a → AllTake policy p es ys b
      → AllTake policy p es (xs ++ ys) (a + b)
  all_append es [] ys a b one other = more ys b one other where
    more : (ys : List Place) (b : ℕ) → AllTake policy p es [] a → AllTake policy p es ys b → AllTake policy p es ys (a + b)
    more [] b one other = tt
    more (y ∷ ys) b one (n, rest, some, fits, here, take) = (n, rest, some, omega (arith, fits), here, take)
  all_append es (x ∷ xs) ys a b (n, rest, some, fits, here, take) other =
      (n, rest + b, some, omega (arith, fits), here, all_append es xs ys rest b take other)

  all_grown : (es fs : List (ℕ × Lit)) (xs : List Place) (total : ℕ) → IsLonger es fs → All (IsPlace es) xs → AllTake policy p es xs total
      → AllTake policy p fs xs total
  all_grown es fs [] total longer are take = tt
  all_grown es fs (x ∷ xs) total longer are (n, rest, some, fits, here, take) = (
    n,
    rest,
    some,
    fits,
    subst (λ ls. Takes policy p x.pc x.regs ls n) (sym (known_more es fs x.chain longer (All-head (IsPlace es) x xs are).chain)) here,
    all_grown es fs xs rest longer (All-tail (IsPlace es) x xs are) take,
  )

  -- ---- what was added

  added_takes : (s t : Paths) (from : Place) (next : Next) (number nodes : ℕ) (added : IsAdded s t from next number)
      → Takes policy p next.pc next.regs (option_to_list next.learned ++ known_at s.entries.items from) nodes
      → TakesAt policy p t.entries.items added.place nodes
  added_takes s t from next number nodes added takes =
      subst (λ ls. Takes policy p added.place.pc added.place.regs ls nodes) (sym added.known_is)
      (subst (λ r. Takes policy p added.place.pc r (option_to_list next.learned ++ known_at s.entries.items from) nodes) (sym added.regs_are)
      (subst (λ k. Takes policy p k next.regs (option_to_list next.learned ++ known_at s.entries.items from) nodes) (sym added.pc_is) takes))

  pub no_shares : (old : Paths) (nodes : ℕ) → 1 ≤ nodes → AreShares policy p old old nodes
  no_shares old nodes some = record {
    more = [];
    places = sym (append-nil old.places.items);
    total = 0;
    each = tt;
    enough = omega (arith, some);
  }

  pub step_shares : (old new : Paths) (from : Place) (pc : ℕ) (regs : Regs) (kind : Kind) (nodes : ℕ) → IsStep old new from pc regs kind
      → OneTakes policy p pc regs (known_at old.entries.items from) nodes → AreShares policy p old new nodes
  step_shares old new from pc regs kind nodes step one =
      let next : Next = record { pc = pc; regs = regs; learned = None } in
      record {
        more = step.added.place ∷ [];
        places = step.added.places;
        total = one.rest;
        each = (one.rest, 0, one.some, omega arith, added_takes old new from next step.to one.rest step.added one.takes, tt);
        enough = one.less;
      }

  -- two places
  two_shares : (old new : Paths) (from : Place) (one other : Next) (first second a b nodes : ℕ) → IsPlace old.entries.items from
      → AreTwo old new from one other first second → 1 ≤ a → 1 ≤ b → a + b + 1 ≤ nodes
      → Takes policy p one.pc one.regs (option_to_list one.learned ++ known_at old.entries.items from) a
      → Takes policy p other.pc other.regs (option_to_list other.learned ++ known_at old.entries.items from) b
      → AreShares policy p old new nodes
  two_shares old new from one other first second a b nodes is two some also less takes too =
      let mid = two.middle in
      let x = two.first_is in
      let y = two.second_is in
      let same : known_at mid.entries.items from ≡ known_at old.entries.items from =
      known_more old.entries.items mid.entries.items from.chain x.entries is.chain in
      let here : TakesAt policy p mid.entries.items x.place a = added_takes old mid from one first a x takes in
      let in_mid : All (IsPlace mid.entries.items) (x.place ∷ []) = placed mid x.place first two in
      let now : AllTake policy p new.entries.items (x.place ∷ []) a =
      all_grown mid.entries.items new.entries.items (x.place ∷ []) a y.entries in_mid (a, 0, some, omega arith, here, tt) in
      let there : TakesAt policy p new.entries.items y.place b =
      added_takes mid new from other second b y (subst (λ ls. Takes policy p other.pc other.regs (option_to_list other.learned ++ ls) b) (sym same) too) in
      record {
        more = x.place ∷ y.place ∷ [];
        places = y.places ∙ ap (λ xs. xs ++ y.place ∷ []) x.places ∙ append_assoc old.places.items (x.place ∷ []) (y.place ∷ []);
        total = a + b;
        each = all_append new.entries.items (x.place ∷ []) (y.place ∷ []) a b now (b, 0, also, omega arith, there, tt);
        enough = less;
      }
    where
      placed : (mid : Paths) (place : Place) (number : ℕ) (two : AreTwo old new from one other first second) → All (IsPlace two.middle.entries.items) (two.first_is.place ∷ [])
      placed mid place number two =
          let P : Place → Type 0 = IsPlace two.middle.entries.items in
          let all : All P (old.places.items ++ two.first_is.place ∷ []) = subst (All P) two.first_is.places two.are_paths.places in
          Rattle.std.proofs.lemmas.List.Elements.All-cons P two.first_is.place []
          (Rattle.certify.proofs.GrowLaws.all_at P (old.places.items ++ two.first_is.place ∷ []) (length old.places.items) two.first_is.place all
          (slice_get_last old.places.items two.first_is.place)) (All-nil P)

  pub fork_shares : (old new : Paths) (from : Place) (i : Insn) (kind : Kind) (nodes : ℕ) → IsPlace old.entries.items from
      → IsFork old new from i kind → BothTake policy p from.pc i from.regs (known_at old.entries.items from) nodes
      → AreShares policy p old new nodes
  fork_shares old new from i kind nodes is fork both =
      two_shares old new from (way from i i.jt (sharp_fact (known_at old.entries.items from) from.regs i true))
      (way from i i.jf (sharp_fact (known_at old.entries.items from) from.regs i false)) fork.first fork.second both.first both.second nodes is
      fork.two both.first_some both.second_some both.less both.first_takes both.second_takes

  pub parted_shares : (old new : Paths) (from : Place) (i : Insn) (nodes : ℕ) → IsPlace old.entries.items from → slice_get p from.pc ≡ Some i
      → operation_of i.code ≡ Some ReturnK → IsParted policy old new from i.k nodes → AreShares policy p old new nodes
  parted_shares old new from i nodes is found returns parted =
      let parts = parted.parts in
      two_shares old new from (record { pc = from.pc; regs = from.regs; learned = Some parted.one })
      (record { pc = from.pc; regs = from.regs; learned = Some parted.other }) parted.first parted.second parts.first parts.second nodes is
      parted.two parts.first_takes.some parts.second_takes.some parts.enough
      (inr (record { insn = i; found = found; returns = returns; takes = parts.first_takes }))
      (inr (record { insn = i; found = found; returns = returns; takes = parts.second_takes }))

  -- ---- room

  pub first_room : IsMeant policy p → (paths : Paths) → paths.places.items ≡ first_place ∷ [] → paths.kinds.items ≡ [] → HaveRoom policy p paths
  first_room meant paths places kinds =
      let es = paths.entries.items in
      let none : known_at es first_place ≡ [] = literals_none es in
      let cost = path_cost p 0 (inside 512 policy.machines []) in
      let few = meant.shape.few in
      let short = meant.shape.short in
      let two = meant.plain.few in
      let most = inside_most policy.machines [] in
      record {
        done = [];
        waiting = first_place ∷ [];
        places = places;
        many = sym (ap length kinds);
        total = cost + 1;
        each = (
          cost + 1,
          0,
          omega arith,
          omega arith,
          subst (λ ls. Takes policy p 0 first_place.regs ls (cost + 1)) (sym none) (inl (record {
            held = None;
            regs_are = refl;
            of = tt;
            answers = λ t u at_t at_u. meant.shape.answers t u at_t.0 at_u.0;
            of_calls = All-nil IsOfCalls;
            short = omega (arith, short);
            cost = omega arith;
          })),
          tt,
        );
        few = omega (arith, few, most, two);
      }

  -- the first place that waits, and what is left
  pub record IsNext (paths : Paths) (from : Place) : Type 0 where
    pub nodes : ℕ
    pub some : 1 ≤ nodes
    pub takes : TakesAt policy p paths.entries.items from nodes
    pub done : List Place
    pub rest : List Place
    pub places : paths.places.items ≡ done ++ from ∷ rest
    pub many : length done ≡ length paths.kinds.items
    pub left : ℕ
    pub others : AllTake policy p paths.entries.items rest left
    pub few : length done + (nodes + left) ≤ 16384

  at_split : (done waiting : List Place) (from : Place) → slice_get (done ++ waiting) (length done) ≡ Some from
      → (rest : List Place) × (waiting ≡ from ∷ rest)
  at_split [] [] from h = absurd (none-some from h)
  at_split [] (x ∷ xs) from h = (xs, ap (λ y. y ∷ xs) (same_Some x from h))
  at_split (d ∷ done) waiting from h = at_split done waiting from h

  pub next_of : (paths : Paths) (from : Place) → HaveRoom policy p paths → slice_get paths.places.items (length paths.kinds.items) ≡ Some from
      → IsNext paths from
  next_of paths from room here =
      let there : slice_get (room.done ++ room.waiting) (length room.done) ≡ Some from =
      ap (slice_get (room.done ++ room.waiting)) room.many ∙ ap (λ xs. slice_get xs (length paths.kinds.items)) (sym room.places) ∙ here in
      let split = at_split room.done room.waiting from there in
      let take : AllTake policy p paths.entries.items (from ∷ split.0) room.total =
      subst (λ xs. AllTake policy p paths.entries.items xs room.total) split.1 room.each in
      let few = room.few in
      record {
        nodes = take.0;
        some = take.2;
        takes = take.4;
        done = room.done;
        rest = split.0;
        places = room.places ∙ ap (λ xs. room.done ++ xs) split.1;
        many = room.many;
        left = take.1;
        others = take.5;
        few = let fits = take.3 in omega (arith, few, fits);
      }

  -- there is room for all that it takes
  pub next_fits : (paths : Paths) (from : Place) → (next : IsNext paths from) → length paths.places.items + next.nodes ≤ 16385
  next_fits paths from next =
      let few = next.few in
      let rest = all_length paths.entries.items next.rest next.left next.others in
      omega (arith, few, rest, ap length next.places, length-append next.done (from ∷ next.rest))

  -- with a node more there still is
  pub room_after : (old now new : Paths) (from : Place) (kind : Kind) (next : IsNext old from) → ArePaths old → IsGrown old now
      → AreShares policy p old now next.nodes → IsGiven now new kind → HaveRoom policy p new
  room_after old now new from kind next are grown shares given =
      let es = old.entries.items in
      let fs = now.entries.items in
      let P : Place → Type 0 = IsPlace es in
      let all : All P (next.done ++ from ∷ next.rest) = subst (All P) next.places are.places in
      let rest_are : All P next.rest = All-tail P from next.rest (behind P next.done (from ∷ next.rest) all) in
      let others : AllTake policy p fs next.rest next.left = all_grown es fs next.rest next.left grown.entries rest_are next.others in
      let each : AllTake policy p fs (next.rest ++ shares.more) (next.left + shares.total) =
      all_append fs next.rest shares.more next.left shares.total others shares.each in
      record {
        done = next.done ++ from ∷ [];
        waiting = next.rest ++ shares.more;
        places =
            given.places ∙ shares.places ∙ ap (λ xs. xs ++ shares.more) next.places
            ∙ append_assoc next.done (from ∷ next.rest) shares.more
            ∙ sym (append_assoc next.done (from ∷ []) (next.rest ++ shares.more));
        many =
            let many = next.many in
            omega (
              arith,
              many,
              length-append next.done (from ∷ []),
              ap length given.kinds,
              length-append now.kinds.items (kind ∷ []),
              ap length grown.kinds,
            );
        total = next.left + shares.total;
        each = subst (λ xs. AllTake policy p xs (next.rest ++ shares.more) (next.left + shares.total)) (sym given.entries) each;
        few =
            let few = next.few in
            let enough = shares.enough in
            omega (arith, few, enough, length-append next.done (from ∷ []));
      }
    where
      behind : (P : Place → Type 0) (xs ys : List Place) → All P (xs ++ ys) → All P ys
      behind P [] ys all = all
      behind P (x ∷ xs) ys all = behind P xs ys (All-tail P x (xs ++ ys) all)

-- ---- an error of one that has room is want of memory

module _ (paths : Paths) (from : Place) (is : IsPlace paths.entries.items from) (nodes more : ℕ) where
  one_error : length paths.places.items + nodes ≤ 16385 → more + 1 ≤ nodes → length (known_at paths.entries.items from) < 512
      → (e : PathsError) → LacksRoom paths from more e → e ≡ OutOfMemory
  one_error fits enough short e lacks = ⊎_elim
      (λ (memory : e ≡ OutOfMemory). memory)
      (λ (full : IsFull paths from more). absurd (⊎_elim
      (λ (many : 16384 < length paths.places.items + more). omega (arith, many, fits, enough))
      (λ (deep : 512 ≤ from.depth). let depth = is.depth in omega (arith, deep, depth, short))
      full))
      lacks

  pub only_memory : {A : Type 0} → (result : Result A PathsError) → length paths.places.items + nodes ≤ 16385 → more + 1 ≤ nodes
      → length (known_at paths.entries.items from) < 512 → IfErr result (LacksRoom paths from more) → IfErr result (λ e. e ≡ OutOfMemory)
  only_memory (Ok a) fits enough short lacks = tt
  only_memory (Err e) fits enough short lacks = one_error fits enough short e lacks

-- ---- results

pub if_ok : {A E : Type 0} → (result : Result A E) (P Q : A → Type 0) → ((a : A) → P a → Q a) → IfOk result P → IfOk result Q
if_ok (Ok a) P Q f p = f a p
if_ok (Err e) P Q f p = tt
