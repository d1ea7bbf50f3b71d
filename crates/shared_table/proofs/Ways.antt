-- The ways down a tree.
use Rattle.std.proofs.Common.{◌≡◌, ℕ, zero, suc, ◌+◌, ◌-◌, ◌<◌, ◌≤◌, ◌^◌, ◌⊎◌, true, false, Option, Some, None, List, [], ◌∷◌, ◌++◌}
use Rattle.std.proofs.Common.{IfSome, length, get_or, refl, ap, sym, ◌∙◌, subst, arith, inl, inr}
use Rattle.std.specs.Prelude.{◌≢◌, ◌==◌, slice_get, nat_eq, drop}
use Rattle.std.specs.Cmp.Lexicographic.{pointwise}
use Rattle.std.proofs.Math.ListN.{get_or-append}
use Rattle.std.proofs.Math.Seq.{get_or-append_seam}
use Rattle.std.proofs.lemmas.Bool.{and_parts, cases_eq, cases_lt, eq-eqb, eqb-true, ne_eqb}
use Rattle.std.proofs.lemmas.List.{drop-drop, get_or_past, length-drop, length_push}
use Rattle.std.proofs.lemmas.List.Sums.{sum_by-cons}
use Rattle.bpf_insn.specs.declared.instruction.Insn.{Insn}
use Rattle.processes.specs.Kernel.{is_oldest_part}
use Rattle.processes.specs.Stores.{has_filter, loads_in, program_filter, size_beside}
use Rattle.processes.specs.Tasks.{Filter}
use Rattle.shared_table.specs.declared.node.Node.{Node}
use Rattle.shared_table.specs.Tree.{IsFurther, IsKept, IsLeft, IsTree, Step, Way, filters_on, way_at, way_below, way_from, ways_from}
use Rattle.shared_table.specs.inner.On.{GoesOn, IsOn}

-- the way from a filter, where those before it have these
own_way : List Way → Node → Way
own_way ways n = (length ways, n.program) ∷ way_below ways n.below

pub length_ways : (ways : List Way) (ns : List Node) → length (ways_from ways ns) ≡ length ways + length ns
length_ways ways [] = omega arith
length_ways ways (n ∷ ns) =
    let rest : length (ways_from (ways ++ ((length ways, n.program) ∷ way_below ways n.below) ∷ []) ns)
    ≡ length (ways ++ ((length ways, n.program) ∷ way_below ways n.below) ∷ []) + length ns =
    length_ways (ways ++ ((length ways, n.program) ∷ way_below ways n.below) ∷ []) ns in
    let one : length (ways ++ ((length ways, n.program) ∷ way_below ways n.below) ∷ []) ≡ length ways + 1 =
    length_push ways ((length ways, n.program) ∷ way_below ways n.below) in
    omega arith

-- further filters leave the ways of those before them
pub ways_keep : (ways : List Way) (ns : List Node) (i : ℕ) → i < length ways → way_at (ways_from ways ns) i ≡ way_at ways i
ways_keep ways [] i h = refl
ways_keep ways (n ∷ ns) i h =
    let own : Way = (length ways, n.program) ∷ way_below ways n.below in
    let one : length (ways ++ own ∷ []) ≡ length ways + 1 = length_push ways own in
    ways_keep (ways ++ own ∷ []) ns i (omega arith) ∙ get_or-append ways (own ∷ []) [] i h

below_keep : (ways : List Way) (ns : List Node) (o : Option ℕ) → ((p : ℕ) → o ≡ Some p → p < length ways)
    → way_below ways o ≡ way_below (ways_from ways ns) o
below_keep ways ns None h = refl
below_keep ways ns (Some p) h = sym (ways_keep ways ns p (h p refl))

-- the way from a filter begins with it, and goes on below it
way_here : (ways : List Way) (ns : List Node) (i : ℕ) (n : Node) → slice_get ns i ≡ Some n
    → ((p : ℕ) → n.below ≡ Some p → p < length ways + i)
    → way_at (ways_from ways ns) (length ways + i) ≡ (length ways + i, n.program) ∷ way_below (ways_from ways ns) n.below
way_here ways [] i n found h = absurd (cc)
way_here ways (m ∷ ns) zero n found h =
    let same : m ≡ n = cc in
    let own : Way = (length ways, m.program) ∷ way_below ways m.below in
    let place : length ways + 0 ≡ length ways = omega arith in
    let one : length (ways ++ own ∷ []) ≡ length ways + 1 = length_push ways own in
    let here : way_at (ways_from (ways ++ own ∷ []) ns) (length ways) ≡ own =
    ways_keep (ways ++ own ∷ []) ns (length ways) (omega arith) ∙ get_or-append_seam ways own [] [] in
    let before : (p : ℕ) → m.below ≡ Some p → p < length ways =
    λ p e. let less : p < length ways + 0 = h p (ap (λ (x : Node). x.below) (sym same) ∙ e) in omega arith in
    let rest : way_below ways m.below ≡ way_below (ways_from ways (m ∷ ns)) m.below = below_keep ways (m ∷ ns) m.below before in
    ap (way_at (ways_from ways (m ∷ ns))) place
    ∙ here
    ∙ ap (λ (w : Way). (length ways, m.program) ∷ w) rest
    ∙ ap (λ (x : Node). (length ways, x.program) ∷ way_below (ways_from ways (m ∷ ns)) x.below) same
    ∙ ap (λ (k : ℕ). (k, n.program) ∷ way_below (ways_from ways (m ∷ ns)) n.below) (sym place)
way_here ways (m ∷ ns) (suc i) n found h =
    let own : Way = (length ways, m.program) ∷ way_below ways m.below in
    let one : length (ways ++ own ∷ []) ≡ length ways + 1 = length_push ways own in
    let place : length ways + suc i ≡ length (ways ++ own ∷ []) + i = omega arith in
    let before : (p : ℕ) → n.below ≡ Some p → p < length (ways ++ own ∷ []) + i =
    λ p e. let less : p < length ways + suc i = h p e in omega arith in
    let rest = way_here (ways ++ own ∷ []) ns i n found before in
    ap (way_at (ways_from ways (m ∷ ns))) place
    ∙ rest
    ∙ ap (λ (k : ℕ). (k, n.program) ∷ way_below (ways_from ways (m ∷ ns)) n.below) (sym place)

pub way_is : (arch : ℕ) (nodes : List Node) (i : ℕ) (n : Node) → IsTree arch nodes → slice_get nodes i ≡ Some n
    → way_from nodes i ≡ (i, n.program) ∷ way_below (ways_from [] nodes) n.below
way_is arch nodes i n tree found =
    let none : 0 + i ≡ i = omega arith in
    subst (λ k. way_from nodes k ≡ (k, n.program) ∷ way_below (ways_from [] nodes) n.below) none
    (way_here [] nodes i n found (λ p e. let less : p < i = tree.before i p n found e in omega arith))

-- there is no way from a place that has no filter
pub way_past : (nodes : List Node) (i : ℕ) → length nodes ≤ i → way_from nodes i ≡ []
way_past nodes i h =
    let long : length (ways_from [] nodes) ≡ 0 + length nodes = length_ways [] nodes in
    get_or_past (ways_from [] nodes) i [] (omega arith)

ways_push : (ways : List Way) (ns : List Node) (n : Node) → ways_from ways (ns ++ n ∷ [])
    ≡ ways_from ways ns ++ own_way (ways_from ways ns) n ∷ []
unfolding own_way
ways_push ways [] n = refl
ways_push ways (m ∷ ns) n = ways_push (ways ++ ((length ways, m.program) ∷ way_below ways m.below) ∷ []) ns n

-- a further filter leaves the ways of those before it,
pub way_before : (nodes : List Node) (n : Node) (i : ℕ) → i < length nodes → way_from (nodes ++ n ∷ []) i ≡ way_from nodes i
way_before nodes n i h =
    let long : length (ways_from [] nodes) ≡ 0 + length nodes = length_ways [] nodes in
    ap (λ ways. way_at ways i) (ways_push [] nodes n)
    ∙ get_or-append (ways_from [] nodes) (own_way (ways_from [] nodes) n ∷ []) [] i (omega arith)

-- and has its own
pub way_last : (nodes : List Node) (n : Node) → way_from (nodes ++ n ∷ []) (length nodes)
    ≡ (length nodes, n.program) ∷ way_below (ways_from [] nodes) n.below
unfolding own_way
way_last nodes n =
    let long : length (ways_from [] nodes) ≡ length nodes = length_ways [] nodes ∙ omega arith in
    let own : Way = (length (ways_from [] nodes), n.program) ∷ way_below (ways_from [] nodes) n.below in
    ap (λ ways. way_at ways (length nodes)) (ways_push [] nodes n)
    ∙ ap (λ k. get_or (ways_from [] nodes ++ own ∷ []) k []) (sym long)
    ∙ get_or-append_seam (ways_from [] nodes) own [] []
    ∙ ap (λ (k : ℕ). (k, n.program) ∷ way_below (ways_from [] nodes) n.below) long

-- what stands at a place of a list with one more
pub at_push : {A : Type 0} (xs : List A) (x y : A) (i : ℕ) → slice_get (xs ++ x ∷ []) i ≡ Some y
    → ((slice_get xs i ≡ Some y) × (i < length xs)) ⊎ ((i ≡ length xs) × (x ≡ y))
at_push [] x y zero e = inr (refl, cc)
at_push [] x y (suc i) e = absurd (cc)
at_push (z ∷ xs) x y zero e = inl (e, omega arith)
at_push (z ∷ xs) x y (suc i) e = elim (at_push xs x y i e) [
  | inl both ↦ let less : i < length xs = both.1 in inl (both.0, omega arith)
  | inr both ↦ let last : i ≡ length xs = both.0 in inr (omega arith, both.1)
]

-- the filters of a place that was added
pub way_of_new : (arch place : ℕ) (program : List Insn) (nodes : List Node) (n : Node) → IsOn arch nodes place program n
    → way_from (nodes ++ n ∷ []) (length nodes) ≡ (length nodes, program) ∷ way_from nodes place
way_of_new arch place program nodes n on =
    way_last nodes n
    ∙ ap (λ (w : Way). (length nodes, n.program) ∷ w) on.way
    ∙ ap (λ (q : List Insn). (length nodes, q) ∷ way_from nodes place) on.program_is

pub long_on : (way : Way) → length (filters_on way) ≡ length way
long_on [] = refl
long_on (k ∷ way) = let rest : length (filters_on way) ≡ length way = long_on way in omega arith

pub long_loads : (way : Way) → length (loads_in (filters_on way)) ≡ length way
long_loads [] = refl
long_loads (k ∷ way) = let rest : length (loads_in (filters_on way)) ≡ length way = long_loads way in omega arith

-- Ways that are left of others.

same_loads : (xs : List ℕ) → pointwise nat_eq xs xs ≡ true
same_loads [] = refl
same_loads (x ∷ xs) = rw (eq-eqb x x refl) (same_loads xs)

drop_none : (xs ys : List ℕ) → length ys ≤ length xs → is_oldest_part xs ys ≡ pointwise nat_eq xs ys
drop_none xs ys h = let none : length ys - length xs ≡ 0 = omega arith in ap (λ k. pointwise nat_eq xs (drop k ys)) none

pub one_less : (xs ys : List ℕ) (y : ℕ) → length xs ≤ length ys → is_oldest_part xs (y ∷ ys) ≡ is_oldest_part xs ys
one_less xs ys y h =
    let more : length (y ∷ ys) - length xs ≡ suc (length ys - length xs) = omega arith in
    ap (λ k. pointwise nat_eq xs (drop k (y ∷ ys))) more

equal_of : (xs ys : List ℕ) → pointwise nat_eq xs ys ≡ true → xs ≡ ys
equal_of [] [] h = refl
equal_of [] (y ∷ ys) h = let bad : false ≡ true = h in absurd (cc)
equal_of (x ∷ xs) [] h = let bad : false ≡ true = h in absurd (cc)
equal_of (x ∷ xs) (y ∷ ys) h =
    let parts = and_parts (x == y) (pointwise nat_eq xs ys) h in
    let first : x ≡ y = eqb-true x y parts.0 in
    let rest : xs ≡ ys = equal_of xs ys parts.1 in
    cc

-- an oldest part is no longer,
part_short : (xs ys : List ℕ) → is_oldest_part xs ys ≡ true → length xs ≤ length ys
part_short xs ys h =
    let same : length xs ≡ length (drop (length ys - length xs) ys) = ap length (equal_of xs (drop (length ys - length xs) ys) h) in
    omega (arith, length-drop (length ys - length xs) ys)

-- and what is no longer than it is an oldest part of both or of neither
part_of_part : (xs ys zs : List ℕ) → is_oldest_part ys zs ≡ true → length xs ≤ length ys → is_oldest_part xs zs ≡ is_oldest_part xs ys
part_of_part xs ys zs h short =
    let is : ys ≡ drop (length zs - length ys) zs = equal_of ys (drop (length zs - length ys) zs) h in
    let fits : length ys ≤ length zs = part_short ys zs h in
    let sum : length zs - length xs ≡ length zs - length ys + (length ys - length xs) = omega arith in
    ap (pointwise nat_eq xs)
    (ap (λ k. drop k zs) sum
    ∙ sym (drop-drop (length ys - length xs) (length zs - length ys) zs)
    ∙ ap (drop (length ys - length xs)) (sym is))

-- a way is no longer than one that it is left of
pub left_short : (low way : Way) → IsLeft low way → length low ≤ length way
left_short low way left =
    let short : length (loads_in (filters_on low)) ≤ length (loads_in (filters_on way)) =
    part_short (loads_in (filters_on low)) (loads_in (filters_on way)) left in
    omega (arith, long_loads low, long_loads way)

pub left_self : (way : Way) → IsLeft way way
left_self way = drop_none (loads_in (filters_on way)) (loads_in (filters_on way)) (omega arith) ∙ same_loads (loads_in (filters_on way))

-- what is left of a way is left of that with one more filter in front,
pub left_past : (low way : Way) (k : Step) → IsLeft low way → IsLeft low (k ∷ way)
left_past low way k left =
    one_less (loads_in (filters_on low)) (loads_in (filters_on way)) k.0
    (part_short (loads_in (filters_on low)) (loads_in (filters_on way)) left)
    ∙ left

-- and what is left of what is left is left
pub left_of_left : (low middle way : Way) → IsLeft low middle → IsLeft middle way → IsLeft low way
left_of_left low middle way a b =
    part_of_part (loads_in (filters_on low)) (loads_in (filters_on middle)) (loads_in (filters_on way)) b
    (part_short (loads_in (filters_on low)) (loads_in (filters_on middle)) a)
    ∙ a

-- what is in front of a way that is deep enough is no matter
pub front_less : (old : List ℕ) (low way : Way) → IsLeft low way → length old ≤ length low
    → is_oldest_part old (loads_in (filters_on way)) ≡ is_oldest_part old (loads_in (filters_on low))
front_less old low way left h =
    part_of_part old (loads_in (filters_on low)) (loads_in (filters_on way)) left (omega (arith, long_loads low))

-- a further filter leaves which of those before it are further down than which,
further_kept : (nodes : List Node) (n : Node) (i p : ℕ) → i < length nodes → IsFurther nodes i p → IsFurther (nodes ++ n ∷ []) i p
further_kept nodes n i p h further =
    let less : p < i = further.before in
    record {
      before = further.before;
      left = rw (way_before nodes n i h, way_before nodes n p (omega arith)) further.left;
    }

-- and those left of the way that it is in front of are further down than it
further_on : (nodes : List Node) (n : Node) (place p : ℕ) (program : List Insn)
    → way_from (nodes ++ n ∷ []) (length nodes) ≡ (length nodes, program) ∷ way_from nodes place
    → p < length nodes → IsLeft (way_from nodes p) (way_from nodes place) → IsFurther (nodes ++ n ∷ []) (length nodes) p
further_on nodes n place p program own h left = record {
  before = h;
  left = rw (own, way_before nodes n p h) (left_past (way_from nodes p) (way_from nodes place) (length nodes, program) left);
}

-- a tree with one more filter
pub grown : (arch place : ℕ) (program : List Insn) (nodes : List Node) (n : Node) → IsTree arch nodes → length nodes < 2 ^ 32
    → IsOn arch nodes place program n → IsTree arch (nodes ++ n ∷ [])
grown arch place program nodes n tree room on =
    let long : length (nodes ++ n ∷ []) ≡ length nodes + 1 = length_push nodes n in
    let few : length nodes ≤ 2 ^ 32 = tree.few in
    record {
      some = omega arith;
      few = omega arith;
      before = λ i p m found e. elim (at_push nodes n m i found) [
        | inl both ↦ tree.before i p m both.0 e
        | inr both ↦
            let last : i ≡ length nodes = both.0 in
            let less : p < length nodes = on.before p (ap (λ (x : Node). x.below) both.1 ∙ e) in
            omega arith
      ];
      jumps = λ i p m found e. elim (at_push nodes n m i found) [
        | inl both ↦ further_kept nodes n i p both.1 (tree.jumps i p m both.0 e)
        | inr both ↦
            let jump = on.jumps p (ap (λ (x : Node). x.jump) both.1 ∙ e) in
            let last : i ≡ length nodes = both.0 in
            let own = way_of_new arch place program nodes n on in
            subst (λ k. IsFurther (nodes ++ n ∷ []) k p) (sym last) (further_on nodes n place p program own jump.0 jump.1)
      ];
      kept = λ i m found. elim (at_push nodes n m i found) [
        | inl both ↦ rw (way_before nodes n i both.1) (tree.kept i m both.0)
        | inr both ↦
            let own : way_from (nodes ++ n ∷ []) i ≡ (length nodes, program) ∷ way_from nodes place =
            ap (way_from (nodes ++ n ∷ [])) both.0 ∙ way_last nodes n
            ∙ ap (λ (w : Way). (length nodes, n.program) ∷ w) on.way
            ∙ ap (λ (q : List Insn). (length nodes, q) ∷ way_from nodes place) on.program_is in
            let whole : IsKept arch ((length nodes, program) ∷ way_from nodes place) m =
            subst (IsKept arch ((length nodes, program) ∷ way_from nodes place)) both.1 on.kept in
            rw own whole
      ];
    }

-- a first filter alone
pub alone : (arch : ℕ) (n : Node) → n.below ≡ None → n.jump ≡ None → IsKept arch ((0, n.program) ∷ []) n → IsTree arch (n ∷ [])
alone arch n none nowhere kept = record {
  some = omega arith;
  few = omega arith;
  before = λ i p m found e. one i p m found e;
  jumps = λ i p m found e. absurd (two i p m found e);
  kept = λ i m found. own i m found;
}
  where
    one : (i p : ℕ) (m : Node) → slice_get (n ∷ []) i ≡ Some m → m.below ≡ Some p → p < i
    one zero p m found e = let same : n ≡ m = cc in let both : None ≡ Some p = sym none ∙ ap (λ (x : Node). x.below) same ∙ e in absurd (cc)
    one (suc i) p m found e = absurd (cc)

    two : (i p : ℕ) (m : Node) → slice_get (n ∷ []) i ≡ Some m → m.jump ≡ Some p → ⊥
    two zero p m found e = let same : n ≡ m = cc in let both : None ≡ Some p = sym nowhere ∙ ap (λ (x : Node). x.jump) same ∙ e in absurd (cc)
    two (suc i) p m found e = absurd (cc)

    own : (i : ℕ) (m : Node) → slice_get (n ∷ []) i ≡ Some m → IsKept arch (way_from (n ∷ []) i) m
    own zero m found =
        let same : n ≡ m = cc in
        let way : way_from (n ∷ []) 0 ≡ (0, n.program) ∷ [] = ap (λ (o : Option ℕ). (0, n.program) ∷ way_below [] o) none in
        subst (IsKept arch (way_from (n ∷ []) 0)) same (rw way kept)
    own (suc i) m found = absurd (cc)

-- how many filters are on a way is no more than they count for
pub few_on : (way : Way) → length way ≤ size_beside (filters_on way)
few_on [] = omega arith
few_on (k ∷ way) =
    let rest : length way ≤ size_beside (filters_on way) = few_on way in
    let e : size_beside (filters_on (k ∷ way)) ≡ length k.1 + 4 + size_beside (filters_on way) =
    sum_by-cons (λ (f : Filter). f.judge.count + 4) (program_filter k.0 k.1) (filters_on way) in
    omega arith

pub size_cons : (load : ℕ) (program : List Insn) (way : Way)
    → size_beside (filters_on ((load, program) ∷ way)) ≡ length program + 4 + size_beside (filters_on way)
size_cons load program way = sum_by-cons (λ (f : Filter). f.judge.count + 4) (program_filter load program) (filters_on way)

-- how far a walk may still go
abbrev pub height : Option ℕ → ℕ
height None = 0
height (Some i) = i + 1

pub lower : (arch i : ℕ) (nodes : List Node) (n : Node) → IsTree arch nodes → slice_get nodes i ≡ Some n → height n.below < i + 1
lower arch i nodes n tree found = by n.below refl
  where
    by : (o : Option ℕ) → n.below ≡ o → height o < i + 1
    by None e = omega arith
    by (Some p) e = let less : p < i = tree.before i p n found e in omega arith

pub lower_next : (next : Option ℕ) (i : ℕ) → IfSome next (λ p. p < i) → height next < i + 1
lower_next None i h = omega arith
lower_next (Some p) i h = omega arith

below_before : (arch i : ℕ) (nodes : List Node) (n : Node) → IsTree arch nodes → slice_get nodes i ≡ Some n → IfSome n.below (λ p. p < i)
below_before arch i nodes n tree found = by n.below refl
  where
    by : (o : Option ℕ) → n.below ≡ o → IfSome o (λ p. p < i)
    by None e = tt
    by (Some p) e = tree.before i p n found e

-- a walk may go on below a filter that is further up than those that it goes to,
pub goes_below : (arch i depth : ℕ) (nodes : List Node) (n : Node) → IsTree arch nodes → slice_get nodes i ≡ Some n
    → depth < n.depth → GoesOn nodes i depth n.below
goes_below arch i depth nodes n tree found h =
    let here : way_from nodes i ≡ (i, n.program) ∷ way_below (ways_from [] nodes) n.below = way_is arch nodes i n tree found in
    let deep : n.depth ≡ length (way_from nodes i) = (tree.kept i n found).depth in
    let more : length (way_from nodes i) ≡ length (way_below (ways_from [] nodes) n.below) + 1 = ap length here ∙ omega arith in
    record {
      before = below_before arch i nodes n tree found;
      left = subst (IsLeft (way_below (ways_from [] nodes) n.below)) (sym here)
          (left_past (way_below (ways_from [] nodes) n.below) (way_below (ways_from [] nodes) n.below) (i, n.program) (left_self (way_below (ways_from [] nodes) n.below)));
      deep = omega arith;
    }

-- and where it jumps to, if that is not too deep
pub jumps_on : (arch i p depth : ℕ) (nodes : List Node) (n : Node) → IsTree arch nodes → slice_get nodes i ≡ Some n
    → n.jump ≡ Some p → depth ≤ length (way_from nodes p) → GoesOn nodes i depth (Some p)
jumps_on arch i p depth nodes n tree found e h =
    let further : IsFurther nodes i p = tree.jumps i p n found e in
    record { before = further.before; left = further.left; deep = h }

-- Oldest parts.

-- nothing is an oldest part of no filters but none
pub part_of_none : (xs : List ℕ) (n : ℕ) → length xs ≡ n → (n == 0) ≡ is_oldest_part xs []
part_of_none [] n e = rw (← e) refl
part_of_none (x ∷ xs) n e = let some : n ≢ 0 = omega arith in ne_eqb n 0 some ∙ sym (drop_none (x ∷ xs) [] (omega arith))

slice_get_none : {A : Type 0} (xs : List A) (i : ℕ) → slice_get xs i ≡ None → length xs ≤ i
slice_get_none [] i e = omega arith
slice_get_none (x ∷ xs) zero e = absurd (cc)
slice_get_none (x ∷ xs) (suc i) e = let rest : length xs ≤ i = slice_get_none xs i e in omega arith

-- where the way down from a place is no longer, it is the same if the places are
pub part_here : (arch i j : ℕ) (nodes : List Node) (n : Node) → IsTree arch nodes → slice_get nodes i ≡ Some n
    → length (way_from nodes i) ≤ length (way_from nodes j)
    → (i == j) ≡ is_oldest_part (loads_in (filters_on (way_from nodes j))) (loads_in (filters_on (way_from nodes i)))
part_here arch i j nodes n tree found long = elim (cases_eq i j) [
  | inl same ↦
      eq-eqb i j same
      ∙ sym (drop_none (loads_in (filters_on (way_from nodes j))) (loads_in (filters_on (way_from nodes i)))
      (rw (long_loads (way_from nodes i), long_loads (way_from nodes j)) long)
      ∙ ap (λ k. pointwise nat_eq (loads_in (filters_on (way_from nodes j))) (loads_in (filters_on (way_from nodes k)))) same
      ∙ same_loads (loads_in (filters_on (way_from nodes j))))
  | inr other ↦
      ne_eqb i j other
      ∙ sym (drop_none (loads_in (filters_on (way_from nodes j))) (loads_in (filters_on (way_from nodes i)))
      (rw (long_loads (way_from nodes i), long_loads (way_from nodes j)) long)
      ∙ apart (λ s. other (sym s)) (slice_get nodes j) refl)
]
  where
    here : way_from nodes i ≡ (i, n.program) ∷ way_below (ways_from [] nodes) n.below
    here = way_is arch nodes i n tree found

    apart : j ≢ i → (o : Option Node) → slice_get nodes j ≡ o
        → pointwise nat_eq (loads_in (filters_on (way_from nodes j))) (loads_in (filters_on (way_from nodes i))) ≡ false
    apart ne None e =
        let past : length nodes ≤ j = slice_get_none nodes j e in
        let nothing : way_from nodes j ≡ [] = way_past nodes j past in
        rw (nothing, here) refl
    apart ne (Some m) e = rw (way_is arch nodes j m tree e, here) (rw (ne_eqb j i ne) refl)

-- a place with filters has one
pub valid : (nodes : List Node) (i : ℕ) → has_filter (filters_on (way_from nodes i)) ≡ true → i < length nodes
valid nodes i h = elim (cases_lt i (length nodes)) [
  | inl less ↦ less
  | inr past ↦ let none : has_filter (filters_on []) ≡ true = rw (way_past nodes i past) at h in absurd (cc)
]
