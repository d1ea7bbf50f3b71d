-- Each call that differs is told.
use Rattle.std.proofs.Common.{◌≡◌, ◌==◌, ◌&&◌, ◌||◌, ◌++◌, ◌⊎◌, ℕ, inl, inr, Bool, true, false, List, [], ◌∷◌, refl, sym, ◌∙◌, ap, subst}
use Rattle.std.specs.List.{All, flat_map, list_any}
use Rattle.std.proofs.lemmas.Bool.{and_parts, both_ways, eq-eqb, eqb-true, or_cases, or_left, or_right}
use Rattle.std.proofs.lemmas.List.Folds.{list_any-append}
use Rattle.std.proofs.lemmas.List.Elements.{All-head, All-tail}
use Rattle.call_record.specs.Words.{word}
use Rattle.machines.specs.declared.arch.Family.{Family}
use Rattle.profile.specs.Policy.{IsClear, Policy}
use Rattle.differ.specs.Direction.{tells}
use Rattle.differ.specs.Everywhere.{AreLike}
use Rattle.differ.specs.OnCall.{IsOfCall}
use Rattle.differ.specs.Differences as differ
use Rattle.differ.specs.Differences.{AreAll}
use Rattle.differ.specs.declared.direction.Direction.{Direction}
use Rattle.differ.specs.declared.direction.Direction.TheVariants.{Any, More, Less}
use Rattle.differ.specs.declared.found.Found.{Found}
use Rattle.differ.specs.declared.gathered.Differences.{Differences}
use Rattle.differ.specs.declared.named.Call.{Call}
use Rattle.differ.specs.Named.{is_call, is_named}
use Rattle.compare.specs.Complete.{AreComplete, AreListed, IsAnswered, IsCovered, differences_in, is_crowded, is_crowded_with, is_on, is_same, is_with, told_of}
use Rattle.compare.specs.Difference.{IsChange, IsDifference, IsLike, SayTheSame}
use Rattle.compare.specs.NoMore.{AllowsNoMore}
use Rattle.compare.specs.Order.{IsSides, is_less, is_more}
use Rattle.compare.specs.inner.Sided.{sides_of}
use Rattle.compare.specs.declared.change.Change.{Change}
use Rattle.compare.specs.declared.difference.Difference.{Difference}
use Rattle.compare.specs.declared.search.Crowded.{Crowded}
use Rattle.compare.proofs.EachCallLaws.{like_allows, like_same}

-- ---- tests of lists

any_left : {X : Type 0} (p : X → Bool) (xs ys : List X) → list_any p xs ≡ true → list_any p (xs ++ ys) ≡ true
any_left p xs ys h = list_any-append p xs ys ∙ or_left _ _ h

any_right : {X : Type 0} (p : X → Bool) (xs ys : List X) → list_any p ys ≡ true → list_any p (xs ++ ys) ≡ true
any_right p xs ys h = list_any-append p xs ys ∙ or_right _ _ h

any_both : {X : Type 0} (p : X → Bool) (xs ys : List X) → list_any p (xs ++ ys) ≡ true → (list_any p xs ≡ true) ⊎ (list_any p ys ≡ true)
any_both p xs ys h = or_cases _ _ (sym (list_any-append p xs ys) ∙ h)

pub any_push : {X : Type 0} (p : X → Bool) (xs : List X) (y : X) → list_any p (xs ++ y ∷ []) ≡ true → (list_any p xs ≡ true) ⊎ (p y ≡ true)
any_push p xs y h = elim (any_both p xs (y ∷ []) h) [
  | inl before ↦ inl before
  | inr last ↦ elim (or_cases (p y) false last) [
    | inl here ↦ inr here
    | inr none ↦ absurd (both_ways false refl none)
  ]
]

pub any_last : {X : Type 0} (p : X → Bool) (xs : List X) (y : X) → p y ≡ true → list_any p (xs ++ y ∷ []) ≡ true
any_last p xs y h = any_right p xs (y ∷ []) (or_left (p y) false h)

pub any_more : {X : Type 0} (p : X → Bool) (xs : List X) (y : X) → list_any p xs ≡ true → list_any p (xs ++ y ∷ []) ≡ true
any_more p xs y h = any_left p xs (y ∷ []) h

any_weaker : {X : Type 0} (p q : X → Bool) → ((x : X) → p x ≡ true → q x ≡ true) → (xs : List X) → list_any p xs ≡ true → list_any q xs ≡ true
any_weaker p q h [] e = e
any_weaker p q h (x ∷ xs) e = elim (or_cases (p x) (list_any p xs) e) [
  | inl here ↦ or_left _ _ (h x here)
  | inr rest ↦ or_right _ _ (any_weaker p q h xs rest)
]

-- ---- lines

told_push : (p : Difference → Bool) (changes : List Change) (c : Change) → (list_any p (told_of changes) ≡ true) ⊎ (list_any p (differences_in c) ≡ true)
    → list_any p (told_of (changes ++ c ∷ [])) ≡ true
told_push p [] c h = elim h [
  | inl none ↦ absurd (both_ways false refl none)
  | inr here ↦ any_left p (differences_in c) [] here
]
told_push p (x ∷ changes) c h = elim h [
  | inl before ↦ elim (any_both p (differences_in x) (told_of changes) before) [
    | inl first ↦ any_left p (differences_in x) (told_of (changes ++ c ∷ [])) first
    | inr rest ↦ any_right p (differences_in x) (told_of (changes ++ c ∷ [])) (told_push p changes c (inl rest))
  ]
  | inr here ↦ any_right p (differences_in x) (told_of (changes ++ c ∷ [])) (told_push p changes c (inr here))
]

pub told_stays : (p : Difference → Bool) (changes : List Change) (c : Change) → list_any p (told_of changes) ≡ true → list_any p (told_of (changes ++ c ∷ [])) ≡ true
told_stays p changes c h = told_push p changes c (inl h)

pub told_first : (p : Difference → Bool) (changes : List Change) (c : Change) → p c.first ≡ true → list_any p (told_of (changes ++ c ∷ [])) ≡ true
told_first p changes c h = told_push p changes c (inr (or_left (p c.first) (list_any p c.others.items) h))

same_on : (t n : ℕ) (d : Direction) (x y : Difference) → is_same x y ≡ true → is_on t n d x ≡ true → is_on t n d y ≡ true
same_on t n d x y same on =
    let a = and_parts (x.token == y.token) _ same in
    let b = and_parts (x.nr == y.nr) _ a.1 in
    let e = and_parts (x.first == y.first) (x.second == y.second) b.1 in
    let token : x.token ≡ y.token = eqb-true x.token y.token a.0 in
    let nr : x.nr ≡ y.nr = eqb-true x.nr y.nr b.0 in
    let first : x.first ≡ y.first = eqb-true x.first y.first e.0 in
    let second : x.second ≡ y.second = eqb-true x.second y.second e.1 in
    sym (ap (λ k. (n == k) && ((t == x.token) && tells d x.first x.second)) nr
    ∙ ap (λ k. (n == y.nr) && ((t == k) && tells d x.first x.second)) token
    ∙ ap (λ k. (n == y.nr) && ((t == y.token) && tells d k x.second)) first
    ∙ ap (λ k. (n == y.nr) && ((t == y.token) && tells d y.first k)) second)
    ∙ on

-- a record that is told already is on its call
pub told_already : (t n : ℕ) (d : Direction) (x : Difference) (changes : List Change)
    → list_any (λ c. list_any (is_same x) (differences_in c)) changes ≡ true → is_on t n d x ≡ true → list_any (is_on t n d) (told_of changes) ≡ true
told_already t n d x [] h on = h
told_already t n d x (c ∷ changes) h on =
    elim (or_cases (list_any (is_same x) (differences_in c)) (list_any (λ e. list_any (is_same x) (differences_in e)) changes) h) [
      | inl here ↦
          any_left (is_on t n d) (differences_in c) (told_of changes)
          (any_weaker (is_same x) (is_on t n d) (λ y same. same_on t n d x y same on) (differences_in c) here)
      | inr rest ↦ any_right (is_on t n d) (differences_in c) (told_of changes) (told_already t n d x changes rest on)
    ]

-- what one machine's call tells, the first one of its line tells too
others_like : (f : ℕ → ℕ → Bool) (family : Family) (p q : Policy) (first : Difference) (xs : List Difference)
    → All (λ d. IsDifference family p q d × IsLike first d) xs → list_any (λ d. f d.first d.second) xs ≡ true → f first.first first.second ≡ true
others_like f family p q first [] like e = absurd (both_ways false refl e)
others_like f family p q first (x ∷ xs) like e = elim (or_cases (f x.first x.second) (list_any (λ d. f d.first d.second) xs) e) [
  | inl here ↦
      let is : IsLike first x = (All-head (λ d. IsDifference family p q d × IsLike first d) x xs like).1 in
      ap (λ v. f v first.second) (sym is.same_first) ∙ ap (λ w. f x.first w) (sym is.same_second) ∙ here
  | inr rest ↦ others_like f family p q first xs (All-tail (λ d. IsDifference family p q d × IsLike first d) x xs like) rest
]

first_tells : (f : ℕ → ℕ → Bool) (family : Family) (p q : Policy) (changes : List Change) → All (IsChange family p q) changes
    → list_any (λ d. f d.first d.second) (told_of changes) ≡ true → list_any (λ c. f c.first.first c.first.second) changes ≡ true
first_tells f family p q [] are e = e
first_tells f family p q (c ∷ changes) are e =
    elim (any_both (λ d. f d.first d.second) (differences_in c) (told_of changes) e) [
      | inl here ↦ or_left _ _ (elim (or_cases (f c.first.first c.first.second) (list_any (λ d. f d.first d.second) c.others.items) here) [
        | inl first ↦ first
        | inr other ↦ others_like f family p q c.first c.others.items (All-head (IsChange family p q) c changes are).others other
      ])
      | inr rest ↦ or_right _ _ (first_tells f family p q changes (All-tail (IsChange family p q) c changes are) rest)
    ]

-- ---- from what was found

pub on_difference : (t n : ℕ) (d : Direction) (f : Found) (x : Difference) → x.token ≡ f.call.arch → x.nr ≡ f.call.nr → x.first ≡ f.first
    → x.second ≡ f.second → differ.is_on t n d f ≡ true → is_on t n d x ≡ true
on_difference t n d f x token nr first second on =
    ap (λ k. (n == k) && ((t == x.token) && tells d x.first x.second)) nr
    ∙ ap (λ k. (n == f.call.nr) && ((t == k) && tells d x.first x.second)) token
    ∙ ap (λ k. (n == f.call.nr) && ((t == f.call.arch) && tells d k x.second)) first
    ∙ ap (λ k. (n == f.call.nr) && ((t == f.call.arch) && tells d f.first k)) second
    ∙ on

pub on_crowded : (t n : ℕ) (call : Call) (x : Crowded) → x.token ≡ call.token → x.nr ≡ call.nr → is_call t n call ≡ true → is_crowded t n x ≡ true
on_crowded t n call x token nr on =
    ap (λ k. (t == k) && (n == x.nr)) token ∙ ap (λ k. (t == call.token) && (n == k)) nr ∙ on

pub with_on : (t : ℕ) (d : Direction) (found : List Found) → differ.is_told_with found t d ≡ true → (n : ℕ) × (differ.is_told found t n d ≡ true)
with_on t d [] h = absurd (both_ways false refl h)
with_on t d (f ∷ found) h = elim (or_cases (differ.is_with t d f) (differ.is_told_with found t d) h) [
  | inl here ↦ (f.call.nr, or_left _ _ (ap (λ b. b && differ.is_with t d f) (eq-eqb f.call.nr f.call.nr refl) ∙ here))
  | inr rest ↦ let more = with_on t d found rest in (more.0, or_right _ _ more.1)
]

pub token_named : (t : ℕ) (calls : List Call) → differ.has_token calls t ≡ true → (n : ℕ) × (is_named calls t n ≡ true)
token_named t [] h = absurd (both_ways false refl h)
token_named t (c ∷ calls) h = elim (or_cases (t == c.token) (differ.has_token calls t) h) [
  | inl here ↦ (c.nr, or_left _ _ (ap (λ b. b && (c.nr == c.nr)) here ∙ eq-eqb c.nr c.nr refl))
  | inr rest ↦ let more = token_named t calls rest in (more.0, or_right _ _ more.1)
]

-- what lines and crowded calls keep of what was found
pub record Keep (all : Differences) (changes : List Change) (crowded : List Crowded) : Type 0 where
  pub told : (t n : ℕ) (d : Direction) → differ.is_told all.found.items t n d ≡ true → list_any (is_on t n d) (told_of changes) ≡ true
  pub named : (t n : ℕ) → is_named all.crowded.items t n ≡ true → list_any (is_crowded t n) crowded ≡ true

answered_moves : (p q : Policy) (all : Differences) (changes : List Change) (crowded : List Crowded) (t n : ℕ) (d : Direction)
    → Keep all changes crowded → differ.IsAnswered p q all t n d → IsAnswered p q changes crowded t n d
answered_moves p q all changes crowded t n d keep h = elim h [
  | inl like ↦ inl like
  | inr other ↦ elim other [
    | inl told ↦ inr (inl (keep.told t n d told))
    | inr named ↦ inr (inr (keep.named t n named))
  ]
]

covered_moves : (p q : Policy) (all : Differences) (changes : List Change) (crowded : List Crowded) (t n : ℕ) (d : Direction)
    → Keep all changes crowded → differ.IsCovered p q all t n d → IsCovered p q changes crowded t n d
covered_moves p q all changes crowded t n d keep h = elim h [
  | inl like ↦ inl like
  | inr other ↦ elim other [
    | inl told ↦
        let on = with_on t d all.found.items told in
        inr (inl (any_weaker (is_on t on.0 d) (is_with t d) (λ x e. (and_parts (on.0 == x.nr) (is_with t d x) e).1) (told_of changes) (keep.told t on.0 d on.1)))
    | inr named ↦
        let on = token_named t all.crowded.items named in
        inr (inr (any_weaker (is_crowded t on.0) (is_crowded_with t) (λ x e. (and_parts (t == x.token) (on.0 == x.nr) e).0) crowded (keep.named t on.0 on.1)))
  ]
]

pub all_complete : (p q : Policy) (asked : List Call) (all : Differences) (changes : List Change) (crowded : List Crowded) → AreAll p q asked all
    → Keep all changes crowded → AreComplete p q changes crowded
all_complete p q asked all changes crowded are keep = record {
  of_first = λ t n d h. answered_moves p q all changes crowded t n d keep (are.of_first t n d h);
  of_second = λ t n d h. answered_moves p q all changes crowded t n d keep (are.of_second t n d h);
  others = λ t n d. covered_moves p q all changes crowded t n d keep (are.others t n d);
}

-- ---- what the lines come to

untold_like : (family : Family) (p q : Policy) (changes : List Change) (d : Direction) → AreListed family p q changes []
    → list_any (λ c. tells d c.first.first c.first.second) changes ≡ false → AreLike p q d
untold_like family p q changes d listed untold = λ r is. elim (listed.complete.others (word r 1) (word r 0) d) [
  | inl like ↦ like r (record { is_record = is; machine = refl; number = refl })
  | inr other ↦ elim other [
    | inl told ↦ absurd (both_ways (list_any (λ c. tells d c.first.first c.first.second) changes) untold
        (first_tells (tells d) family p q changes listed.are_changes
        (any_weaker (is_with (word r 1) d) (λ x. tells d x.first x.second) (λ x e. (and_parts (word r 1 == x.token) (tells d x.first x.second) e).1) (told_of changes) told)))
    | inr none ↦ absurd (both_ways false refl none)
  ]
]

pub none_same : (family : Family) (p q : Policy) → IsClear p.rules → IsClear q.rules → AreListed family p q [] [] → SayTheSame p q
none_same family p q clear_p clear_q listed = like_same p q clear_p clear_q (untold_like family p q [] Any listed refl)

turn : (p q : Policy) → AreLike p q Less → AreLike q p More
turn p q like = λ r is v w one other. like r is w v other one

pub sides_are : (family : Family) (p q : Policy) (changes : List Change) (more less : Bool) → IsClear p.rules → IsClear q.rules
    → AreListed family p q changes [] → list_any (λ c. is_more c.first) changes ≡ more → list_any (λ c. is_less c.first) changes ≡ less
    → IsSides p q changes (sides_of more less)
sides_are family p q changes true true clear_p clear_q listed more less = (more, less)
sides_are family p q changes true false clear_p clear_q listed more less =
    (like_allows p q (turn p q (untold_like family p q changes Less listed less)), more)
sides_are family p q changes false true clear_p clear_q listed more less =
    (like_allows q p (untold_like family p q changes More listed more), less)
sides_are family p q changes false false clear_p clear_q listed more less =
    (like_allows q p (untold_like family p q changes More listed more), like_allows p q (turn p q (untold_like family p q changes Less listed less)))
