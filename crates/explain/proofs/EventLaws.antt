-- The events that lines tell, and which of them are listed.
use Rattle.std.proofs.Common.{◌≡◌, ℕ, ◌+◌, ◌<◌, ◌≤◌, Bool, true, false, List, [], ◌∷◌, ◌++◌, length, get_or, take, drop, refl, sym, ap, subst, ◌∙◌, append_assoc, append-nil, add-one, arith, length-append}
use Rattle.std.specs.Prelude.{◌&&◌, ◌||◌, ◌==◌, if◌then◌else◌, Option, Some, None, MatchOption}
use Rattle.std.specs.List.{cons_option, filter_map, list_any}
use denote.Ref.{Bor}
use Rattle.std.proofs.lemmas.Bool.{and_parts, eqb-true}
use Rattle.std.proofs.lemmas.List.{take_all, take_more}
use Rattle.std.proofs.lemmas.List.Folds.{list_any-append}
use Rattle.std.proofs.Math.Seq.{drop-cons, take-append_seam}
use Rattle.wording.specs.Lines.{lines_of}
use Rattle.explain.specs.Audit.{event_in, events_in, firsts_behind, is_same, same_answer}
use Rattle.explain.specs.inner.Events.{HaveSame, IsNext, told_on}
use Rattle.explain.specs.declared.audited.event.Answer.{Answer}
use Rattle.explain.specs.declared.audited.event.Answer.TheVariants.{Code, Kill}
use Rattle.explain.specs.declared.audited.event.Event.{Event}

-- ---- one line more

told_first : (o : Option Event) (es : List Event) → cons_option o es ≡ told_on o ++ es
told_first None es = refl
told_first (Some e) es = refl

pub events_step : (text : List ℕ) (r : Option (Bor (List ℕ) × Bor (List ℕ)))
    → MatchOption r (lines_of text ≡ text ∷ []) (λ p. lines_of text ≡ p.0.now ∷ lines_of p.1.now)
    → MatchOption r (events_in text ≡ told_on (event_in text))
    (λ p. events_in text ≡ told_on (event_in p.0.now) ++ events_in p.1.now)
events_step text None h = ap (filter_map event_in) h ∙ told_first (event_in text) [] ∙ append-nil (told_on (event_in text))
events_step text (Some p) h = ap (filter_map event_in) h ∙ told_first (event_in p.0.now) (events_in p.1.now)

-- what was added is the first of what was left
pub more_of : {A : Type 0} (a b c d e f : List A) → a ≡ b ++ c → d ≡ c ++ e → b ++ d ≡ f → a ++ e ≡ f
more_of a b c d e f new step old =
    ap (λ l. l ++ e) new ∙ append_assoc b c e ∙ ap (λ l. b ++ l) (sym step) ∙ old

-- ---- what is the same as one of two that are the same is the same as the other

answer_same : (a b : Answer) → same_answer a b ≡ true → a ≡ b
answer_same (Code a) (Code b) h = ap (λ (code : ℕ). Code code) (eqb-true a b h)
answer_same (Code a) Kill h = absurd (cc)
answer_same Kill (Code b) h = absurd (cc)
answer_same Kill Kill h = refl

abbrev same : ℕ → ℕ → Answer → Event → Bool
same token nr answer y = token == y.token && nr == y.nr && same_answer answer y.answer

same_both : (a b y : Event) → is_same a b ≡ true → is_same b y ≡ true → is_same a y ≡ true
same_both a b y h both =
    let v = and_parts (a.token == b.token && a.nr == b.nr) (same_answer a.answer b.answer) h in
    let n = and_parts (a.token == b.token) (a.nr == b.nr) v.0 in
    ap (λ (k : ℕ). same k a.nr a.answer y) (eqb-true a.token b.token n.0)
    ∙ ap (λ (k : ℕ). same b.token k a.answer y) (eqb-true a.nr b.nr n.1)
    ∙ ap (λ (k : Answer). same b.token b.nr k y) (answer_same a.answer b.answer v.1) ∙ both

or_right : (t r : Bool) → r ≡ true → (t || r) ≡ true
or_right true r h = refl
or_right false r h = h

or_none : (t : Bool) → (t || false) ≡ t
or_none true = refl
or_none false = refl

any_both : (before : List Event) (x y : Event) → list_any (λ b. is_same b x) before ≡ true → is_same x y ≡ true
    → list_any (λ b. is_same b y) before ≡ true
any_both [] x y any alike = absurd (cc)
any_both (b ∷ before) x y any alike = by_test (is_same b x) refl (λ more. any_both before x y more alike) where
  by_test : (t : Bool) → is_same b x ≡ t → (list_any (λ z. is_same z x) before ≡ true → list_any (λ z. is_same z y) before ≡ true)
      → (is_same b y || list_any (λ z. is_same z y) before) ≡ true
  by_test true e later = ap (λ (t : Bool). t || list_any (λ z. is_same z y) before) (same_both b x y e alike)
  by_test false e later =
      or_right (is_same b y) (list_any (λ z. is_same z y) before)
      (later (subst (λ (t : Bool). (t || list_any (λ z. is_same z x) before) ≡ true) e any))

-- ---- one event more

any_more : (before : List Event) (x y : Event)
    → list_any (λ b. is_same b y) (before ++ x ∷ []) ≡ (list_any (λ b. is_same b y) before || is_same x y)
any_more before x y =
    list_any-append (λ b. is_same b y) before (x ∷ []) ∙ ap (λ (t : Bool). list_any (λ b. is_same b y) before || t) (or_none (is_same x y))

kept_alike : (before : List Event) (x y : Event) → list_any (λ b. is_same b x) before ≡ true
    → list_any (λ b. is_same b y) before ≡ (list_any (λ b. is_same b y) before || is_same x y)
kept_alike before x y any = by_test (is_same x y) refl where
  by_test : (t : Bool) → is_same x y ≡ t → list_any (λ b. is_same b y) before ≡ (list_any (λ b. is_same b y) before || t)
  by_test true e = let h = any_both before x y any e in h ∙ sym (or_right (list_any (λ b. is_same b y) before) true refl)
  by_test false e = sym (or_none (list_any (λ b. is_same b y) before))

-- it is the same as one of them, and not added
pub next_kept : (before firsts : List Event) (x : Event) → HaveSame firsts before → true ≡ list_any (λ b. is_same b x) firsts
    → IsNext before x firsts firsts
next_kept before firsts x have any =
    let e : list_any (λ b. is_same b x) before ≡ true = sym (have x) ∙ sym any in
    record {
      added = sym (append-nil firsts) ∙ ap (λ (t : Bool). firsts ++ (if t then [] else x ∷ [])) (sym e);
      alike = λ y. have y ∙ kept_alike before x y e ∙ sym (any_more before x y);
    }

-- it is the same as none of them, and added
pub next_added : (before firsts new : List Event) (x : Event) → HaveSame firsts before → false ≡ list_any (λ b. is_same b x) firsts
    → new ≡ firsts ++ x ∷ [] → IsNext before x firsts new
next_added before firsts new x have none is =
    let e : list_any (λ b. is_same b x) before ≡ false = sym (have x) ∙ sym none in
    record {
      added = is ∙ ap (λ (t : Bool). firsts ++ (if t then [] else x ∷ [])) (sym e);
      alike = λ y.
          ap (list_any (λ b. is_same b y)) is ∙ any_more firsts x y ∙ ap (λ (t : Bool). t || is_same x y) (have y) ∙ sym (any_more before x y);
    }

-- one step further in a list
pub next_left : (xs : List Event) (i : ℕ) (d : Event) (old new all : List Event) → i < length xs
    → IsNext (take i xs) (get_or xs i d) old new → old ++ firsts_behind (take i xs) (drop i xs) ≡ all
    → new ++ firsts_behind (take (i + 1) xs) (drop (i + 1) xs) ≡ all
next_left xs i d old new all below next left =
    let x = get_or xs i d in
    let now : List Event = if list_any (λ b. is_same b x) (take i xs) then [] else x ∷ [] in
    let rest : drop i xs ≡ x ∷ drop (i + 1) xs =
    drop-cons xs i d below ∙ ap (λ (k : ℕ). x ∷ drop k xs) (sym (add-one i)) in
    ap (λ (l : List Event). l ++ firsts_behind (take (i + 1) xs) (drop (i + 1) xs)) next.added
    ∙ append_assoc old now (firsts_behind (take (i + 1) xs) (drop (i + 1) xs))
    ∙ ap (λ (l : List Event). old ++ (now ++ firsts_behind l (drop (i + 1) xs))) (take_more xs i d below)
    ∙ sym (ap (λ (l : List Event). old ++ firsts_behind (take i xs) l) rest) ∙ left

pub next_alike : (xs : List Event) (i : ℕ) (d : Event) (old new : List Event) → i < length xs
    → IsNext (take i xs) (get_or xs i d) old new → HaveSame new (take (i + 1) xs)
next_alike xs i d old new below next = subst (HaveSame new) (sym (take_more xs i d below)) next.alike

one_at_most : (t : Bool) (x : Event) → length (if t then [] else x ∷ []) ≤ 1
one_at_most true x = omega arith
one_at_most false x = omega arith

pub next_length : (before : List Event) (x : Event) (old new : List Event) → IsNext before x old new → length new ≤ length old + 1
next_length before x old new next =
    let few = one_at_most (list_any (λ b. is_same b x) before) x in
    let long = ap length next.added ∙ length-append old (if list_any (λ b. is_same b x) before then [] else x ∷ []) in
    omega (arith, few, long)

-- ---- as many as are listed

pub whole_list : (n : ℕ) (firsts rest all : List Event) → firsts ++ rest ≡ all → length firsts ≡ n → firsts ≡ take n all
whole_list n firsts rest all left long =
    sym (take-append_seam firsts rest) ∙ ap (λ (k : ℕ). take k (firsts ++ rest)) long ∙ ap (take n) left

pub short_list : (n : ℕ) (firsts all : List Event) → firsts ≡ all → length firsts ≤ n → firsts ≡ take n all
short_list n firsts all same few = sym (take_all n firsts few) ∙ ap (take n) same

pub none_left : (before firsts rest all : List Event) → rest ≡ [] → firsts ++ firsts_behind before rest ≡ all → firsts ≡ all
none_left before firsts rest all nothing left =
    sym (append-nil firsts) ∙ ap (λ (l : List Event). firsts ++ firsts_behind before l) (sym nothing) ∙ left
