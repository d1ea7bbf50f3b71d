-- Refused calls that are told once.
use Rattle.std.proofs.Common.{◌≡◌, ℕ, suc, ◌+◌, ◌<◌, Bool, true, false, List, [], ◌∷◌, ◌++◌, length, get_or, take, drop, refl, sym, ap, subst, ◌∙◌, append_assoc, append-nil, add-one}
use Rattle.std.specs.Prelude.{◌&&◌, ◌||◌, ◌==◌, if◌then◌else◌}
use Rattle.std.specs.List.{list_any}
use Rattle.std.proofs.lemmas.Bool.{and_parts, eqb-true}
use Rattle.std.proofs.lemmas.List.{take_more}
use Rattle.std.proofs.lemmas.List.Folds.{list_any-append}
use Rattle.std.proofs.Math.Seq.{drop-cons}
use Rattle.machines.specs.Arch.{token_of}
use Rattle.wording.specs.declared.reason.Reason.{Reason}
use Rattle.wording.specs.declared.reason.Reason.TheVariants.{Foreign, Entry, Default}
use Rattle.strace_logs.specs.Replayed.{Refused, firsts_behind, is_alike, same_reason}
use Rattle.strace_logs.specs.inner.Refusals.{HaveAlike, IsNext}

-- ---- what is like one of two that are alike is like the other

same_is : (a b : Reason) → same_reason a b ≡ true → a ≡ b
same_is Foreign Foreign h = refl
same_is Foreign (Entry b) h = absurd (cc)
same_is Foreign Default h = absurd (cc)
same_is (Entry a) Foreign h = absurd (cc)
same_is (Entry a) (Entry b) h = ap Entry (eqb-true a b h)
same_is (Entry a) Default h = absurd (cc)
same_is Default Foreign h = absurd (cc)
same_is Default (Entry b) h = absurd (cc)
same_is Default Default h = refl

abbrev like : ℕ → ℕ → ℕ → Reason → Refused → Bool
like token nr verdict why y = token == token_of y.arch && nr == y.nr && verdict == y.verdict && same_reason why y.why

alike_both : (a b y : Refused) → is_alike a b ≡ true → is_alike b y ≡ true → is_alike a y ≡ true
alike_both a b y h both =
    let w = and_parts (token_of a.arch == token_of b.arch && a.nr == b.nr && a.verdict == b.verdict) (same_reason a.why b.why) h in
    let v = and_parts (token_of a.arch == token_of b.arch && a.nr == b.nr) (a.verdict == b.verdict) w.0 in
    let n = and_parts (token_of a.arch == token_of b.arch) (a.nr == b.nr) v.0 in
    ap (λ (k : ℕ). like k a.nr a.verdict a.why y) (eqb-true (token_of a.arch) (token_of b.arch) n.0)
    ∙ ap (λ (k : ℕ). like (token_of b.arch) k a.verdict a.why y) (eqb-true a.nr b.nr n.1)
    ∙ ap (λ (k : ℕ). like (token_of b.arch) b.nr k a.why y) (eqb-true a.verdict b.verdict v.1)
    ∙ ap (λ (r : Reason). like (token_of b.arch) b.nr b.verdict r y) (same_is a.why b.why w.1) ∙ both

or_right : (t r : Bool) → r ≡ true → (t || r) ≡ true
or_right true r h = refl
or_right false r h = h

or_none : (t : Bool) → (t || false) ≡ t
or_none true = refl
or_none false = refl

any_both : (before : List Refused) (x y : Refused) → list_any (λ b. is_alike b x) before ≡ true → is_alike x y ≡ true
    → list_any (λ b. is_alike b y) before ≡ true
any_both [] x y any alike = absurd (cc)
any_both (b ∷ before) x y any alike = by_test (is_alike b x) refl (λ more. any_both before x y more alike) where
  by_test : (t : Bool) → is_alike b x ≡ t → (list_any (λ z. is_alike z x) before ≡ true → list_any (λ z. is_alike z y) before ≡ true)
      → (is_alike b y || list_any (λ z. is_alike z y) before) ≡ true
  by_test true e later = ap (λ (t : Bool). t || list_any (λ z. is_alike z y) before) (alike_both b x y e alike)
  by_test false e later =
      or_right (is_alike b y) (list_any (λ z. is_alike z y) before)
      (later (subst (λ (t : Bool). (t || list_any (λ z. is_alike z x) before) ≡ true) e any))

-- ---- one call more

any_more : (before : List Refused) (x y : Refused)
    → list_any (λ b. is_alike b y) (before ++ x ∷ []) ≡ (list_any (λ b. is_alike b y) before || is_alike x y)
any_more before x y =
    list_any-append (λ b. is_alike b y) before (x ∷ []) ∙ ap (λ (t : Bool). list_any (λ b. is_alike b y) before || t) (or_none (is_alike x y))

kept_alike : (before : List Refused) (x y : Refused) → list_any (λ b. is_alike b x) before ≡ true
    → list_any (λ b. is_alike b y) before ≡ (list_any (λ b. is_alike b y) before || is_alike x y)
kept_alike before x y any = by_test (is_alike x y) refl where
  by_test : (t : Bool) → is_alike x y ≡ t → list_any (λ b. is_alike b y) before ≡ (list_any (λ b. is_alike b y) before || t)
  by_test true e = let h = any_both before x y any e in h ∙ sym (or_right (list_any (λ b. is_alike b y) before) true refl)
  by_test false e = sym (or_none (list_any (λ b. is_alike b y) before))

-- it is like one of them, and not added
pub next_kept : (before firsts : List Refused) (x : Refused) → HaveAlike firsts before → true ≡ list_any (λ b. is_alike b x) firsts
    → IsNext before x firsts firsts
next_kept before firsts x have any =
    let e : list_any (λ b. is_alike b x) before ≡ true = sym (have x) ∙ sym any in
    record {
      added = sym (append-nil firsts) ∙ ap (λ (t : Bool). firsts ++ (if t then [] else x ∷ [])) (sym e);
      alike = λ y. have y ∙ kept_alike before x y e ∙ sym (any_more before x y);
    }

-- it is like none of them, and added
pub next_added : (before firsts new : List Refused) (x : Refused) → HaveAlike firsts before → false ≡ list_any (λ b. is_alike b x) firsts
    → new ≡ firsts ++ x ∷ [] → IsNext before x firsts new
next_added before firsts new x have none is =
    let e : list_any (λ b. is_alike b x) before ≡ false = sym (have x) ∙ sym none in
    record {
      added = is ∙ ap (λ (t : Bool). firsts ++ (if t then [] else x ∷ [])) (sym e);
      alike = λ y.
          ap (list_any (λ b. is_alike b y)) is ∙ any_more firsts x y ∙ ap (λ (t : Bool). t || is_alike x y) (have y) ∙ sym (any_more before x y);
    }

-- one step further in a list
pub next_left : (xs : List Refused) (i : ℕ) (x : Refused) (old new all : List Refused) → i < length xs → x ≡ get_or xs i x
    → IsNext (take i xs) x old new → old ++ firsts_behind (take i xs) (drop i xs) ≡ all
    → new ++ firsts_behind (take (i + 1) xs) (drop (i + 1) xs) ≡ all
next_left xs i x old new all below is next left =
    let now : List Refused = if list_any (λ b. is_alike b x) (take i xs) then [] else x ∷ [] in
    let more : take (i + 1) xs ≡ take i xs ++ x ∷ [] = take_more xs i x below ∙ ap (λ (z : Refused). take i xs ++ z ∷ []) (sym is) in
    let rest : drop i xs ≡ x ∷ drop (i + 1) xs =
    drop-cons xs i x below ∙ ap (λ (z : Refused). z ∷ drop (suc i) xs) (sym is) ∙ ap (λ (k : ℕ). x ∷ drop k xs) (sym (add-one i)) in
    ap (λ (l : List Refused). l ++ firsts_behind (take (i + 1) xs) (drop (i + 1) xs)) next.added
    ∙ append_assoc old now (firsts_behind (take (i + 1) xs) (drop (i + 1) xs))
    ∙ ap (λ (l : List Refused). old ++ (now ++ firsts_behind l (drop (i + 1) xs))) more
    ∙ sym (ap (λ (l : List Refused). old ++ firsts_behind (take i xs) l) rest) ∙ left

pub next_alike : (xs : List Refused) (i : ℕ) (x : Refused) (old new : List Refused) → i < length xs → x ≡ get_or xs i x
    → IsNext (take i xs) x old new → HaveAlike new (take (i + 1) xs)
next_alike xs i x old new below is next =
    subst (HaveAlike new) (sym (take_more xs i x below ∙ ap (λ (z : Refused). take i xs ++ z ∷ []) (sym is))) next.alike

-- what is told in three parts
pub told_three : (old one two a b c : List ℕ) → one ≡ old ++ a → two ≡ one ++ b → two ++ c ≡ old ++ (a ++ b ++ c)
told_three old one two a b c e f =
    ap (λ (l : List ℕ). l ++ c) (f ∙ ap (λ (l : List ℕ). l ++ b) e) ∙ simp append_assoc

-- what is told in four parts
pub told_four : (old one two three a b c d : List ℕ) → one ≡ old ++ a → two ≡ one ++ b → three ≡ two ++ c → three ++ d ≡ old ++ (a ++ b ++ c ++ d)
told_four old one two three a b c d e f g =
    ap (λ (l : List ℕ). l ++ d) (g ∙ ap (λ (l : List ℕ). l ++ c) (f ∙ ap (λ (l : List ℕ). l ++ b) e)) ∙ simp append_assoc
