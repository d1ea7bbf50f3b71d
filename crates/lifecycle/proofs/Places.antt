-- The containers that are listed, and what a change of what is kept does to them.
use Rattle.std.proofs.Common.{◌≡◌, ℕ, suc, slice_get, ◌+◌, ◌<◌, ◌≤◌, ◌==◌, ◌⊎◌, inl, inr, Bool, true, false, cond, List, [], ◌∷◌, ◌++◌}
use Rattle.std.proofs.Common.{Option, None, Some, is_some, refl, sym, ap, subst, ◌∙◌, if◌then◌else◌, arith}
use Rattle.std.specs.List.{AllByRecursion, IsDistinct, filter}
use Rattle.std.specs.Map.{keys_of, lookup, remove_entry, set_value}
use Rattle.std.specs.Option.{option_map}
use Rattle.std.specs.Cmp.Lexicographic.{nat_list_eq_equiv}
use Rattle.std.proofs.lemmas.Bool.{cases_eq, eq-eqb, ne_eqb}
use Rattle.indexmap.specs.IndexMap.{insert_entry}
use Rattle.processes.specs.Views.{same_text}
use Rattle.lifecycle.specs.declared.entry.Entry.{Entry}
use Rattle.lifecycle.specs.declared.entry.Phase.{Phase}
use Rattle.lifecycle.specs.declared.register.Numbered.{Numbered}
use Rattle.lifecycle.specs.declared.register.Place.{Place}
use Rattle.lifecycle.specs.Entries.{Entries, FindsAt}
use Rattle.lifecycle.specs.Places.{IsRising, Known, at_phase, entry_at, entry_under, in_front, is_placed, is_there, listed_by}
use Rattle.lifecycle.proofs.Isolation.{same_is}

-- what is there is one thing
pub some_is : {A : Type 0} (x y : A) → Some x ≡ Some y → x ≡ y
some_is x y h = cc

-- ---- what is kept under a number

-- an entry that is kept under a number
pub under : (number : ℕ) (o : Option Numbered) (e : Entry) → entry_under number o ≡ Some e
    → (k : Numbered) × (o ≡ Some k) × (k.number ≡ number) × (k.entry ≡ e)
under number None e h = let bad : None ≡ Some e = h in absurd (cc)
under number (Some k) e h = elim (cases_eq k.number number) [
  | inl same ↦ let is : Some k.entry ≡ Some e = rw (eq-eqb k.number number same) at h in (k, refl, same, some_is k.entry e is)
  | inr other ↦ let bad : None ≡ Some e = rw (ne_eqb k.number number other) at h in absurd (cc)
]

own : (k : Numbered) (number : ℕ) → k.number ≡ number → entry_under number (Some k) ≡ Some k.entry
own k number same = rw (eq-eqb k.number number same) refl

-- what is kept, if anything, is kept under this number
abbrev pub IsUnder : ℕ → Option Numbered → Type 0
IsUnder number None = Unit {0}
IsUnder number (Some k) = k.number ≡ number

none_under : (o : Option Numbered) (number other : ℕ) → IsUnder number o → (number ≡ other → ⊥) → entry_under other o ≡ None
none_under None number other is ne = refl
none_under (Some k) number other is ne = rw (ne_eqb k.number other (λ e. ne (sym is ∙ e))) refl

-- ---- places

-- a place is the first, or among the others
pub here_or_later : (q : List ℕ) (n : ℕ) (p : Place) (ps : List Place) → is_placed q n (p ∷ ps) ≡ true
    → ((q ≡ p.name) × (p.number ≡ n)) ⊎ (is_placed q n ps ≡ true)
here_or_later q n p ps h = by (same_text q p.name) refl
  where
    within : same_text q p.name ≡ true → (if p.number == n then true else is_placed q n ps) ≡ true
        → ((q ≡ p.name) × (p.number ≡ n)) ⊎ (is_placed q n ps ≡ true)
    within t g = elim (cases_eq p.number n) [
      | inl same ↦ inl (same_is q p.name t, same)
      | inr other ↦ inr (rw (ne_eqb p.number n other) at g)
    ]

    by : (b : Bool) → same_text q p.name ≡ b → ((q ≡ p.name) × (p.number ≡ n)) ⊎ (is_placed q n ps ≡ true)
    by true t = within t (rw t at h)
    by false t = inr (rw t at h)

placed_here : (q : List ℕ) (n : ℕ) (p : Place) (ps : List Place) → same_text q p.name ≡ true → p.number ≡ n
    → is_placed q n (p ∷ ps) ≡ true
placed_here q n p ps t same = rw (t, eq-eqb p.number n same) refl

placed_later : (q : List ℕ) (n : ℕ) (p : Place) (ps : List Place) → is_placed q n ps ≡ true → is_placed q n (p ∷ ps) ≡ true
placed_later q n p ps h = by (same_text q p.name) (p.number == n)
  where
    by : (b c : Bool) → (if b then (if c then true else is_placed q n ps) else is_placed q n ps) ≡ true
    by true true = refl
    by true false = h
    by false c = h

same_self : (q r : List ℕ) → q ≡ r → same_text q r ≡ true
same_self q r e = ap (same_text q) (sym e) ∙ nat_list_eq_equiv.refl q

-- places stay where others come behind them,
pub placed_more : (q : List ℕ) (n : ℕ) (ps qs : List Place) → is_placed q n ps ≡ true → is_placed q n (ps ++ qs) ≡ true
placed_more q n [] qs h = let bad : false ≡ true = h in absurd (cc)
placed_more q n (p ∷ ps) qs h = elim (here_or_later q n p ps h) [
  | inl here ↦ placed_here q n p (ps ++ qs) (same_self q p.name here.0) here.1
  | inr later ↦ placed_later q n p (ps ++ qs) (placed_more q n ps qs later)
]

-- and the last is one
pub placed_last : (p : Place) (ps : List Place) → is_placed p.name p.number (ps ++ p ∷ []) ≡ true
placed_last p [] = placed_here p.name p.number p [] (nat_list_eq_equiv.refl p.name) refl
placed_last p (q ∷ ps) = placed_later p.name p.number q (ps ++ p ∷ []) (placed_last p ps)

-- ---- the entries that are found

-- each container that is kept has a place of its number
abbrev pub ArePlaced : Known → List Place → Type 0
ArePlaced known ps = (q : List ℕ) (n : Numbered) → known q ≡ Some n → is_placed q n.number ps ≡ true

none_in : (known : Known) (q : List ℕ) (ps : List Place) → known q ≡ None → lookup (same_text q) (listed_by known ps) ≡ None
none_in known q [] is = refl
none_in known q (p ∷ ps) is = by (entry_at known p) refl (none_in known q ps is)
  where
    named : (x : Entry) (b : Bool) → entry_at known p ≡ Some x → same_text q p.name ≡ b
        → lookup (same_text q) (listed_by known ps) ≡ None → lookup (same_text q) ((p.name, x) ∷ listed_by known ps) ≡ None
    named x true e t rest =
        let k = under p.number (known p.name) x e in
        let bad : None ≡ Some k.0 = sym is ∙ ap known (same_is q p.name t) ∙ k.1 in
        absurd (cc)
    named x false e t rest = rw t rest

    by : (o : Option Entry) → entry_at known p ≡ o → lookup (same_text q) (listed_by known ps) ≡ None
        → lookup (same_text q) (in_front p.name (entry_at known p) (listed_by known ps)) ≡ None
    by None e rest = rw e rest
    by (Some x) e rest = rw e (named x (same_text q p.name) e refl rest)

found_in : (known : Known) (q : List ℕ) (k : Numbered) (ps : List Place) → known q ≡ Some k → is_placed q k.number ps ≡ true
    → lookup (same_text q) (listed_by known ps) ≡ Some k.entry
found_in known q k [] is placed = let bad : false ≡ true = placed in absurd (cc)
found_in known q k (p ∷ ps) is placed = elim (here_or_later q k.number p ps placed) [
  | inl here ↦
      let at : entry_at known p ≡ Some k.entry = ap (λ r. entry_under p.number (known r)) (sym here.0)
      ∙ ap (entry_under p.number) is ∙ own k p.number (sym here.1) in
      rw at (rw (same_self q p.name here.0) refl)
  | inr later ↦ by (entry_at known p) refl (found_in known q k ps is later)
]
  where
    named : (x : Entry) (b : Bool) → entry_at known p ≡ Some x → same_text q p.name ≡ b
        → lookup (same_text q) (listed_by known ps) ≡ Some k.entry
        → lookup (same_text q) ((p.name, x) ∷ listed_by known ps) ≡ Some k.entry
    named x true e t rest =
        let m = under p.number (known p.name) x e in
        let both : Some k ≡ Some m.0 = sym is ∙ ap known (same_is q p.name t) ∙ m.1 in
        let one : k ≡ m.0 = some_is k m.0 both in
        rw t (ap Some (sym (m.3) ∙ ap (λ (n : Numbered). n.entry) (sym one)))
    named x false e t rest = rw t rest

    by : (o : Option Entry) → entry_at known p ≡ o → lookup (same_text q) (listed_by known ps) ≡ Some k.entry
        → lookup (same_text q) (in_front p.name (entry_at known p) (listed_by known ps)) ≡ Some k.entry
    by None e rest = rw e rest
    by (Some x) e rest = rw e (named x (same_text q p.name) e refl rest)

-- what is found is the entry of what is kept
pub looked_up : (known : Known) (ps : List Place) → ArePlaced known ps → (q : List ℕ)
    → lookup (same_text q) (listed_by known ps) ≡ option_map (λ n. n.entry) (known q)
looked_up known ps placed q = by (known q) refl
  where
    by : (o : Option Numbered) → known q ≡ o → lookup (same_text q) (listed_by known ps) ≡ option_map (λ n. n.entry) (known q)
    by None e = none_in known q ps e ∙ sym (ap (option_map (λ n. n.entry)) e)
    by (Some k) e = found_in known q k ps e (placed q k e) ∙ sym (ap (option_map (λ n. n.entry)) e)

-- there is something to be found where something is kept,
pub kept_is_listed : (known : Known) (ps : List Place) → ArePlaced known ps → (q : List ℕ)
    → is_some (known q) ≡ is_some (lookup (same_text q) (listed_by known ps))
kept_is_listed known ps placed q = by (known q) ∙ sym (ap is_some (looked_up known ps placed q))
  where
    by : (o : Option Numbered) → is_some o ≡ is_some (option_map (λ n. n.entry) o)
    by None = refl
    by (Some k) = refl

-- and what is found is kept
pub found_is_kept : (known : Known) (ps : List Place) → ArePlaced known ps → (q : List ℕ) (e : Entry)
    → lookup (same_text q) (listed_by known ps) ≡ Some e → (k : Numbered) × (known q ≡ Some k) × (k.entry ≡ e)
found_is_kept known ps placed q e h = by (known q) refl (sym (looked_up known ps placed q) ∙ h)
  where
    by : (o : Option Numbered) → known q ≡ o → option_map (λ n. n.entry) (known q) ≡ Some e
        → (k : Numbered) × (known q ≡ Some k) × (k.entry ≡ e)
    by None is g = let bad : None ≡ Some e = rw is at g in absurd (cc)
    by (Some k) is g = let both : Some k.entry ≡ Some e = rw is at g in (k, is, some_is k.entry e both)

-- what is not found is not kept
pub not_kept : (known : Known) (ps : List Place) → ArePlaced known ps → (q : List ℕ) → lookup (same_text q) (listed_by known ps) ≡ None
    → known q ≡ None
not_kept known ps placed q h = by (known q) refl (sym (looked_up known ps placed q) ∙ h)
  where
    by : (o : Option Numbered) → known q ≡ o → option_map (λ n. n.entry) (known q) ≡ None → known q ≡ None
    by None is g = is
    by (Some k) is g = let bad : Some k.entry ≡ None = rw is at g in absurd (cc)

-- ---- no id is listed twice

apart : (known : Known) (q : List ℕ) (k : Numbered) (ps : List Place) (least next : ℕ) → known q ≡ Some k → k.number < least
    → IsRising least next ps → AllByRecursion (λ r. same_text q r ≡ false) (keys_of (listed_by known ps))
apart known q k [] least next is less rising = tt
apart known q k (p ∷ ps) least next is less rising =
    by (entry_at known p) refl (apart known q k ps (p.number + 1) next is (omega (arith, less, rising.0)) rising.1)
  where
    other : (x : Entry) (b : Bool) → entry_at known p ≡ Some x → same_text q p.name ≡ b → same_text q p.name ≡ false
    other x true e t =
        let m = under p.number (known p.name) x e in
        let both : Some k ≡ Some m.0 = sym is ∙ ap known (same_is q p.name t) ∙ m.1 in
        let one : k ≡ m.0 = some_is k m.0 both in
        let number : k.number ≡ p.number = ap (λ (n : Numbered). n.number) one ∙ m.2 in
        absurd (omega (arith, number, less, rising.0))
    other x false e t = t

    by : (o : Option Entry) → entry_at known p ≡ o → AllByRecursion (λ r. same_text q r ≡ false) (keys_of (listed_by known ps))
        → AllByRecursion (λ r. same_text q r ≡ false) (keys_of (in_front p.name (entry_at known p) (listed_by known ps)))
    by None e rest = rw e rest
    by (Some x) e rest = rw e (other x (same_text q p.name) e refl, rest)

pub distinct_in : (known : Known) (ps : List Place) (least next : ℕ) → IsRising least next ps
    → IsDistinct same_text (keys_of (listed_by known ps))
unfolding IsDistinct
distinct_in known [] least next rising = tt
distinct_in known (p ∷ ps) least next rising = by (entry_at known p) refl (distinct_in known ps (p.number + 1) next rising.1)
  where
    by : (o : Option Entry) → entry_at known p ≡ o → IsDistinct same_text (keys_of (listed_by known ps))
        → IsDistinct same_text (keys_of (in_front p.name (entry_at known p) (listed_by known ps)))
    by None e rest = rw e rest
    by (Some x) e rest =
        let m = under p.number (known p.name) x e in
        let number : m.0.number ≡ p.number = m.2 in
        rw e (apart known p.name m.0 ps (p.number + 1) next m.1 (omega (arith, number)) rising.1, rest)

-- ---- a change for one id

-- what is kept is what was kept before, but for one id
abbrev pub ChangesAt : Known → Known → List ℕ → Option Numbered → Type 0
ChangesAt old new q v = (r : List ℕ) → new r ≡ cond (same_text q r) v (old r)

-- of none of these places it is the entry
abbrev pub IsOfNone : Option Numbered → List Place → Type 0
IsOfNone o ps = AllByRecursion (λ p. entry_under p.number o ≡ None) ps

of_none_later : (o : Option Numbered) (number : ℕ) (ps : List Place) (least next : ℕ) → IsUnder number o → number < least
    → IsRising least next ps → IsOfNone o ps
of_none_later o number [] least next is less rising = tt
of_none_later o number (p ∷ ps) least next is less rising = (
  none_under o number p.number is (λ e. omega (arith, e, less, rising.0)),
  of_none_later o number ps (p.number + 1) next is (omega (arith, less, rising.0)) rising.1,
)

rising_le : (ps : List Place) (least next : ℕ) → IsRising least next ps → least ≤ next
rising_le [] least next rising = rising
rising_le (p ∷ ps) least next rising = omega (arith, rising.0, rising_le ps (p.number + 1) next rising.1)

of_none_before : (o : Option Numbered) (ps : List Place) (least next : ℕ) → IsUnder next o → IsRising least next ps → IsOfNone o ps
of_none_before o [] least next is rising = tt
of_none_before o (p ∷ ps) least next is rising = (
  none_under o next p.number is (λ e. omega (arith, e, rising_le ps (p.number + 1) next rising.1)),
  of_none_before o ps (p.number + 1) next is rising.1,
)

same_elsewhere : (old new : Known) (q : List ℕ) (v : Option Numbered) (ps : List Place) → ChangesAt old new q v
    → IsOfNone (old q) ps → IsOfNone v ps → listed_by new ps ≡ listed_by old ps
same_elsewhere old new q v [] change before after = refl
same_elsewhere old new q v (p ∷ ps) change before after =
    ap (in_front p.name (entry_at new p)) (same_elsewhere old new q v ps change before.1 after.1)
    ∙ ap (λ o. in_front p.name o (listed_by old ps)) (by (same_text q p.name) refl)
  where
    by : (b : Bool) → same_text q p.name ≡ b → entry_at new p ≡ entry_at old p
    by true t =
        ap (entry_under p.number) (change p.name ∙ ap (λ b. cond b v (old p.name)) t)
        ∙ after.0
        ∙ sym before.0
        ∙ ap (λ r. entry_under p.number (old r)) (same_is q p.name t)
    by false t = ap (entry_under p.number) (change p.name ∙ ap (λ b. cond b v (old p.name)) t)

-- What changes the first entry of an id, by its key alone, and leaves those before it: it sets its value, or takes it out.
pub record ActsOnFirst (q : List ℕ) (act : Entries → Entries) (x : Option Entry) : Type 0 where
  pub none : act [] ≡ []
  pub other : (e : List ℕ × Entry) (es : Entries) → same_text q e.0 ≡ false → act (e ∷ es) ≡ e ∷ act es
  pub first : (e : List ℕ × Entry) (es : Entries) → same_text q e.0 ≡ true → act (e ∷ es) ≡ in_front e.0 x es

-- what is kept changes under its number, or goes: so does what is listed
acted_in : (q : List ℕ) (act : Entries → Entries) (x : Option Entry) (old new : Known) (k : Numbered) (v : Option Numbered)
    (ps : List Place) (least next : ℕ) → ActsOnFirst q act x → ChangesAt old new q v → old q ≡ Some k → IsUnder k.number v
    → entry_under k.number v ≡ x → IsRising least next ps → listed_by new ps ≡ act (listed_by old ps)
acted_in q act x old new k v [] least next acts change is number value rising = sym acts.none
acted_in q act x old new k v (p ∷ ps) least next acts change is number value rising =
    by (same_text q p.name) refl (acted_in q act x old new k v ps (p.number + 1) next acts change is number value rising.1)
  where
    before : same_text q p.name ≡ true → entry_at old p ≡ entry_under p.number (Some k)
    before t = ap (λ r. entry_under p.number (old r)) (sym (same_is q p.name t)) ∙ ap (entry_under p.number) is

    after : same_text q p.name ≡ true → entry_at new p ≡ entry_under p.number v
    after t = ap (entry_under p.number) (change p.name ∙ ap (λ b. cond b v (old p.name)) t)

    here : same_text q p.name ≡ true → k.number ≡ p.number
        → in_front p.name (entry_at new p) (listed_by new ps) ≡ act (in_front p.name (entry_at old p) (listed_by old ps))
    here t same =
        let kept : IsOfNone (Some k) ps = of_none_later (Some k) k.number ps (p.number + 1) next refl (omega (arith, same)) rising.1 in
        let of_old : IsOfNone (old q) ps = subst (λ o. IsOfNone o ps) (sym is) kept in
        let of_new : IsOfNone v ps = of_none_later v k.number ps (p.number + 1) next number (omega (arith, same)) rising.1 in
        let is_x : entry_at new p ≡ x = after t ∙ ap (λ n. entry_under n v) (sym same) ∙ value in
        let was : entry_at old p ≡ Some k.entry = before t ∙ own k p.number same in
        ap (λ o. in_front p.name o (listed_by new ps)) is_x
        ∙ ap (in_front p.name x) (same_elsewhere old new q v ps change of_old of_new)
        ∙ sym (acts.first (p.name, k.entry) (listed_by old ps) t)
        ∙ ap (λ o. act (in_front p.name o (listed_by old ps))) (sym was)

    stale : same_text q p.name ≡ true → (k.number ≡ p.number → ⊥) → listed_by new ps ≡ act (listed_by old ps)
        → in_front p.name (entry_at new p) (listed_by new ps) ≡ act (in_front p.name (entry_at old p) (listed_by old ps))
    stale t ne rest =
        let is_none : entry_at new p ≡ None = after t ∙ none_under v k.number p.number number ne in
        let was_none : entry_at old p ≡ None = before t ∙ none_under (Some k) k.number p.number refl ne in
        ap (λ o. in_front p.name o (listed_by new ps)) is_none
        ∙ rest
        ∙ ap (λ o. act (in_front p.name o (listed_by old ps))) (sym was_none)

    past : (o : Option Entry) → same_text q p.name ≡ false → listed_by new ps ≡ act (listed_by old ps)
        → in_front p.name o (listed_by new ps) ≡ act (in_front p.name o (listed_by old ps))
    past None t rest = rest
    past (Some y) t rest = ap (λ (es : Entries). (p.name, y) ∷ es) rest ∙ sym (acts.other (p.name, y) (listed_by old ps) t)

    by : (b : Bool) → same_text q p.name ≡ b → listed_by new ps ≡ act (listed_by old ps)
        → in_front p.name (entry_at new p) (listed_by new ps) ≡ act (in_front p.name (entry_at old p) (listed_by old ps))
    by true t rest = elim (cases_eq k.number p.number) [
      | inl same ↦ here t same
      | inr other ↦ stale t other rest
    ]
    by false t rest =
        ap (λ o. in_front p.name o (listed_by new ps)) (ap (entry_under p.number) (change p.name ∙ ap (λ b. cond b v (old p.name)) t))
        ∙ past (entry_at old p) t rest

sets : (q : List ℕ) (w : Entry) → ActsOnFirst q (λ es. set_value (same_text q) es w) (Some w)
sets q w = record { none = refl; other = λ e es t. rw t refl; first = λ e es t. rw t refl }

takes_out : (q : List ℕ) → ActsOnFirst q (λ es. remove_entry (same_text q) es) None
takes_out q = record { none = refl; other = λ e es t. rw t refl; first = λ e es t. rw t refl }

-- what is kept has another value
pub set_in : (old new : Known) (q : List ℕ) (k m : Numbered) (ps : List Place) (least next : ℕ) → ChangesAt old new q (Some m)
    → old q ≡ Some k → m.number ≡ k.number → IsRising least next ps
    → listed_by new ps ≡ set_value (same_text q) (listed_by old ps) m.entry
set_in old new q k m ps least next change is same rising =
    acted_in q (λ es. set_value (same_text q) es m.entry) (Some m.entry) old new k (Some m) ps least next (sets q m.entry) change is same (own m k.number same) rising

without : (q : List ℕ) (es : Entries) → lookup (same_text q) es ≡ None → remove_entry (same_text q) es ≡ es
without q [] h = refl
without q (e ∷ es) h = by (same_text q e.0) refl (λ g. without q es g)
  where
    by : (b : Bool) → same_text q e.0 ≡ b → (lookup (same_text q) es ≡ None → remove_entry (same_text q) es ≡ es)
        → remove_entry (same_text q) (e ∷ es) ≡ e ∷ es
    by true t rest = let bad : Some e.1 ≡ None = rw t at h in absurd (cc)
    by false t rest = rw t (ap (λ (fs : Entries). e ∷ fs) (rest (rw t at h)))

-- what is kept goes, if it is there
pub removed_in : (old new : Known) (q : List ℕ) (ps : List Place) (least next : ℕ) → ChangesAt old new q None
    → IsRising least next ps → listed_by new ps ≡ remove_entry (same_text q) (listed_by old ps)
removed_in old new q ps least next change rising = by (old q) refl
  where
    by : (o : Option Numbered) → old q ≡ o → listed_by new ps ≡ remove_entry (same_text q) (listed_by old ps)
    by None e =
        let none : IsOfNone None ps = of_none_before None ps least next tt rising in
        same_elsewhere old new q None ps change (subst (λ o. IsOfNone o ps) (sym e) none) none
        ∙ sym (without q (listed_by old ps) (none_in old q ps e))
    by (Some k) e = acted_in q (λ es. remove_entry (same_text q) es) None old new k None ps least next (takes_out q) change e tt refl rising

-- what has a place has one after a change
pub placed_kept : (old new : Known) (q : List ℕ) (v : Option Numbered) (ps : List Place) → ChangesAt old new q v → ArePlaced old ps
    → ((n : Numbered) → v ≡ Some n → is_placed q n.number ps ≡ true) → ArePlaced new ps
placed_kept old new q v ps change placed own_place = λ r n is. by r n (same_text q r) refl (sym (change r) ∙ is)
  where
    by : (r : List ℕ) (n : Numbered) (b : Bool) → same_text q r ≡ b → cond (same_text q r) v (old r) ≡ Some n
        → is_placed r n.number ps ≡ true
    by r n true t is = let own : v ≡ Some n = rw t at is in subst (λ s. is_placed s n.number ps ≡ true) (same_is q r t) (own_place n own)
    by r n false t is = let other : old r ≡ Some n = rw t at is in placed r n other

-- and so it has where it comes to a phase, if it is there
pub phased : (old new : Known) (q : List ℕ) (phase : Phase) (ps : List Place)
    → ((n : Numbered) → old q ≡ Some n → ChangesAt old new q (Some (at_phase phase n)))
    → (old q ≡ None → (r : List ℕ) → new r ≡ old r) → ArePlaced old ps → ArePlaced new ps
phased old new q phase ps there absent placed = by (old q) refl
  where
    by : (o : Option Numbered) → old q ≡ o → ArePlaced new ps
    by None e = λ r n is. placed r n (sym (absent e r) ∙ is)
    by (Some k) e = placed_kept old new q (Some (at_phase phase k)) ps (there k e) placed (λ n is.
        let same : at_phase phase k ≡ n = some_is (at_phase phase k) n is in
        subst (λ (m : Numbered). is_placed q m.number ps ≡ true) same (placed q k e))

-- ---- a new container

front_more : (id : List ℕ) (o : Option Entry) (es fs : Entries) → in_front id o (es ++ fs) ≡ in_front id o es ++ fs
front_more id None es fs = refl
front_more id (Some e) es fs = refl

listed_more : (known : Known) (ps qs : List Place) → listed_by known (ps ++ qs) ≡ listed_by known ps ++ listed_by known qs
listed_more known [] qs = refl
listed_more known (p ∷ ps) qs =
    ap (in_front p.name (entry_at known p)) (listed_more known ps qs)
    ∙ front_more p.name (entry_at known p) (listed_by known ps) (listed_by known qs)

insert_last : (es : Entries) (q : List ℕ) (e : Entry) → lookup (same_text q) es ≡ None → insert_entry same_text es q e ≡ es ++ (q, e) ∷ []
insert_last [] q e h = refl
insert_last (x ∷ es) q e h = by (same_text q x.0) refl (λ g. insert_last es q e g)
  where
    by : (b : Bool) → same_text q x.0 ≡ b
        → (lookup (same_text q) es ≡ None → insert_entry same_text es q e ≡ es ++ (q, e) ∷ [])
        → insert_entry same_text (x ∷ es) q e ≡ x ∷ (es ++ (q, e) ∷ [])
    by true t rest = let bad : Some x.1 ≡ None = rw t at h in absurd (cc)
    by false t rest = rw t (ap (λ (fs : Entries). x ∷ fs) (rest (rw t at h)))

-- it is listed last
pub added_in : (old new : Known) (q : List ℕ) (e : Entry) (ps : List Place) (least next : ℕ)
    → ChangesAt old new q (Some (record { entry = e; number = next })) → old q ≡ None → IsRising least next ps
    → listed_by new (ps ++ record { name = q; number = next } ∷ []) ≡ insert_entry same_text (listed_by old ps) q e
added_in old new q e ps least next change none rising =
    let k : Numbered = record { entry = e; number = next } in
    let p : Place = record { name = q; number = next } in
    let is : new q ≡ Some k = change q ∙ ap (λ b. cond b (Some k) (old q)) (nat_list_eq_equiv.refl q) in
    let at : entry_at new p ≡ Some e = ap (entry_under next) is ∙ own k next refl in
    let of_old : IsOfNone (old q) ps = subst (λ o. IsOfNone o ps) (sym none) (of_none_before None ps least next tt rising) in
    let of_new : IsOfNone (Some k) ps = of_none_before (Some k) ps least next refl rising in
    listed_more new ps (p ∷ [])
    ∙ ap (λ (es : Entries). es ++ listed_by new (p ∷ [])) (same_elsewhere old new q (Some k) ps change of_old of_new)
    ∙ ap (λ o. listed_by old ps ++ in_front q o []) at
    ∙ sym (insert_last (listed_by old ps) q e (none_in old q ps none))

pub rising_push : (ps : List Place) (least next : ℕ) (q : List ℕ) → IsRising least next ps
    → IsRising least (next + 1) (ps ++ record { name = q; number = next } ∷ [])
rising_push [] least next q rising = (rising, omega arith)
rising_push (p ∷ ps) least next q rising = (rising.0, rising_push ps (p.number + 1) next q rising.1)

-- ---- places that are taken out

rising_from : (ps : List Place) (low least next : ℕ) → low ≤ least → IsRising least next ps → IsRising low next ps
rising_from [] low least next le rising = omega (arith, le, rising)
rising_from (p ∷ ps) low least next le rising = (omega (arith, le, rising.0), rising.1)

pub rising_filter : (test : Place → Bool) (ps : List Place) (least next : ℕ) → IsRising least next ps → IsRising least next (filter test ps)
rising_filter test [] least next rising = rising
rising_filter test (p ∷ ps) least next rising = by (test p) refl (rising_filter test ps (p.number + 1) next rising.1)
  where
    by : (b : Bool) → test p ≡ b → IsRising (p.number + 1) next (filter test ps)
        → IsRising least next (cond (test p) (p ∷ filter test ps) (filter test ps))
    by true t rest = rw t (rising.0, rest)
    by false t rest = rw t (rising_from (filter test ps) least (p.number + 1) next (omega (arith, rising.0)) rest)

-- those of which no container is there list none
pub listed_filter : (known : Known) (ps : List Place) → listed_by known (filter (is_there known) ps) ≡ listed_by known ps
listed_filter known [] = refl
listed_filter known (p ∷ ps) = by (entry_at known p) refl (listed_filter known ps)
  where
    by : (o : Option Entry) → entry_at known p ≡ o → listed_by known (filter (is_there known) ps) ≡ listed_by known ps
        → listed_by known (cond (is_some (entry_at known p)) (p ∷ filter (is_there known) ps) (filter (is_there known) ps))
        ≡ in_front p.name (entry_at known p) (listed_by known ps)
    by None e rest = rw e rest
    by (Some x) e rest =
        ap (λ o. listed_by known (cond (is_some o) (p ∷ filter (is_there known) ps) (filter (is_there known) ps))) e
        ∙ ap (in_front p.name (entry_at known p)) rest

-- and those of the containers that are there stay
placed_still : (known : Known) (q : List ℕ) (k : Numbered) (ps : List Place) → known q ≡ Some k → is_placed q k.number ps ≡ true
    → is_placed q k.number (filter (is_there known) ps) ≡ true
placed_still known q k [] is h = h
placed_still known q k (p ∷ ps) is h = elim (here_or_later q k.number p ps h) [
  | inl here ↦
      let at : entry_at known p ≡ Some k.entry = ap (λ r. entry_under p.number (known r)) (sym here.0)
      ∙ ap (entry_under p.number) is ∙ own k p.number (sym here.1) in
      rw at (placed_here q k.number p (filter (is_there known) ps) (same_self q p.name here.0) here.1)
  | inr later ↦ by (is_there known p) (placed_still known q k ps is later)
]
  where
    by : (b : Bool) → is_placed q k.number (filter (is_there known) ps) ≡ true
        → is_placed q k.number (cond b (p ∷ filter (is_there known) ps) (filter (is_there known) ps)) ≡ true
    by true g = placed_later q k.number p (filter (is_there known) ps) g
    by false g = g

pub placed_filter : (known : Known) (ps : List Place) → ArePlaced known ps → ArePlaced known (filter (is_there known) ps)
placed_filter known ps placed = λ q k is. placed_still known q k ps is (placed q k is)

-- ---- what is found after a change

pub finds_at : (old new : Known) (ps qs : List Place) (q : List ℕ) (v : Option Numbered) → ArePlaced old ps → ArePlaced new qs
    → ChangesAt old new q v → FindsAt (listed_by old ps) (listed_by new qs) q (option_map (λ n. n.entry) v)
finds_at old new ps qs q v before after change = λ r.
    looked_up new qs after r
    ∙ ap (option_map (λ n. n.entry)) (change r)
    ∙ by r (same_text q r)
    ∙ sym (ap (λ o. cond (same_text q r) (option_map (λ n. n.entry) v) o) (looked_up old ps before r))
  where
    by : (r : List ℕ) (b : Bool) → option_map (λ n. n.entry) (cond b v (old r))
        ≡ cond b (option_map (λ n. n.entry) v) (option_map (λ n. n.entry) (old r))
    by r true = refl
    by r false = refl

-- ---- the ids in order

-- the id at a place among those that are there
abbrev pub name_in : Known → List Place → ℕ → Option (List ℕ)
name_in known ps i = option_map (λ e. e.0) (slice_get (listed_by known ps) i)

-- the place of a container that is there has the next id, and its others come after it
pub name_here : (known : Known) (p : Place) (ps : List Place) → is_there known p ≡ true → name_in known (p ∷ ps) 0 ≡ Some p.name
name_here known p ps there = by (entry_at known p) refl
  where
    by : (o : Option Entry) → entry_at known p ≡ o
        → option_map (λ e. e.0) (slice_get (in_front p.name (entry_at known p) (listed_by known ps)) 0) ≡ Some p.name
    by None e = let bad : false ≡ true = rw e at there in absurd (cc)
    by (Some x) e = rw e refl

pub name_later : (known : Known) (p : Place) (ps : List Place) (i : ℕ) → is_there known p ≡ true
    → name_in known (p ∷ ps) (suc i) ≡ name_in known ps i
name_later known p ps i there = by (entry_at known p) refl
  where
    by : (o : Option Entry) → entry_at known p ≡ o
        → option_map (λ e. e.0) (slice_get (in_front p.name (entry_at known p) (listed_by known ps)) (suc i)) ≡ name_in known ps i
    by None e = let bad : false ≡ true = rw e at there in absurd (cc)
    by (Some x) e = rw e refl

-- any other has none
pub name_past : (known : Known) (p : Place) (ps : List Place) (i : ℕ) → is_there known p ≡ false
    → name_in known (p ∷ ps) i ≡ name_in known ps i
name_past known p ps i there = by (entry_at known p) refl
  where
    by : (o : Option Entry) → entry_at known p ≡ o
        → option_map (λ e. e.0) (slice_get (in_front p.name (entry_at known p) (listed_by known ps)) i) ≡ name_in known ps i
    by None e = rw e refl
    by (Some x) e = let bad : true ≡ false = rw e at there in absurd (cc)
