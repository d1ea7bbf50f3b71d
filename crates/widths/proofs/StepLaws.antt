-- One more step of the loops that make lists of conditions and rules.
use Rattle.std.proofs.Common.{◌≡◌, true, false, ℕ, ◌+◌, ◌<◌, ◌≤◌, ◌^◌, inl, inr, List, [], ◌∷◌, ◌++◌, length, length-append, get_or, map, take, bit_and, refl, sym, ◌∙◌, ap, subst, arith, append_assoc}
use Rattle.std.specs.Prelude.{◌↔◌, Option, Some, None, IsSome, IfOk, Result, Ok, Err}
use Rattle.std.specs.List.{All, Contains, flat_map}
use Rattle.std.proofs.lemmas.List.{append-nil, length-map, length-take-le, map-append, map_more, take_more}
use Rattle.std.proofs.lemmas.List.Concat.{flat_map-append}
use Rattle.std.proofs.lemmas.List.Elements.{All-nil, All-cons, All-append, All-push, All-contains, Contains-push, Contains-append_left}
use Rattle.std.proofs.lemmas.Nat.{and_assoc}
use Rattle.std.specs.Int.Bits.{and_self}
use Rattle.profile.specs.declared.conditions.Cond.{Cond}
use Rattle.profile.specs.declared.conditions.Op.{Op}
use Rattle.profile.specs.declared.conditions.Op.TheVariants.{MaskedEq}
use Rattle.profile.specs.Operator.{Compares, mask_of}
use Rattle.profile.specs.Condition.{IsCondition, Meets}
use Rattle.widths.specs.declared.narrowing.patterns.Pattern.{Pattern}
use Rattle.widths.specs.Counts.{most_by}
use Rattle.widths.specs.Narrowed.{Has}
use Rattle.widths.specs.Patterns.{HasPattern}
use Rattle.widths.specs.Parts.{cut, IsLow, ArePatterns, AreOfPatterns, AreParts}
use Rattle.profile.specs.declared.rules.Rule.{Rule}
use Rattle.widths.specs.Cutting.{with_each, extended, AreCombined, IsLike, AreCut}
use Rattle.widths.proofs.HasLaws.{Has-left, Has-right, Has-cases, Has-nil, Has-one, one-Has, Has-map}
use Rattle.widths.proofs.CutLaws.{all_from}
use Rattle.widths.proofs.CountLaws.{most_low, most_wide}
use Rattle.widths.proofs.RuleLaws.{cut_low, cut_wide}

-- a list with one more part behind it
pub extend_more : {V : Type 0} (f : V → List Cond) (olds made news : List V) (x : V) (parts : List Cond) (i : ℕ) (d : Cond) (cs : List Cond)
    → i < length parts → map f made ≡ map f olds ++ with_each (take i parts) cs → news ≡ made ++ x ∷ []
    → f x ≡ cs ++ get_or parts i d ∷ [] → map f news ≡ map f olds ++ with_each (take (i + 1) parts) cs
extend_more f olds made news x parts i d cs lt inv items fx =
    ap (map f) items ∙ map-append f made (x ∷ [])
    ∙ ap (λ l. l ++ f x ∷ []) inv
    ∙ append_assoc (map f olds) (with_each (take i parts) cs) (f x ∷ [])
    ∙ ap (λ y. map f olds ++ (with_each (take i parts) cs ++ y ∷ [])) fx
    ∙ ap (λ l. map f olds ++ l) (sym (map_more (λ (e : Cond). cs ++ e ∷ []) parts i d lt))

-- all parts behind one more list
pub extended_more : {V : Type 0} (f : V → List Cond) (made news lists : List V) (parts : List Cond) (i : ℕ) (d : V)
    → i < length lists → map f made ≡ extended parts (map f (take i lists)) → map f news ≡ map f made ++ with_each parts (f (get_or lists i d))
    → map f news ≡ extended parts (map f (take (i + 1) lists))
extended_more f made news lists parts i d lt inv step =
    step ∙ ap (λ l. l ++ with_each parts (f (get_or lists i d))) inv
    ∙ sym (ap (λ l. extended parts l) (map_more f lists i d lt)
    ∙ flat_map-append (with_each parts) (map f (take i lists)) (f (get_or lists i d) ∷ [])
    ∙ ap (λ l. extended parts (map f (take i lists)) ++ l) (one_more (f (get_or lists i d))))
  where
    one_more : (cs : List Cond) → extended parts (cs ∷ []) ≡ with_each parts cs
    one_more cs = append-nil (with_each parts cs)

-- rules with these conditions, one more
pub conds_more : {V W : Type 0} (f : V → List Cond) (g : W → List Cond) (made news : List V) (x : V) (lists : List W) (i : ℕ) (d : W)
    → i < length lists → map f made ≡ map g (take i lists) → news ≡ made ++ x ∷ [] → f x ≡ g (get_or lists i d)
    → map f news ≡ map g (take (i + 1) lists)
conds_more f g made news x lists i d lt inv items fx =
    ap (map f) items ∙ map-append f made (x ∷ [])
    ∙ ap (λ l. l ++ f x ∷ []) inv
    ∙ ap (λ y. map g (take i lists) ++ y ∷ []) fx
    ∙ sym (map_more g lists i d lt)

-- lists of fewer conditions than a rule may have
pub shorter : {V : Type 0} (f : V → List Cond) (made : List V) (conds : List Cond) (i : ℕ) → i < length conds → length conds ≤ 6
    → All (λ ds. map (λ d. d.index) ds ≡ map (λ c. c.index) (take i conds)) (map f made) → All (λ v. length (f v) < 6) made
shorter f made conds i lt few all =
    all_from (λ v. length (f v) < 6) made
    (λ v has.
    let (cs, in-css, same) = Has-map (λ cs. cs ≡ f v) f made (v, has, refl) in
    let its : map (λ (d : Cond). d.index) (f v) ≡ map (λ (c : Cond). c.index) (take i conds) =
    subst (λ ds. map (λ d. d.index) ds ≡ map (λ c. c.index) (take i conds)) same
    (All-contains (λ ds. map (λ d. d.index) ds ≡ map (λ c. c.index) (take i conds)) (map f made) cs all in-css) in
    let as-long = ap length its in
    let one = length-map (f v) (λ (d : Cond). d.index) in
    let two = length-map (take i conds) (λ (c : Cond). c.index) in
    let three = length-take-le i conds (omega (arith, lt)) in
    omega (arith, as-long, one, two, three, lt, few))

-- ---- conditions of patterns

pub patterns_none : (argument : ℕ) → AreOfPatterns argument [] []
patterns_none argument = record {
  meets = λ u. (λ h. absurd (Has-nil (λ d. Meets d u) h), λ h. absurd (Has-nil (HasPattern u) h));
  index = All-nil (λ d. d.index ≡ argument);
  low = λ bits _. All-nil (IsLow bits);
  few = omega arith;
}

pushed_few : (ps : List Pattern) (ds : List Cond) (p : Pattern) (d : Cond) → length ds ≤ length ps → length (ds ++ d ∷ []) ≤ length (ps ++ p ∷ [])
pushed_few ps ds p d le =
    let one = length-append ps (p ∷ []) in
    let two = length-append ds (d ∷ []) in
    omega (arith, one, two, le)

skipped_few : (ps : List Pattern) (ds : List Cond) (p : Pattern) → length ds ≤ length ps → length ds ≤ length (ps ++ p ∷ [])
skipped_few ps ds p le =
    let one = length-append ps (p ∷ []) in
    omega (arith, one, le)

met_by : (op : Op) (value datum u : ℕ) → op ≡ MaskedEq → Compares op value datum u ↔ (bit_and u value ≡ datum)
met_by op value datum u is =
    (λ h. subst (λ (o : Op). Compares o value datum u) is h, λ h. subst (λ (o : Op). Compares o value datum u) (sym is) h)

module _ (argument : ℕ) (ps : List Pattern) (ds : List Cond) (p : Pattern) (before : AreOfPatterns argument ps ds) where
  first : (bits : ℕ) → All (λ q. q.mask < 2 ^ bits) (ps ++ p ∷ []) → All (λ q. q.mask < 2 ^ bits) ps
  first bits all = all_from (λ q. q.mask < 2 ^ bits) ps
      (λ q has. All-contains (λ z. z.mask < 2 ^ bits) (ps ++ p ∷ []) q all (Contains-append_left ps (p ∷ []) q has))

  pub patterns_more : (c : Cond) → c.index ≡ argument → c.op ≡ MaskedEq → c.value ≡ p.mask → c.datum ≡ p.datum
      → AreOfPatterns argument (ps ++ p ∷ []) (ds ++ c ∷ [])
  patterns_more c i o v t = record {
    meets = λ u.
        let old = before.meets u in
        let new = met_by c.op c.value c.datum u o in
        let as-pattern : Meets c u → HasPattern u p = λ m. ap (bit_and u) (sym v) ∙ new.0 m ∙ t in
        let as-cond : HasPattern u p → Meets c u = λ h. new.1 (ap (bit_and u) v ∙ h ∙ sym t) in (
          λ h. elim (Has-cases (λ d. Meets d u) ds (c ∷ []) h) [
            | inl a ↦ Has-left (HasPattern u) ps (p ∷ []) (old.0 a)
            | inr b ↦ Has-right (HasPattern u) ps (p ∷ []) (Has-one (HasPattern u) p (as-pattern (one-Has (λ d. Meets d u) c b)))
          ],
          λ h. elim (Has-cases (HasPattern u) ps (p ∷ []) h) [
            | inl a ↦ Has-left (λ d. Meets d u) ds (c ∷ []) (old.1 a)
            | inr b ↦ Has-right (λ d. Meets d u) ds (c ∷ []) (Has-one (λ d. Meets d u) c (as-cond (one-Has (HasPattern u) p b)))
          ],
        );
    index = All-push (λ d. d.index ≡ argument) ds c before.index i;
    low = λ bits all.
        let mask : p.mask < 2 ^ bits = All-contains (λ q. q.mask < 2 ^ bits) (ps ++ p ∷ []) p all (Contains-push ps p) in
        All-push (IsLow bits) ds c (before.low bits (first bits all)) (record { op = o; mask = subst (λ x. x < 2 ^ bits) (sym v) mask });
    few = pushed_few ps ds p c before.few;
  }

  -- no number has bits that its mask has not
  stray : (u : ℕ) → argument < 6 → ¬ IsCondition argument MaskedEq p.mask p.datum → HasPattern u p → ⊥
  stray u lt none h =
      none (lt, ap (λ x. bit_and x p.mask) (sym h) ∙ and_assoc p.mask u p.mask ∙ ap (bit_and u) (and_self p.mask) ∙ h)

  pub patterns_skip : argument < 6 → ¬ IsCondition argument MaskedEq p.mask p.datum → AreOfPatterns argument (ps ++ p ∷ []) ds
  patterns_skip lt none = record {
    meets = λ u.
        let old = before.meets u in (
          λ h. Has-left (HasPattern u) ps (p ∷ []) (old.0 h),
          λ h. elim (Has-cases (HasPattern u) ps (p ∷ []) h) [
            | inl a ↦ old.1 a
            | inr b ↦ absurd (stray u lt none (one-Has (HasPattern u) p b))
          ],
        );
    index = before.index;
    low = λ bits all. before.low bits (first bits all);
    few = skipped_few ps ds p before.few;
  }

false_true : false ≡ true → ⊥
false_true e = cc

pub missing_some : {A : Type 0} (o : Option A) → o ≡ None → IsSome o → ⊥
missing_some None e h = false_true h
missing_some (Some x) e h = cc

pub patterns_next : (argument : ℕ) (ps : List Pattern) (i : ℕ) (ds : List Cond) (x : Pattern) → i < length ps → get_or ps i x ≡ x
    → AreOfPatterns argument (take i ps ++ x ∷ []) ds → AreOfPatterns argument (take (i + 1) ps) ds
patterns_next argument ps i ds x lt at are =
    subst (λ (qs : List Pattern). AreOfPatterns argument qs ds)
    (sym (take_more ps i x lt ∙ ap (λ (y : Pattern). take i ps ++ y ∷ []) at)) are

-- ---- parts

pub parts_low : (b : ℕ) → b ≤ 32 → (c : Cond) (ps qs : List Pattern) (ds : List Cond) → ArePatterns b (most_by b c.op) (Meets c) ps
    → qs ≡ ps → AreOfPatterns c.index qs ds → AreParts b c ds
parts_low b le c ps qs ds are same of =
    let its : AreOfPatterns c.index ps ds = subst (λ (xs : List Pattern). AreOfPatterns c.index xs ds) same of in
    record {
      meets = λ u.
          let one = its.meets u in
          let two = are.meets u in
          (λ h. subst (Meets c) (sym (cut_low b u le)) (two.0 (one.0 h)), λ h. one.1 (two.1 (subst (Meets c) (cut_low b u le) h)));
      index = its.index;
      low = λ _. its.low b are.low;
      kept = λ lt. absurd (omega (arith, lt, le));
      few = let most = most_low b c le in let one = its.few in let two = are.few in omega (arith, most, one, two);
    }

pub parts_whole : (b : ℕ) → 32 < b → (c : Cond) (ds : List Cond) → ds ≡ c ∷ [] → AreParts b c ds
parts_whole b lt c ds is =
    let its : AreParts b c (c ∷ []) = record {
      meets = λ u. (
        λ h. subst (Meets c) (sym (cut_wide b u lt)) (one-Has (λ d. Meets d u) c h),
        λ h. Has-one (λ d. Meets d u) c (subst (Meets c) (cut_wide b u lt) h),
      );
      index = All-cons (λ d. d.index ≡ c.index) c [] refl (All-nil (λ d. d.index ≡ c.index));
      low = λ le. absurd (omega (arith, lt, le));
      kept = λ _. refl;
      few = let most = most_wide b c lt in omega (arith, most);
    } in
    subst (AreParts b c) (sym is) its

-- ---- lists of conditions

pub longer_is : {V : Type 0} (f : V → List Cond) (longer lent made : List V) (shown parts : List Cond) → map f longer ≡ extended shown (map f lent)
    → shown ≡ parts → lent ≡ made → map f longer ≡ extended parts (map f made)
longer_is f longer lent made shown parts is p m = is ∙ ap (λ x. extended x (map f lent)) p ∙ ap (λ y. extended parts (map f y)) m

pub all_shown : {V : Type 0} (f : V → List Cond) (lists made : List V) (cs conds : List Cond) → lists ≡ made → cs ≡ conds
    → All (λ ds. map (λ d. d.index) ds ≡ map (λ c. c.index) cs) (map f made)
    → All (λ v. map (λ d. d.index) (f v) ≡ map (λ c. c.index) conds) lists
all_shown f lists made cs conds l k all =
    all_from (λ v. map (λ d. d.index) (f v) ≡ map (λ c. c.index) conds) lists
    (λ v has.
    let (ds, in-css, same) = Has-map (λ ds. ds ≡ f v) f made (v, subst (λ xs. Contains xs v) l has, refl) in
    let its : map (λ (d : Cond). d.index) (f v) ≡ map (λ (c : Cond). c.index) cs =
    subst (λ es. map (λ d. d.index) es ≡ map (λ c. c.index) cs) same
    (All-contains (λ es. map (λ d. d.index) es ≡ map (λ c. c.index) cs) (map f made) ds all in-css) in
    its ∙ ap (map (λ (c : Cond). c.index)) k)

pub if_both : {T E : Type 0} (P Q R : T → Type 0) → ((x : T) → P x → Q x → R x) → (r : Result T E) → IfOk r P → IfOk r Q → IfOk r R
if_both P Q R f (Ok x) h k = f x h k
if_both P Q R f (Err e) h k = h

pub cut_rules : {V : Type 0} (f : V → List Cond) (lists made : List V) (plan : List ℕ) (rule : Rule) (conds : List Cond) (qs : List Rule)
    → lists ≡ made → conds ≡ rule.conds.items → AreCombined plan conds (map f made) → All (IsLike rule) qs
    → map (λ q. q.conds.items) qs ≡ map f lists → AreCut plan rule qs
cut_rules f lists made plan rule conds qs l k are like e = record {
  like = like;
  combined = subst (AreCombined plan rule.conds.items) (sym (e ∙ ap (map f) l))
      (subst (λ (x : List Cond). AreCombined plan x (map f made)) k are);
}
