-- Arguments and a program are read from fields exactly where the fields are these.
use Rattle.std.proofs.Common.{◌≡◌, ℕ, ◌≤◌, ◌⊎◌, Bool, true, false, cond, List, [], ◌∷◌, ◌++◌, length, refl, ap, sym, ◌∙◌, inl, inr}
use Rattle.std.proofs.Common.{subst, arith}
use Rattle.std.specs.Prelude.{Option, Some, None, option_and_then, codes}
use Rattle.std.specs.Option.{option_map}
use Rattle.std.specs.Str.{bytes_eq}
use Rattle.std.proofs.lemmas.Bool.{both_ways, cond-true}
use Rattle.std.proofs.lemmas.Option.{none-some, same_Some, some_pair_parts}
use Rattle.std.proofs.lemmas.Slice.Eq.{bytes_eq-Decides}
use Rattle.texts.specs.Numbers.{decimal_at}
use Rattle.script.specs.Numbers.{AreBytes, IsNumber}
use Rattle.script.specs.Grammar.{AreArguments, AreProgram}
use Rattle.script.specs.Pairs.{is_paired, spelled_bytes}
use Rattle.script.specs.inner.Reading.{arguments_at, mark, next_at, number_at, program_at}
use Rattle.texts.proofs.Options.{bind_some, map_some, tested}
use Rattle.script.proofs.NumberLaws.{number_at-is, number_at-some}
use Rattle.script.proofs.PairLaws.{bytes-paired, paired-bytes, spelled-some}

-- the arguments end here: there is no field, or a program begins
abbrev pub Stops : List (List ℕ) → Type 0
Stops [] = Unit {0}
Stops (f ∷ fields) = bytes_eq f mark ≡ true

mark_is_no_number : number_at mark ≡ None
unfolding number_at decimal_at
mark_is_no_number = refl

number_is_no_mark : (f : List ℕ) (n : ℕ) → IsNumber f n → bytes_eq f mark ≡ false
number_is_no_mark f n h = by_test (bytes_eq f mark) refl where
  by_test : (t : Bool) → bytes_eq f mark ≡ t → t ≡ false
  by_test false e = refl
  by_test true e =
      let same : f ≡ mark = (bytes_eq-Decides f mark).0 e in
      absurd (none-some n (sym mark_is_no_number ∙ sym (ap number_at same) ∙ number_at-is f n h))

next-stopped : (fields : List (List ℕ)) → Stops fields → next_at fields ≡ Some (0, fields)
next-stopped [] h = refl
next-stopped (f ∷ fields) h = rw h refl

next-number : (f : List ℕ) (n : ℕ) (fields : List (List ℕ)) → IsNumber f n → next_at (f ∷ fields) ≡ Some (n, fields)
next-number f n fields h = rw (number_is_no_mark f n h) (ap (option_map (λ (m : ℕ). (m, fields))) (number_at-is f n h))

next-some : (fields gs : List (List ℕ)) (a : ℕ) → next_at fields ≡ Some (a, gs)
    → (Stops fields × (a ≡ 0) × (gs ≡ fields)) ⊎ ((f : List ℕ) × (fields ≡ f ∷ gs) × IsNumber f a)
next-some [] gs a h = let p = some_pair_parts 0 a [] gs h in inl (tt, sym p.0, sym p.1)
next-some (f ∷ fields) gs a h = by_test (bytes_eq f mark) refl h where
  by_test : (t : Bool) → bytes_eq f mark ≡ t
      → cond {A = Option (ℕ × List (List ℕ))} t (Some (0, f ∷ fields)) (option_map (λ n. (n, fields)) (number_at f)) ≡ Some (a, gs)
      → (Stops (f ∷ fields) × (a ≡ 0) × (gs ≡ f ∷ fields)) ⊎ ((g : List ℕ) × (f ∷ fields ≡ g ∷ gs) × IsNumber g a)
  by_test true e g = let p = some_pair_parts 0 a (f ∷ fields) gs g in inl (e, sym p.0, sym p.1)
  by_test false e g =
      let m = map_some (number_at f) (λ (n : ℕ). (n, fields)) (a, gs) g in
      let value : m.0 ≡ a = ap (λ q. q.0) m.2 in
      let rest : fields ≡ gs = ap (λ q. q.1) m.2 in
      inr (f, ap (λ t. f ∷ t) rest, number_at-some f a (m.1 ∙ ap Some value))

-- the fields are those of the arguments, and then the end
pub record Given (fields : List (List ℕ)) (args : List ℕ) (end : List (List ℕ)) : Type 0 where
  pub given : List (List ℕ)
  pub parts : fields ≡ given ++ end
  pub arguments : AreArguments given args

given-none : (end : List (List ℕ)) → Given end [] end
given-none end = record { given = []; parts = refl; arguments = refl }

-- where the arguments end, there are no fields of arguments
unstarted : (given end : List (List ℕ)) (args : List ℕ) → Stops (given ++ end) → AreArguments given args → given ≡ []
unstarted [] end args stops h = refl
unstarted (g ∷ given) end [] stops h = h
unstarted (g ∷ given) end (a ∷ args) stops h =
    absurd (both_ways (bytes_eq g mark) (number_is_no_mark g a h.0) stops)

given-more : (fields gs end : List (List ℕ)) (a : ℕ) (args : List ℕ) → next_at fields ≡ Some (a, gs) → Given gs args end
    → Given fields (a ∷ args) end
given-more fields gs end a args h g = by_kind (next-some fields gs a h) where
  by_kind : (Stops fields × (a ≡ 0) × (gs ≡ fields)) ⊎ ((f : List ℕ) × (fields ≡ f ∷ gs) × IsNumber f a) → Given fields (a ∷ args) end
  by_kind (inl (stops, zero, same)) =
      let none : g.given ≡ [] = unstarted g.given end args (subst Stops (sym same ∙ g.parts) stops) g.arguments in
      let A : List (List ℕ) → Type 0 = λ t. AreArguments t args in
      record { given = []; parts = sym same ∙ g.parts ∙ ap (λ t. t ++ end) none; arguments = (zero, subst A none g.arguments) }
  by_kind (inr (f, first, number)) =
      record { given = f ∷ g.given; parts = first ∙ ap (λ t. f ∷ t) g.parts; arguments = (number, g.arguments) }

given-next : (fields end : List (List ℕ)) (a : ℕ) (args : List ℕ) → Stops end → Given fields (a ∷ args) end
    → (gs : List (List ℕ)) × (next_at fields ≡ Some (a, gs)) × Given gs args end
given-next fields end a args stops g = by_given g.given g.parts g.arguments where
  by_given : (given : List (List ℕ)) → fields ≡ given ++ end → AreArguments given (a ∷ args)
      → (gs : List (List ℕ)) × (next_at fields ≡ Some (a, gs)) × Given gs args end
  by_given [] parts h = (
    end,
    ap next_at parts ∙ next-stopped end stops ∙ ap (λ (n : ℕ). Some (n, end)) (sym h.0),
    record { given = []; parts = refl; arguments = h.1 },
  )
  by_given (f ∷ given) parts h = (
    given ++ end,
    ap next_at parts ∙ next-number f a (given ++ end) h.0,
    record { given = given; parts = refl; arguments = h.1 },
  )

given-end : (fields end : List (List ℕ)) → Given fields [] end → fields ≡ end
given-end fields end g = g.parts ∙ ap (λ t. t ++ end) g.arguments

-- Six in turn.

abbrev Left : Type 0
Left = ℕ × List (List ℕ)

abbrev Six : Type 0
Six = List ℕ × List (List ℕ)

abbrev after_six : Left → Left → Left → Left → Left → Left → Option Six
after_six a b c d e f = Some (a.0 ∷ b.0 ∷ c.0 ∷ d.0 ∷ e.0 ∷ f.0 ∷ [], f.1)

abbrev after_five : Left → Left → Left → Left → Left → Option Six
after_five a b c d e = option_and_then (λ f. after_six a b c d e f) (next_at e.1)

abbrev after_four : Left → Left → Left → Left → Option Six
after_four a b c d = option_and_then (λ e. after_five a b c d e) (next_at d.1)

abbrev after_three : Left → Left → Left → Option Six
after_three a b c = option_and_then (λ d. after_four a b c d) (next_at c.1)

abbrev after_two : Left → Left → Option Six
after_two a b = option_and_then (λ c. after_three a b c) (next_at b.1)

abbrev after_one : Left → Option Six
after_one a = option_and_then (λ b. after_two a b) (next_at a.1)

arguments_at-in_turn : (fields : List (List ℕ)) → arguments_at fields ≡ option_and_then after_one (next_at fields)
unfolding arguments_at
arguments_at-in_turn fields = refl

pub arguments_at-some : (fields : List (List ℕ)) (q : Six) → arguments_at fields ≡ Some q → Given fields q.0 q.1 × (length q.0 ≡ 6)
arguments_at-some fields q h =
    let a = bind_some (next_at fields) after_one q (sym (arguments_at-in_turn fields) ∙ h) in
    let b = bind_some (next_at a.0.1) (λ b. after_two a.0 b) q a.2 in
    let c = bind_some (next_at b.0.1) (λ c. after_three a.0 b.0 c) q b.2 in
    let d = bind_some (next_at c.0.1) (λ d. after_four a.0 b.0 c.0 d) q c.2 in
    let e = bind_some (next_at d.0.1) (λ e. after_five a.0 b.0 c.0 d.0 e) q d.2 in
    let f = bind_some (next_at e.0.1) (λ f. after_six a.0 b.0 c.0 d.0 e.0 f) q e.2 in
    let end : List (List ℕ) = f.0.1 in
    let g6 = given-more e.0.1 end end f.0.0 [] f.1 (given-none end) in
    let g5 = given-more d.0.1 e.0.1 end e.0.0 _ e.1 g6 in
    let g4 = given-more c.0.1 d.0.1 end d.0.0 _ d.1 g5 in
    let g3 = given-more b.0.1 c.0.1 end c.0.0 _ c.1 g4 in
    let g2 = given-more a.0.1 b.0.1 end b.0.0 _ b.1 g3 in
    let g1 = given-more fields a.0.1 end a.0.0 _ a.1 g2 in
    let same : (a.0.0 ∷ b.0.0 ∷ c.0.0 ∷ d.0.0 ∷ e.0.0 ∷ f.0.0 ∷ [], end) ≡ q = same_Some _ q f.2 in
    let P : Six → Type 0 = λ s. Given fields s.0 s.1 × (length s.0 ≡ 6) in
    subst P same (g1, refl)

arguments_at-six : (fields end : List (List ℕ)) (a b c d e f : ℕ) → Stops end
    → Given fields (a ∷ b ∷ c ∷ d ∷ e ∷ f ∷ []) end → arguments_at fields ≡ Some (a ∷ b ∷ c ∷ d ∷ e ∷ f ∷ [], end)
arguments_at-six fields end a b c d e f stops g =
    let ga = given-next fields end a _ stops g in
    let gb = given-next ga.0 end b _ stops ga.2 in
    let gc = given-next gb.0 end c _ stops gb.2 in
    let gd = given-next gc.0 end d _ stops gc.2 in
    let ge = given-next gd.0 end e _ stops gd.2 in
    let gf = given-next ge.0 end f _ stops ge.2 in
    let pa : Left = (a, ga.0) in
    let pb : Left = (b, gb.0) in
    let pc : Left = (c, gc.0) in
    let pd : Left = (d, gd.0) in
    let pe : Left = (e, ge.0) in
    arguments_at-in_turn fields
    ∙ ap (option_and_then after_one) ga.1
    ∙ ap (option_and_then (λ p. after_two pa p)) gb.1
    ∙ ap (option_and_then (λ p. after_three pa pb p)) gc.1
    ∙ ap (option_and_then (λ p. after_four pa pb pc p)) gd.1
    ∙ ap (option_and_then (λ p. after_five pa pb pc pd p)) ge.1
    ∙ ap (option_and_then (λ p. after_six pa pb pc pd pe p)) gf.1
    ∙ ap (λ t. Some (a ∷ b ∷ c ∷ d ∷ e ∷ f ∷ [], t)) (given-end gf.0 end gf.2)

pub arguments_at-is : (fields end : List (List ℕ)) (args : List ℕ) → Stops end → length args ≡ 6 → Given fields args end
    → arguments_at fields ≡ Some (args, end)
arguments_at-is fields end [] stops six g = absurd (omega arith)
arguments_at-is fields end (a ∷ []) stops six g = absurd (omega arith)
arguments_at-is fields end (a ∷ b ∷ []) stops six g = absurd (omega arith)
arguments_at-is fields end (a ∷ b ∷ c ∷ []) stops six g = absurd (omega arith)
arguments_at-is fields end (a ∷ b ∷ c ∷ d ∷ []) stops six g = absurd (omega arith)
arguments_at-is fields end (a ∷ b ∷ c ∷ d ∷ e ∷ []) stops six g = absurd (omega arith)
arguments_at-is fields end (a ∷ b ∷ c ∷ d ∷ e ∷ f ∷ []) stops six g = arguments_at-six fields end a b c d e f stops g
arguments_at-is fields end (a ∷ b ∷ c ∷ d ∷ e ∷ f ∷ h ∷ args) stops six g = absurd (omega arith)

-- no more fields than arguments
pub length-given-le : (given : List (List ℕ)) (args : List ℕ) → AreArguments given args → length given ≤ length args
length-given-le [] [] h = omega arith
length-given-le [] (a ∷ args) h = omega arith
length-given-le (f ∷ given) [] h = absurd (cc)
length-given-le (f ∷ given) (a ∷ args) h = omega (arith, length-given-le given args h.1)

-- The program behind them.

pub program_at-some : (fields : List (List ℕ)) (p : Option (List ℕ)) → program_at fields ≡ Some p → AreProgram fields p
program_at-some [] p h =
    let P : Option (List ℕ) → Type 0 = λ o. AreProgram [] o in subst P (same_Some None p h) refl
program_at-some (f ∷ []) p h = absurd (cc)
program_at-some (f ∷ digits ∷ []) p h =
    let marked = tested (bytes_eq f mark) (cond (is_paired digits) (Some (Some (spelled_bytes digits))) None) p h in
    let paired = tested (is_paired digits) (Some (Some (spelled_bytes digits))) p marked.1 in
    let some = spelled-some digits paired.0 in
    let P : Option (List ℕ) → Type 0 = λ o. AreProgram (f ∷ digits ∷ []) o in
    subst P (same_Some (Some (spelled_bytes digits)) p paired.1)
    (spells digits (spelled_bytes digits) some.0 some.1 some.2 (ap (λ w. w ∷ digits ∷ []) ((bytes_eq-Decides f mark).0 marked.0))
    (paired-bytes digits paired.0))
  where
    spells : (ds bytes : List ℕ) (b : ℕ) (more : List ℕ) → bytes ≡ b ∷ more → f ∷ digits ∷ [] ≡ codes "prog" ∷ ds ∷ []
        → AreBytes ds bytes → AreProgram (f ∷ digits ∷ []) (Some bytes)
    spells ds [] b more e first k = absurd (cc)
    spells ds (x ∷ bytes) b more e first k = (ds, first, k)
program_at-some (f ∷ digits ∷ g ∷ fields) p h = absurd (cc)

pub program_at-is : (fields : List (List ℕ)) (p : Option (List ℕ)) → AreProgram fields p → program_at fields ≡ Some p
program_at-is fields None h = ap program_at h
program_at-is fields (Some []) h = absurd h
program_at-is fields (Some (b ∷ bytes)) (digits, spelled, pairs) =
    let paired = bytes-paired digits b bytes pairs in
    ap program_at spelled
    ∙ cond-true (is_paired digits) (Some (Some (spelled_bytes digits))) None paired.0
    ∙ ap (λ t. Some (Some t)) (sym paired.1)

pub program-stops : (fields : List (List ℕ)) (p : Option (List ℕ)) → AreProgram fields p → Stops fields
program-stops fields None h = subst Stops (sym h) tt
program-stops fields (Some []) h = absurd h
program-stops fields (Some (b ∷ bytes)) (digits, spelled, pairs) = subst Stops (sym spelled) refl

pub length-program-le : (fields : List (List ℕ)) (p : Option (List ℕ)) → AreProgram fields p → length fields ≤ 2
length-program-le fields None h = omega (arith, ap length h)
length-program-le fields (Some []) h = absurd h
length-program-le fields (Some (b ∷ bytes)) (digits, spelled, pairs) = omega (arith, ap length spelled)
