-- Rules whose arguments can have all their numbers are the lowered rules.
use Rattle.std.proofs.Common.{◌≡◌, ℕ, ◌+◌, ◌%◌, bit_and, true, false, map, ◌^◌, ◌<◌, ◌≤◌, List, [], ◌∷◌, ◌++◌, take, refl, sym, ◌∙◌, ap, subst, arith}
use Rattle.std.specs.List.{AllZip}
use Rattle.std.proofs.Math.Pow.{pow_mono}
use Rattle.std.proofs.lemmas.List.Elements.{All-head, All-tail, AllZip-push}
use Rattle.std.proofs.Math.Nat.{mod-eq_of_lt}
use Rattle.std.proofs.lemmas.Nat.{and_mod, pow_pos}
use Rattle.profile.specs.Operator.{mask_of}
use Rattle.profile.specs.declared.conditions.Cond.{Cond}
use Rattle.profile.specs.declared.conditions.Op.{Op}
use Rattle.profile.specs.declared.conditions.Op.TheVariants.{Ne, Lt, Le, Eq, Ge, Gt, MaskedEq}
use Rattle.profile.specs.declared.rules.Rule.{Rule}
use Rattle.widths.specs.Lowered.{FittingStay, IsLowered, RuleFits, StandsFor}
use Rattle.widths.specs.Lowered.IsLowered.{stays as rule_stays, changes}
use Rattle.widths.specs.Lowered.StandsFor.{stays, left, cut}

-- an argument of so many bits can have each number of fewer
pub fits_wider : (n a b : ℕ) → n < 2 ^ a → a ≤ b → n < 2 ^ b
fits_wider n a b lt le = omega (arith, lt, pow_mono le)

-- one more condition that stands for one
pub one_more_stands : (token nr i : ℕ) (lowers cs : List Cond) (d c : Cond) → AllZip (StandsFor token nr) lowers (take i cs)
    → take (i + 1) cs ≡ take i cs ++ c ∷ [] → StandsFor token nr d c → AllZip (StandsFor token nr) (lowers ++ d ∷ []) (take (i + 1) cs)
one_more_stands token nr i lowers cs d c each more stands =
    subst (AllZip (StandsFor token nr) (lowers ++ d ∷ [])) (sym more) (AllZip-push (StandsFor token nr) lowers (take i cs) d c each stands)

one_stays : (lower rule : Rule) → RuleFits rule → IsLowered lower rule → lower ≡ rule
one_stays lower rule fit (rule_stays has same) = same
one_stays lower rule fit (changes unfit its) = absurd (unfit fit)

pub fitting_stay : FittingStay
fitting_stay [] [] fit each = refl
fitting_stay [] (y ∷ ys) fit each = absurd each
fitting_stay (x ∷ xs) [] fit each = absurd each
fitting_stay (x ∷ xs) (y ∷ ys) fit (first, rest) =
    ap (λ z. z ∷ xs) (one_stays x y (All-head RuleFits y ys fit) first)
    ∙ ap (λ zs. y ∷ zs) (fitting_stay xs ys (All-tail RuleFits y ys fit) rest)

-- ---- a datum has no stray bit where it is cut with its mask

zero_cut : (k : ℕ) → 0 ≡ 0 % 2 ^ k
zero_cut k = sym (mod-eq_of_lt (pow_pos k))

mask_cut : (op : Op) (v k : ℕ) → mask_of op (v % 2 ^ k) ≡ mask_of op v % 2 ^ k
mask_cut Ne v k = zero_cut k
mask_cut Lt v k = zero_cut k
mask_cut Le v k = zero_cut k
mask_cut Eq v k = zero_cut k
mask_cut Ge v k = zero_cut k
mask_cut Gt v k = zero_cut k
mask_cut MaskedEq v k = refl

pub no_stray_cut : (op : Op) (v d k : ℕ) → bit_and d (mask_of op v) ≡ d → bit_and (d % 2 ^ k) (mask_of op (v % 2 ^ k)) ≡ d % 2 ^ k
no_stray_cut op v d k none =
    ap (bit_and (d % 2 ^ k)) (mask_cut op v k) ∙ sym (and_mod d (mask_of op v) k) ∙ ap (λ x. x % 2 ^ k) none

pub not_both : false ≡ true → ⊥
not_both e = cc

-- ---- conditions that stand for others are on the same arguments

one_index : (token nr : ℕ) (d c : Cond) → StandsFor token nr d c → d.index ≡ c.index
one_index token nr d c (stays fit is) = ap (λ x. x.index) is
one_index token nr d c (left narrow is) = ap (λ x. x.index) is
one_index token nr d c (cut unfit is) = is.index

pub same_indexes : (token nr : ℕ) (ds cs : List Cond) → AllZip (StandsFor token nr) ds cs → map (λ d. d.index) ds ≡ map (λ c. c.index) cs
same_indexes token nr [] [] each = refl
same_indexes token nr [] (c ∷ cs) each = absurd each
same_indexes token nr (d ∷ ds) [] each = absurd each
same_indexes token nr (d ∷ ds) (c ∷ cs) (first, rest) =
    ap (λ i. i ∷ map (λ x. x.index) ds) (one_index token nr d c first)
    ∙ ap (λ is. c.index ∷ is) (same_indexes token nr ds cs rest)
