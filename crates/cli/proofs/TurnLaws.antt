-- Lists side by side, and bundles in order.
use Rattle.std.proofs.Common.{◌≡◌, ℕ, ◌+◌, ◌<◌, List, [], ◌∷◌, ◌++◌, length, take, drop, get_or, refl, ap, sym, subst, ◌∙◌, arith}
use Rattle.std.proofs.Common.{add-one, true, false}
use Rattle.std.proofs.Math.Seq.{drop-cons}
use Rattle.std.proofs.lemmas.List.{take-append-drop, take_more}
use Rattle.std.specs.Prelude.{Result, Ok, Err, is_err, is_ok, if◌then◌else◌}
use Rattle.std.specs.List.{All}
use Rattle.std.proofs.lemmas.List.Elements.{All-cons, All-nil}
use Rattle.machines.specs.declared.arch.Arch.{Arch}
use Rattle.session.specs.declared.bundles.Bundle.{Bundle}
use Rattle.cli.specs.Running.{HasChecked, InTurn, IsBundleOf}

-- a list, cut at a place
pub cut_at : {X : Type 0} (xs : List X) (i : ℕ) (x : X) → i < length xs → x ≡ get_or xs i x → xs ≡ take i xs ++ x ∷ drop (i + 1) xs
cut_at xs i x lt is =
    let parts : drop i xs ≡ get_or xs i x ∷ drop (i + 1) xs = rw (add-one, drop-cons xs i x) refl in
    sym (take-append-drop i xs) ∙ ap (λ l. take i xs ++ l) (parts ∙ ap (λ y. y ∷ drop (i + 1) xs) (sym is))

-- its beginning, by one element longer
pub taken_on : {X : Type 0} (xs : List X) (i : ℕ) (x : X) → i < length xs → x ≡ get_or xs i x → take (i + 1) xs ≡ take i xs ++ x ∷ []
taken_on xs i x lt is = take_more xs i x lt ∙ ap (λ y. take i xs ++ y ∷ []) (sym is)

-- what was pushed without an error
pub of_ok : {T E X : Type 0} (r : Result T E) (xs more less : X) → is_err r ≡ false → xs ≡ (if is_ok r then more else less) → xs ≡ more
of_ok (Ok x) xs more less e h = h
of_ok (Err x) xs more less e h = let no_way : true ≡ false = e in absurd (cc)

-- one more at the end
pub in_turn_more : {X Y : Type 0} (R : ℕ → X → Y → Type 0) (i n : ℕ) (xs : List X) (ys : List Y) (x : X) (y : Y) → n ≡ i + length ys
    → InTurn R i xs ys → R n x y → InTurn R i (xs ++ x ∷ []) (ys ++ y ∷ [])
in_turn_more R i n [] [] x y e h g = let same : n ≡ i = omega arith in (subst (λ k. R k x y) same g, tt)
in_turn_more R i n [] (b ∷ ys) x y e h g = absurd h
in_turn_more R i n (a ∷ xs) [] x y e h g = absurd h
in_turn_more R i n (a ∷ xs) (b ∷ ys) x y e h g = (h.0, in_turn_more R (i + 1) n xs ys x y (omega arith) h.1 g)

-- the same of longer lists
pub in_turn_on : {X Y : Type 0} (R : ℕ → X → Y → Type 0) (xs xs' : List X) (ys ys' : List Y) (x : X) (y : Y) (n : ℕ) → xs' ≡ xs ++ x ∷ []
    → ys' ≡ ys ++ y ∷ [] → length ys ≡ n → InTurn R 1 xs ys → R (n + 1) x y → InTurn R 1 xs' ys'
in_turn_on R xs xs' ys ys' x y n ex ey count h g =
    rw (ex, ey) (in_turn_more R 1 (n + 1) xs ys x y (omega arith) h g)

pub ready : (native : Arch) (i : ℕ) (texts : List (List ℕ)) (bs : List Bundle) → InTurn (IsBundleOf native) i texts bs
    → All (HasChecked native) texts
ready native i [] [] h = All-nil (HasChecked native)
ready native i [] (b ∷ bs) h = absurd h
ready native i (t ∷ ts) [] h = absurd h
ready native i (t ∷ ts) (b ∷ bs) h = All-cons (HasChecked native) t ts (b.checked, h.0.1) (ready native (i + 1) ts bs h.1)
