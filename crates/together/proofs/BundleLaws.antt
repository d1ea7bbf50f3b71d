-- Lists that go with each other, place by place, where both become longer.
use Rattle.std.proofs.Common.{◌≡◌, ℕ, suc, ◌+◌, ◌<◌, List, [], ◌∷◌, ◌++◌, length, map, get_or, take, refl, sym, ◌∙◌, ap, subst}
use Rattle.std.specs.List.{AllZip}
use Rattle.std.proofs.lemmas.List.{map-append, take_more}

zip_push : {A B : Type 0} (R : A → B → Type 0) (xs : List A) (ys : List B) (x : A) (y : B) → AllZip R xs ys → R x y
    → AllZip R (xs ++ x ∷ []) (ys ++ y ∷ [])
zip_push R [] [] x y h r = (r, tt)
zip_push R [] (b ∷ ys) x y h r = absurd h
zip_push R (a ∷ xs) [] x y h r = absurd h
zip_push R (a ∷ xs) (b ∷ ys) x y h r = (h.0, zip_push R xs ys x y h.1 r)

pub zip_length : {A B : Type 0} (R : A → B → Type 0) (xs : List A) (ys : List B) → AllZip R xs ys → length xs ≡ length ys
zip_length R [] [] h = refl
zip_length R [] (b ∷ ys) h = absurd h
zip_length R (a ∷ xs) [] h = absurd h
zip_length R (a ∷ xs) (b ∷ ys) h = ap suc (zip_length R xs ys h.1)

-- one of the first list is taken more, as it is looked at
pub zip_more : {V A B : Type 0} (f : V → A) (R : A → B → Type 0) (xs : List V) (ys : List B) (i : ℕ) (x : V) (y : B) → i < length xs
    → x ≡ get_or xs i x → AllZip R (map f (take i xs)) ys → R (f x) y → AllZip R (map f (take (i + 1) xs)) (ys ++ y ∷ [])
zip_more f R xs ys i x y lt at h r =
    let more : map f (take (i + 1) xs) ≡ map f (take i xs) ++ f x ∷ [] =
    ap (map f) (take_more xs i x lt)
    ∙ map-append f (take i xs) (get_or xs i x ∷ [])
    ∙ ap (λ z. map f (take i xs) ++ f z ∷ []) (sym at) in
    subst (λ l. AllZip R l (ys ++ y ∷ [])) (sym more) (zip_push R (map f (take i xs)) ys (f x) y h r)
