-- Lists that are changed item by item, and seen by a function.
use Rattle.std.proofs.Common.{◌≡◌, ℕ, zero, suc, ◌<◌, ◌≤◌, ◌||◌, Bool, true, false, cond, Option, None, Some, List, [], ◌∷◌, ◌++◌}
use Rattle.std.proofs.Common.{length, get_or, take, drop, set, map, refl, sym, ap, ◌∙◌, arith}
use Rattle.std.specs.Prelude.{find, position, slice_get, option_map, option_and_then, nat_lt, if◌then◌else◌}
use Rattle.std.specs.List.{list_any, position_or_len}
use Rattle.std.proofs.lemmas.Option.{slice_get_past}
use Rattle.std.proofs.lemmas.List.{append-nil, drop_all, take_all}
use Rattle.std.proofs.lemmas.List.Folds.{find_at}
use Rattle.std.proofs.lemmas.Bool.{ltb-false}

-- One more item is changed.
pub map_more : {A B : Type 0} (f : A → B) (g : B → B) (old xs : List A) (i : ℕ) (y d : A)
    → map f xs ≡ map g (map f (take i old)) ++ map f (drop i old) → i < length old → f y ≡ g (f (get_or xs i d))
    → map f (set xs i y) ≡ map g (map f (take (suc i) old)) ++ map f (drop (suc i) old)
map_more f g [] xs i y d e lt h = absurd (omega arith)
map_more f g (o ∷ os) [] zero y d e lt h = absurd (cc)
map_more f g (o ∷ os) [] (suc i) y d e lt h = absurd (cc)
map_more f g (o ∷ os) (x ∷ xs) zero y d e lt h =
    let a : f x ≡ f o = cc in
    let b : map f xs ≡ map f os = cc in
    let k : f y ≡ g (f o) = h ∙ ap g a in cc
map_more f g (o ∷ os) (x ∷ xs) (suc i) y d e lt h =
    let a : f x ≡ g (f o) = cc in
    let b : map f xs ≡ map g (map f (take i os)) ++ map f (drop i os) = cc in
    let k : map f (set xs i y) ≡ map g (map f (take (suc i) os))
    ++ map f (drop (suc i) os) = map_more f g os xs i y d b (omega arith) h in cc

-- No item is left.
pub map_whole : {A B : Type 0} (f : A → B) (g : B → B) (old xs : List A) (i : ℕ)
    → map f xs ≡ map g (map f (take i old)) ++ map f (drop i old) → length old ≤ i → map f xs ≡ map g (map f old)
map_whole f g old xs i e le = rw (take_all i old le, drop_all i old le, append-nil) at e

find-map : {A B : Type 0} (f : A → B) (p : B → Bool) (xs : List A) → find p (map f xs) ≡ option_map f (find (λ x. p (f x)) xs)
find-map f p [] = refl
find-map f p (x ∷ xs) =
    elim (p (f x)) as (λ b. cond b (Some (f x)) (find p (map f xs)) ≡ option_map f (cond b (Some x) (find (λ y. p (f y)) xs))) [
      | true ↦ refl
      | false ↦ find-map f p xs
    ]

within : {A B : Type 0} (f : A → B) (xs : List A) (n : ℕ) (b : Bool) → nat_lt n (length xs) ≡ b
    → option_map f (slice_get xs n) ≡ option_and_then (λ i. option_map f (slice_get xs i)) (cond b (Some n) None)
within f xs n true e = refl
within f xs n false e = ap (option_map f) (slice_get_past xs n (ltb-false n (length xs) e))

-- What is found in a list seen by f is what is seen of the item at the position.
pub find_at_position : {A B : Type 0} (f : A → B) (p : B → Bool) (xs : List A)
    → find p (map f xs) ≡ option_and_then (λ i. option_map f (slice_get xs i)) (position (λ x. p (f x)) xs)
find_at_position {A} f p xs =
    let q : A → Bool = λ x. p (f x) in
    find-map f p xs ∙ ap (option_map f) (find_at q xs) ∙ within f xs (position_or_len q xs) (nat_lt (position_or_len q xs) (length xs)) refl

-- A write through a key of a map, as both maps are seen.
pub written : {A B : Type 0} (f : A → B) (s : B → B) (t : Bool) (w x : A) (o p : Option A) → p ≡ Some x → f w ≡ s (f x)
    → option_map f (cond t (Some w) o) ≡ (if t then option_map s (option_map f p) else option_map f o)
written f s true w x o p e h = ap Some h ∙ sym (ap (λ v. option_map s (option_map f v)) e)
written f s false w x o p e h = refl

pub list_any-map : {A B : Type 0} (f : A → B) (p : B → Bool) (xs : List A) → list_any p (map f xs) ≡ list_any (λ x. p (f x)) xs
list_any-map f p [] = refl
list_any-map f p (x ∷ xs) = ap (λ b. p (f x) || b) (list_any-map f p xs)

-- A write of what is seen alike.
pub written_alike : {A B : Type 0} (f : A → B) (t : Bool) (w x : A) (o p : Option A) → p ≡ Some x → (t ≡ true → o ≡ p)
    → f w ≡ f x → option_map f (cond t (Some w) o) ≡ option_map f o
written_alike f true w x o p e same h = ap Some h ∙ sym (ap (option_map f) (same refl ∙ e))
written_alike f false w x o p e same h = refl
