-- Lists of values, and the data that they stand for.
use Rattle.std.proofs.Common.{◌≡◌, List, [], ◌∷◌, ◌||◌, Bool, map, refl, ap, sym}
use Rattle.std.specs.List.{list_any}
use Rattle.std.proofs.lemmas.List.Folds.{fold-map}
use Rattle.std.specs.Prelude.{ℕ, ◌+◌, count_by, cond}
use Rattle.std.specs.Borrow.{Bor}
use Rattle.json.specs.Strict.{keys}
use Rattle.json.specs.Value.{value_view, items_view, members_view}
use Rattle.json.specs.declared.value.Value.{Value}
use Rattle.section.specs.Members.{elements}

-- one of the images has it where one of the elements has an image that does
pub any_of_map : {X Y : Type 0} (f : X → Y) (p : Y → Bool) (xs : List X) → list_any (λ x. p (f x)) xs ≡ list_any p (map f xs)
any_of_map f p [] = refl
any_of_map f p (x ∷ xs) = ap (λ b. p (f x) || b) (any_of_map f p xs)

-- as many of the images have it as there are elements with such an image
pub count_of_map : {X Y : Type 0} (f : X → Y) (p : Y → Bool) (xs : List X) → count_by (λ x. p (f x)) xs ≡ count_by p (map f xs)
count_of_map f p xs = sym (fold-map (λ n y. n + cond (p y) 1 0) f 0 xs)

-- the keys of the members of an object, and the members of a list
pub keys_of_view : {A : Type 0} (ms : List (Bor (List ℕ) × Value A)) → keys (members_view ms) ≡ map (λ m. m.0.now) ms
keys_of_view [] = refl
keys_of_view (m ∷ ms) = ap (λ ks. m.0.now ∷ ks) (keys_of_view ms)

pub elements_of_view : {A : Type 0} (vs : List (Value A)) → elements (items_view vs) ≡ map value_view vs
elements_of_view [] = refl
elements_of_view (v ∷ vs) = ap (λ js. value_view v ∷ js) (elements_of_view vs)
