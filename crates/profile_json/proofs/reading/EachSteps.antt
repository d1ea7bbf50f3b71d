-- A list that is read value by value, in a loop: what is in front, and what is left.
use Rattle.std.proofs.Common.{◌≡◌, ℕ, ◌<◌, ◌≤◌, ◌+◌, List, [], ◌∷◌, ◌++◌, length, map, drop, get_or, Result, Ok, Err}
use Rattle.std.proofs.Common.{refl, sym, ◌∙◌, ap}
use Rattle.std.proofs.lemmas.List.{append-nil, append_assoc, drop_all, drop_more, map_push}
use Rattle.serde_json.specs.declared.value.Value.{Value}
use Rattle.serde_json.specs.Data.{Data}
use Rattle.serde_json.specs.View.{view}
use Rattle.profile_json.specs.Fault.{Fault}
use Rattle.profile_json.specs.inner.Outcome.{◌>>=◌}
use Rattle.profile_json.specs.inner.Reading.{each, with_front}

module _ {A : Type 0} where
  front_twice : (xs ys : List A) (rest : Result (List A) Fault) → with_front xs (with_front ys rest) ≡ with_front (xs ++ ys) rest
  front_twice xs ys (Ok zs) = ap (λ l. Ok l) (sym (append_assoc xs ys zs))
  front_twice xs ys (Err e) = refl

module _ {A : Type 0} (read : Data → Result A Fault) where
  abbrev Reads : List A → List Value → Result (List A) Fault
  Reads front values = with_front front (each read (map view values))

  left : (front : List A) (values : List Value) (n : ℕ) (value : Value) → n < length values → value ≡ get_or values n value
      → Reads front (drop n values) ≡ Reads front (value ∷ drop (n + 1) values)
  left front values n value some at =
      ap (Reads front) (drop_more values n value some ∙ ap (λ v. v ∷ drop (n + 1) values) (sym at))

  -- the next value gives an element
  pub each_step : (front : List A) (x : A) (new : List A) (values : List Value) (n : ℕ) (value : Value) (r : Result (List A) Fault)
      → n < length values → value ≡ get_or values n value → new ≡ front ++ x ∷ [] → read (view value) ≡ Ok x
      → Reads front (drop n values) ≡ r → Reads new (drop (n + 1) values) ≡ r
  each_step front x new values n value r some at is reads before =
      let rest = each read (map view (drop (n + 1) values)) in
      ap (λ xs. with_front xs rest) is ∙ sym (front_twice front (x ∷ []) rest)
      ∙ ap (λ (o : Result A Fault). with_front front (o >>= (λ y. with_front (y ∷ []) rest))) (sym reads)
      ∙ sym (left front values n value some at) ∙ before

  -- no value is left
  pub each_done : (front : List A) (values : List Value) (n : ℕ) (r : Result (List A) Fault) → length values ≤ n
      → Reads front (drop n values) ≡ r → r ≡ Ok front
  each_done front values n r none before =
      sym before ∙ ap (Reads front) (drop_all n values none) ∙ ap (λ l. Ok l) (append-nil front)

-- one more element, seen by f
pub seen_push : {A X : Type 0} (f : X → A) (found : List X) (x : X) (new : List X) → new ≡ found ++ x ∷ []
    → map f new ≡ map f found ++ f x ∷ []
seen_push f found x new is = ap (map f) is ∙ map_push f found x
