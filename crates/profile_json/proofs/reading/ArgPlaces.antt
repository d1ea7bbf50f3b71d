-- Conditions of a list, each at its place.
use Rattle.std.proofs.Common.{◌≡◌, ℕ, ◌+◌, ◌==◌, List, [], ◌∷◌, ◌++◌, map, Ok, Err, Option, Some, None, IsSomeAnd, true, inl, inr, refl}
use Rattle.std.proofs.Common.{sym, ◌∙◌, ap, arith}
use Rattle.std.specs.List.{list_any, slice_get}
use Rattle.std.proofs.lemmas.List.{map_push}
use Rattle.serde_json.specs.Data.{Data}
use Rattle.profile.specs.declared.conditions.Cond.{Cond}
use Rattle.profile_json.specs.Fault.{Fault}
use Rattle.profile_json.specs.Parts.{cond_parts}
use Rattle.profile_json.specs.Lookup.{holds}
use Rattle.profile_json.specs.inner.Reading.{arg_of}
use Rattle.profile_json.specs.Place.{IsNamedBefore, ArgBreaksAt}
use Rattle.profile_json.proofs.reading.ArgLaws.{Refused, alone, repeated, arg_ok, arg_err}
use Rattle.profile_json.proofs.reading.Conditions.{any_index}
use Rattle.profile_json.proofs.reading.EntryLaws.{seen_push}

-- each argument that a condition found so far is on is named by a value before this place
abbrev pub AreNamedBefore : List Data → ℕ → List Cond → Type 0
AreNamedBefore ds i found = (n : ℕ) → list_any (λ j. j == n) (map (λ c. c.index) found) ≡ true → IsNamedBefore ds i n

module _ (ds : List Data) (i : ℕ) (d : Data) (at : slice_get ds i ≡ Some d) (found : List Cond) (before : AreNamedBefore ds i found) where
  pub named_push : (c : Cond) (new : List Cond) → new ≡ found ++ c ∷ [] → arg_of (map cond_parts found) d ≡ Ok (cond_parts c)
      → AreNamedBefore ds (i + 1) new
  named_push c new is reads n h =
      let indexes : map (λ (x : Cond). x.index) new ≡ map (λ (x : Cond). x.index) found ++ c.index ∷ []
      = ap (map (λ (x : Cond). x.index)) is ∙ map_push (λ (x : Cond). x.index) found c in
      elim (seen_push (map (λ x. x.index) found) c.index n (ap (list_any (λ j. j == n)) (sym indexes) ∙ h)) [
        | inl earlier ↦ (let e = before n earlier in let lt = e.2 in (e.0, e.1, omega (arith, lt), e.3, e.4))
        | inr this ↦ (i, d, omega arith, at, (arg_ok (map cond_parts found) d (cond_parts c) reads).0.index_is ∙ ap holds this)
      ]

  refused_at : (f : Fault) → Refused (map cond_parts found) d f → ArgBreaksAt ds i f
  refused_at f (alone _ e) = (d, at, inl e)
  refused_at _ (repeated n is seen) = (d, at, inr (refl, (n, is, before n (sym (any_index found n) ∙ seen))))

  pub arg_at : (o : Option Fault) → IsSomeAnd o (λ f. arg_of (map cond_parts found) d ≡ Err f) → IsSomeAnd o (ArgBreaksAt ds i)
  arg_at None h = absurd h
  arg_at (Some f) h = refused_at f (arg_err (map cond_parts found) d f h)
