-- The first bundle of a name.
use Rattle.std.proofs.Common.{◌≡◌, ℕ, ◌+◌, ◌≤◌, ◌<◌, cond, List, ◌∷◌, length, drop, map, get_or, refl, ap, add-one}
use Rattle.std.proofs.Math.Seq.{drop-cons}
use Rattle.std.proofs.lemmas.List.{drop_all}
use Rattle.std.specs.Prelude.{Some, None}
use Rattle.cert_check.specs.declared.checked.Checked.{Checked}
use Rattle.processes.specs.Views.{same_text}
use Rattle.session.specs.Commands.{first_called}

-- the bundle at this place, or the first after it
pub called-at : {X : Type 0} (view : X → List ℕ × Checked) (name : List ℕ) (xs : List X) (i : ℕ) (d : X) → i < length xs
    → first_called name (map view (drop i xs))
    ≡ cond (same_text name (view (get_or xs i d)).0) (Some (view (get_or xs i d)).1) (first_called name (map view (drop (i + 1) xs)))
called-at {X} view name xs i d lt =
    let parts : drop i xs ≡ get_or xs i d ∷ drop (i + 1) xs = rw (add-one, drop-cons xs i d) refl in
    ap (λ (l : List X). first_called name (map view l)) parts

-- none after the last
pub called-end : {X : Type 0} (view : X → List ℕ × Checked) (name : List ℕ) (xs : List X) (i : ℕ) → length xs ≤ i
    → first_called name (map view (drop i xs)) ≡ None
called-end {X} view name xs i le = ap (λ (l : List X). first_called name (map view l)) (drop_all i xs le)
