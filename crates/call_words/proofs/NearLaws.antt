-- The text of the names that are near, one name at a time.
use Rattle.std.proofs.Common.{◌≡◌, ◌+◌, ℕ, List, ◌++◌, sym, ◌∙◌, add-one, ap, append-nil, append_assoc}
use Rattle.std.specs.Prelude.{Option}
use Rattle.call_words.specs.Near.{near_name, near_names}

-- no place has no names
pub names_start : (at : ℕ → Option (List ℕ)) (word : List ℕ) (edits : ℕ) (old : List ℕ) → old ≡ old ++ near_names at 0 word edits
unfolding near_names
names_start at word edits old = sym (append-nil old)

-- the names at one place more
pub names_step : (at : ℕ → Option (List ℕ)) (places : ℕ) (word : List ℕ) (edits : ℕ) (old put new : List ℕ)
    → put ≡ old ++ near_names at places word edits → new ≡ put ++ near_name word edits (at places)
    → new ≡ old ++ near_names at (places + 1) word edits
unfolding near_names
names_step at places word edits old put new put_is new_is =
    new_is ∙ ap (λ t. t ++ near_name word edits (at places)) put_is ∙ append_assoc old (near_names at places word edits) (near_name word edits (at places))
    ∙ ap (λ p. old ++ near_names at p word edits) (sym (add-one places))
