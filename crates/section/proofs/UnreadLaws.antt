-- Lines, and behind them those of what stands under a key.
use Rattle.std.proofs.Common.{◌≡◌, ◌++◌, ◌∙◌, ℕ, List, Option, Some, None, IfOk, append_assoc, append-nil, ap, subst, sym}
use Rattle.std.specs.Prelude.{Result, Ok, Err}
use Rattle.json.specs.Json.{Json}
use Rattle.section.specs.Unread.{lines_if}

-- something stands there
pub behind_if : {T E : Type 0} (r : Result T E) (old mid new own more : List ℕ) (lines : Json → List ℕ) (o : Option Json) (j : Json)
    → mid ≡ old ++ own → Some j ≡ o → more ≡ lines j → IfOk r (λ _. new ≡ mid ++ more)
    → IfOk r (λ _. new ≡ old ++ (own ++ lines_if lines o))
behind_if (Ok x) old mid new own more lines o j first some same h =
    subst (λ (p : Option Json). new ≡ old ++ (own ++ lines_if lines p)) some
    (h ∙ ap (λ m. m ++ more) first ∙ append_assoc old own more ∙ ap (λ m. old ++ (own ++ m)) same)
behind_if (Err e) old mid new own more lines o j first some same h = h

-- nothing does
pub none_behind : (old mid own : List ℕ) (lines : Json → List ℕ) (o : Option Json) → mid ≡ old ++ own → None ≡ o
    → mid ≡ old ++ (own ++ lines_if lines o)
none_behind old mid own lines o first none =
    subst (λ (p : Option Json). mid ≡ old ++ (own ++ lines_if lines p)) none (first ∙ ap (λ m. old ++ m) (sym (append-nil own)))

-- lines and lines behind them
pub both_behind : {T E : Type 0} (r : Result T E) (old mid new own more : List ℕ) → mid ≡ old ++ own → IfOk r (λ _. new ≡ mid ++ more)
    → IfOk r (λ _. new ≡ old ++ (own ++ more))
both_behind (Ok x) old mid new own more first h = h ∙ ap (λ m. m ++ more) first ∙ append_assoc old own more
both_behind (Err e) old mid new own more first h = h
