use Rattle.std.proofs.Common.{◌≡◌, ◌<◌, ◌++◌, ℕ, Bool, List, [], ◌∷◌, length, refl, ap, sym, ◌∙◌, arith}
use Rattle.std.proofs.lemmas.List.{append-nil}
use Rattle.compare.specs.Outcome.{arguments_from}
use Rattle.compare.proofs.text.put_arguments.Goals as goal

-- of no argument nothing is told
none_left : (begun : Bool) (j : ℕ) (asked : List Bool) (args : List ℕ) → length args < 1 → arguments_from begun j asked args ≡ []
none_left begun j [] args few = refl
none_left begun j (a ∷ asked) [] few = refl
none_left begun j (a ∷ asked) (u ∷ args) few = absurd (omega (arith, few))

-- so all of them are told
all_told : (text whole rest : List ℕ) → text ++ rest ≡ whole → rest ≡ [] → text ≡ whole
all_told text whole rest told none = sym (append-nil text) ∙ ap (λ (r : List ℕ). text ++ r) (sym none) ∙ told

pub returns : goal.returns
returns c =
    all_told _ _ _ c.loop-args.invariant.told
    (none_left c.loop-args.begun c.loop-args.index c.loop-args.asked.now c.loop-args.args.now c.in_default.len_below)
