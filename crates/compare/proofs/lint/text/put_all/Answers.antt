use Rattle.std.proofs.Common.{◌≡◌, ◌<◌, ◌+◌, ◌++◌, ◌∷◌, ℕ, List, length, get_or, drop, ap, sym, ◌∙◌, append_assoc}
use Rattle.std.proofs.lemmas.List.{drop_more}
use Rattle.std.specs.List.{flat_map}
use Rattle.std.specs.Prelude.{string_bytes}
use Rattle.compare.specs.LintTold.{past_lines}
use Rattle.compare.proofs.lint.text.put_all.Goals as goal

-- the text of one more item is added
one_more : {X : Type 0} (f : X → List ℕ) (xs : List X) (i : ℕ) (x : X) (old text new : List ℕ) → i < length xs → x ≡ get_or xs i x
    → new ≡ text ++ f x → text ++ flat_map f (drop i xs) ≡ old ++ flat_map f xs
    → new ++ flat_map f (drop (i + 1) xs) ≡ old ++ flat_map f xs
one_more {X} f xs i x old text new within is added told =
    let rest : List ℕ = flat_map f (drop (i + 1) xs) in
    let more : drop i xs ≡ x ∷ drop (i + 1) xs = drop_more xs i x within ∙ ap (λ (y : X). y ∷ drop (i + 1) xs) (sym is) in
    ap (λ (t : List ℕ). t ++ rest) added ∙ append_assoc text (f x) rest ∙ ap (λ (l : List X). text ++ flat_map f l) (sym more) ∙ told

pub loop-past-preserved : goal.loop-past-preserved
loop-past-preserved c =
    one_more (past_lines c.args.way c.args.family c.args.all.now.rules.items c.args.all.now.ends.items) c.args.list.now c.loop-past.past-index c.past-item.result
    (string_bytes c.args.text.now) (string_bytes c.loop-past.text) (string_bytes c.put_past.new.text) c.loop-past-test.true c.past-item.is
    c.in_ok-put_past.ensures c.loop-past.invariant
