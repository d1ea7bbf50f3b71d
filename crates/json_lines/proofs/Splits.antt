-- What std's splits of a text give.
use Rattle.std.proofs.Common.{◌≡◌, ◌≢◌, ℕ, zero, suc, ◌+◌, ◌≤◌, ◌<◌, true, List, [], ◌∷◌, ◌++◌, take, drop, length, length-append, refl, ap, sym, subst, arith, ◌∙◌}
use Rattle.std.proofs.lemmas.Bool.{eq-eqb}
use Rattle.std.specs.Prelude.{◌==◌, Option, Some, None, MatchOption}
use Rattle.std.specs.Option.{option_map}
use Rattle.std.specs.Str.{IsCharBoundary}
use Rattle.std.specs.Str.Pattern.{FindsText, LacksTextAt}
use denote.Ref.{Bor}
use Rattle.texts.specs.Splits.{behind}
use Rattle.texts.proofs.Splits.{behind_absent}
use Rattle.json_lines.specs.Shapes.{cut, split_on}

pub behind_is : (front rest : List ℕ) → behind front (front ++ rest) ≡ Some rest
behind_is [] rest = refl
behind_is (c ∷ front) rest = let same : (c == c) ≡ true = eq-eqb c c refl in rw same (behind_is front rest)

-- the text is the front and this rest
abbrev Follows : List ℕ → List ℕ → List ℕ → Type 0
Follows front text rest =
    (n : ℕ) × ((n ≡ length front) × (text ≡ front ++ drop n text) × IsCharBoundary text (length front)) × (rest ≡ drop n text)
    × (length rest + n ≡ length text)

pub stripped_is : (front text : List ℕ) (r : Option (Bor (List ℕ)))
    → MatchOption r ((rest : List ℕ) → text ≢ front ++ rest) (λ x. Follows front text x.now)
    → option_map (λ rest. rest.now) r ≡ behind front text
stripped_is front text None h = sym (behind_absent front text h)
stripped_is front text (Some x) h =
    sym (ap (behind front) (h.1.1 ∙ ap (λ (t : List ℕ). front ++ t) (sym h.2)) ∙ behind_is front x.now)

pub split_on_none : (mark text : List ℕ) → ((i : ℕ) → i ≤ length text → LacksTextAt mark text i) → split_on mark text ≡ None
split_on_none mark [] h = refl
split_on_none mark (b ∷ text) h =
    ap (λ o. cut o b (split_on mark text)) (behind_absent mark (b ∷ text) (h 0 (omega arith)))
    ∙ ap (cut None b) (split_on_none mark text (λ i l. h (suc i) (omega arith)))

pub split_on_first : (mark text rest : List ℕ) (i : ℕ) → mark ≢ [] → ((k : ℕ) → k < i → LacksTextAt mark text k)
    → drop i text ≡ mark ++ rest → split_on mark text ≡ Some (take i text, rest)
split_on_first [] text rest i some h e = absurd (some refl)
split_on_first (c ∷ mark) [] rest zero some h e = absurd (cc)
split_on_first (c ∷ mark) [] rest (suc i) some h e = absurd (cc)
split_on_first (c ∷ mark) (b ∷ text) rest zero some h e =
    ap (λ o. cut o b (split_on (c ∷ mark) text)) (ap (behind (c ∷ mark)) e ∙ behind_is (c ∷ mark) rest)
split_on_first (c ∷ mark) (b ∷ text) rest (suc i) some h e =
    ap (λ o. cut o b (split_on (c ∷ mark) text)) (behind_absent (c ∷ mark) (b ∷ text) (h 0 (omega arith)))
    ∙ ap (cut None b) (split_on_first (c ∷ mark) text rest i some (λ k l. h (suc k) (omega arith)) e)

abbrev texts_now : Option (Bor (List ℕ) × Bor (List ℕ)) → Option (List ℕ × List ℕ)
texts_now r = option_map (λ parts. (parts.0.now, parts.1.now)) r

pub split_on_is : (mark text : List ℕ) (r : Option (Bor (List ℕ) × Bor (List ℕ))) → mark ≢ []
    → MatchOption r (FindsText mark text None) (λ x. (i : ℕ) × (j : ℕ) × FindsText mark text (Some (i, j)) × (x.0.now ≡ take i text)
    × (x.1.now ≡ drop j text) × (i ≤ j) × (length x.0.now ≡ i) × (length x.1.now + j ≡ length text))
    → texts_now r ≡ split_on mark text
split_on_is mark text None some h = sym (split_on_none mark text h)
split_on_is mark text (Some x) some h =
    (λ k. Some (h.3 k, h.4 k)) ∙ sym (split_on_first mark text (drop h.1 text) h.0 some h.2.0 h.2.1.split)
