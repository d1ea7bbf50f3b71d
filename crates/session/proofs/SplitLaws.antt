-- A text at its last space.
use Rattle.std.proofs.Common.{◌≡◌, ◌≢◌, ℕ, suc, ◌+◌, ◌<◌, ◌≤◌, Bool, true, false, cond, List, [], ◌∷◌, ◌++◌, length, take, drop, get_or, refl, ap, sym, ◌∙◌, arith, take-append-drop}
use Rattle.std.specs.Prelude.{◌==◌, Option, Some, None, MatchOption}
use Rattle.std.specs.Option.{option_map}
use denote.Ref.{Bor}
use Rattle.std.specs.Str.Pattern.{RFindsChar}
use Rattle.std.proofs.lemmas.Bool.{eqb-true, ne_eqb}
use Rattle.std.proofs.lemmas.Str.Pattern.{NoCharPasses-char, drop_at_char}
use Rattle.texts.specs.Lines.{space}
use Rattle.texts.proofs.Splits.{Lacks}
use Rattle.session.specs.inner.Responding.{last_split, with_byte}

lacks_from_each : (c : ℕ) (bs : List ℕ) → ((i : ℕ) → i < length bs → get_or bs i 0 ≢ c) → Lacks c bs
lacks_from_each c [] h = tt
lacks_from_each c (b ∷ bs) h = (h 0 (omega arith), lacks_from_each c bs (λ i l. h (suc i) (omega arith)))

split_none : (text : List ℕ) → Lacks space text → last_split text ≡ None
split_none [] h = refl
split_none (b ∷ text) h =
    let other : (b == space) ≡ false = ne_eqb b space h.0 in
    rw (split_none text h.1, other) refl

-- where nothing behind a space is one, it is the last
pub split_last : (before behind : List ℕ) → Lacks space behind → last_split (before ++ space ∷ behind) ≡ Some (before, behind)
split_last [] behind h = rw (split_none behind h) refl
split_last (b ∷ before) behind h = rw (split_last before behind h) refl

pub split_parts : (text : List ℕ) (parts : List ℕ × List ℕ) → last_split text ≡ Some parts → text ≡ parts.0 ++ space ∷ parts.1
split_parts [] parts h = absurd (cc)
split_parts (b ∷ text) parts h = by_rest (last_split text) (split_parts text) h where
  at_space : (t : Bool) → (b == space) ≡ t → cond {A = Option (List ℕ × List ℕ)} t (Some ([], text)) None ≡ Some parts
      → b ∷ text ≡ parts.0 ++ space ∷ parts.1
  at_space true e g =
      let same : ([], text) ≡ parts = cc in
      ap (λ x. x ∷ text) (eqb-true b space e) ∙ ap (λ (p : List ℕ × List ℕ). p.0 ++ space ∷ p.1) same
  at_space false e g = absurd (cc)

  by_rest : (o : Option (List ℕ × List ℕ)) → ((q : List ℕ × List ℕ) → o ≡ Some q → text ≡ q.0 ++ space ∷ q.1)
      → with_byte b text o ≡ Some parts → b ∷ text ≡ parts.0 ++ space ∷ parts.1
  by_rest None ih g = at_space (b == space) refl g
  by_rest (Some q) ih g =
      let same : (b ∷ q.0, q.1) ≡ parts = cc in
      ap (λ t. b ∷ t) (ih q refl) ∙ ap (λ (p : List ℕ × List ℕ). p.0 ++ space ∷ p.1) same

-- what `rsplit_once` gives
pub split_is : (text : List ℕ) (r : Option (Bor (List ℕ) × Bor (List ℕ)))
    → MatchOption r (RFindsChar space text None) (λ x. (i : ℕ) × (j : ℕ) × RFindsChar space text (Some (i, j)) × (x.0.now ≡ take i text)
    × (x.1.now ≡ drop j text) × (i ≤ j) × (length x.0.now ≡ i) × (length x.1.now + j ≡ length text))
    → option_map (λ parts. (parts.0.now, parts.1.now)) r ≡ last_split text
split_is text None h = sym (split_none text (lacks_from_each space text (λ i l. NoCharPasses-char space text i h (omega arith) l)))
split_is text (Some x) h =
    let i = h.0 in
    let j = h.1 in
    let behind : Lacks space (drop j text) =
    lacks_from_each space (drop j text) (λ k l. NoCharPasses-char space (drop j text) k h.2.0 (omega arith) l) in
    let cut : text ≡ take i text ++ space ∷ drop j text =
    sym (take-append-drop i text) ∙ ap (λ t. take i text ++ t) (drop_at_char space text i j h.2.1 (omega arith)) in
    let front : List ℕ → Option (List ℕ × List ℕ) = λ t. Some (t, x.1.now) in
    let back : List ℕ → Option (List ℕ × List ℕ) = λ t. Some (take i text, t) in
    ap front h.3 ∙ (ap back h.4
    ∙ (sym (split_last (take i text) (drop j text) behind) ∙ sym (ap last_split cut)))
