-- A loop that takes the rules of a list, each with its place.
use Rattle.std.proofs.Common.{◌≡◌, ℕ, zero, suc, ◌+◌, ◌<◌, List, [], ◌∷◌, ◌++◌, length, get_or, take, drop, refl, sym, ◌∙◌, ap, arith}
use Rattle.std.proofs.Common.{append_assoc}
use Rattle.std.specs.List.{enumerate_from}
use Rattle.std.proofs.lemmas.List.{take_more, take-append-drop, length_push}
use Rattle.std.proofs.lemmas.Iterator.{YieldsList}
use Rattle.std.proofs.lemmas.Iterator.Adapters.{YieldsList-from_vec}
use Rattle.std.proofs.lemmas.Iterator.Consumers.{YieldsList-at, YieldsList-from_enumerate}
use Rattle.std.specs.Iterator.Adapters.{enumerate_source, enumerate_count, enumerate_steps}
use Rattle.std.specs.declared.iter.Enumerate.{Enumerate}
use Rattle.std.specs.Vec.Iter.{into_iter_items, into_iter_len, into_iter_steps}
use Rattle.std.specs.declared.vec.IntoIter.{IntoIter}
use Rattle.profile.specs.declared.rules.Rule.{Rule}

-- what `given.into_iter().enumerate()` yields
pub road_of : {Z : Type 0} (given : List Rule) (items : IntoIter Rule Z) (pairs turns : Enumerate (IntoIter Rule Z))
    → into_iter_items items ≡ given → into_iter_len items ≡ length given → enumerate_source pairs ≡ items → enumerate_count pairs ≡ 0
    → turns ≡ pairs
    → YieldsList {B = ℕ × Rule} (enumerate_steps (into_iter_steps {X = Rule} {Z = Z})) (λ p. (p.0, p.1)) turns (enumerate_from 0 given)
road_of given items pairs turns rest len source count same =
    YieldsList-at {s = turns} {t = pairs} same
    (YieldsList-from_enumerate {s = pairs} (YieldsList-at source (YieldsList-from_vec {s = items} given rest len)) count)

enumerate_at : (from : ℕ) (xs : List Rule) (n : ℕ) (d : ℕ × Rule) → n < length xs
    → get_or (enumerate_from from xs) n d ≡ (from + n, get_or xs n d.1)
enumerate_at from [] n d lt = absurd (omega (arith, lt))
enumerate_at from (x ∷ xs) zero d lt = ap (λ (k : ℕ). (k, x)) (omega arith)
enumerate_at from (x ∷ xs) (suc n) d lt =
    enumerate_at (from + 1) xs n d (omega (arith, lt)) ∙ ap (λ (k : ℕ). (k, get_or xs n d.1)) (omega arith)

pub length-enumerate : (from : ℕ) (xs : List Rule) → length (enumerate_from from xs) ≡ length xs
length-enumerate from [] = refl
length-enumerate from (x ∷ xs) = ap suc (length-enumerate (from + 1) xs)

-- one turn, after those that have been: the place, the rule, and the list round it
pub record IsTurn (rules : List Rule) (been : List (ℕ × Rule)) (place : ℕ) (rule : Rule) : Type 0 where
  pub place_is : place ≡ length been
  pub within : length been < length rules
  pub next : take (length (been ++ (place, rule) ∷ [])) rules ≡ take (length been) rules ++ rule ∷ []
  pub split : rules ≡ take (length been) rules ++ rule ∷ drop (length been + 1) rules

pub turn_of : (rules : List Rule) (been : List (ℕ × Rule)) (place : ℕ) (rule : Rule)
    → (length been < length (enumerate_from 0 rules)) × ((place, rule) ≡ get_or (enumerate_from 0 rules) (length been) (place, rule))
    → IsTurn rules been place rule
turn_of rules been place rule (lt, at) =
    let n : ℕ = length been in
    let inside : n < length rules = omega (arith, lt, length-enumerate 0 rules) in
    let both : (place, rule) ≡ (0 + n, get_or rules n rule) = at ∙ enumerate_at 0 rules n (place, rule) inside in
    let same : rule ≡ get_or rules n rule = ap (λ (p : ℕ × Rule). p.1) both in
    let more : take (n + 1) rules ≡ take n rules ++ rule ∷ [] =
    take_more rules n rule inside ∙ ap (λ (y : Rule). take n rules ++ y ∷ []) (sym same) in
    record {
      place_is = ap (λ (p : ℕ × Rule). p.0) both ∙ omega arith;
      within = inside;
      next = ap (λ (k : ℕ). take k rules) (length_push been (place, rule)) ∙ more;
      split =
          sym (take-append-drop (n + 1) rules) ∙ ap (λ (xs : List Rule). xs ++ drop (n + 1) rules) more
          ∙ append_assoc (take n rules) (rule ∷ []) (drop (n + 1) rules);
    }
