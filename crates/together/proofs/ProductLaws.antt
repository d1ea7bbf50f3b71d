-- What is said where rules of two sides are met.
use Rattle.std.specs.Prelude.{if◌then◌else◌}
use Rattle.std.proofs.Common.{◌≡◌, ℕ, ◌+◌, ◌-◌, ◌<◌, ◌≤◌, ◌&&◌, not, Bool, true, false, List, [], ◌∷◌, ◌++◌, drop, get_or, length, take, refl, sym, ◌∙◌, ap, arith, subst}
use Rattle.std.proofs.lemmas.List.{map-append, take_all, take_more}
use Rattle.std.proofs.lemmas.Bool.{eqb-true}
use Rattle.profile.specs.Policy.{Policy}
use Rattle.profile.specs.Rule.{argument_of}
use Rattle.profile.specs.Said.{said}
use Rattle.differ.specs.Left.{AreNeverUnlike, AreWithin, are_met, holds_of, side_says}
use Rattle.differ.specs.OnCall.{IsOfCall, bits_of}
use Rattle.differ.specs.declared.direction.Direction.TheVariants.{Any}
use Rattle.differ.specs.declared.left.Part.{Part}
use Rattle.differ.specs.declared.left.Side.{Side}
use Rattle.differ.specs.declared.named.Call.{Call}
use Rattle.differ.proofs.SideLaws.{record_within}
use Rattle.together.specs.OnCall.{AgreesOnCall}
use Rattle.together.specs.Together.{each_said}
use Rattle.together.specs.inner.Walked.{SaysAll}
use Rattle.together.specs.Word.{word_of}
use Rattle.together.specs.declared.way.Way.{Way}

and_assoc : (a b c : Bool) → (a && (b && c)) ≡ ((a && b) && c)
and_assoc true b c = refl
and_assoc false b c = refl

pub met_both : (these those : List Part) (a : ℕ → ℕ) → are_met (these ++ those) a ≡ (are_met these a && are_met those a)
met_both [] those a = refl
met_both (p ∷ these) those a =
    ap (λ b. holds_of a p && b) (met_both these those a) ∙ and_assoc (holds_of a p) (are_met these a) (are_met those a)

-- a rule more is said under the same parts
pub under_more : (way : Way) (m n : Bool) (v x w old s : ℕ) → old ≡ (if m then word_of way (v ∷ w ∷ []) else s)
    → (if m && n then word_of way (x ∷ w ∷ []) else old) ≡ (if m then word_of way ((if n then x else v) ∷ w ∷ []) else s)
under_more way true true v x w old s is = refl
under_more way true false v x w old s is = is
under_more way false n v x w old s is = is

-- a group of rules more
pub group_more : (way : Way) (m : Bool) (u v w old : ℕ) → old ≡ word_of way (u ∷ v ∷ [])
    → (if m then word_of way (u ∷ w ∷ []) else old) ≡ word_of way (u ∷ (if m then w else v) ∷ [])
group_more way true u v w old is = refl
group_more way false u v w old is = is

-- a rule more, by its own verdict
pub alone_more : (way : Way) (m : Bool) (v w old : ℕ) → old ≡ word_of way (v ∷ [])
    → (if m then word_of way (w ∷ []) else old) ≡ word_of way ((if m then w else v) ∷ [])
alone_more way true v w old is = refl
alone_more way false v w old is = is

not_false : (b : Bool) → not b ≡ false → b ≡ true
not_false true h = refl
not_false false h = sym h

-- the profile agrees, where both sides never say unlike verdicts
pub agrees : (way : Way) (ps : List Policy) (q : Policy) (call : Call) (one other : Side) (bits : ℕ) → bits ≡ bits_of call.token
    → SaysAll way ps call one → ((r : List ℕ) → IsOfCall call.token call.nr r → side_says other (argument_of r) ≡ said q r)
    → AreNeverUnlike Any bits 0 bits one other → AgreesOnCall way ps q call.token call.nr
agrees way ps q call one other bits width first second never = λ r of.
    let a : ℕ → ℕ = argument_of r in
    let within : AreWithin bits 0 bits a = subst (λ k. AreWithin k 0 k a) (sym width) (record_within call.token call.nr r of) in
    let same : side_says one a ≡ side_says other a = eqb-true (side_says one a) (side_says other a) (not_false _ (never a within)) in
    sym (second r of) ∙ sym same ∙ first r of

-- one profile more
pub said_next : (ps : List Policy) (i : ℕ) (p : Policy) (r : List ℕ) → i < length ps → p ≡ get_or ps i p
    → each_said (take (i + 1) ps) r ≡ each_said (take i ps) r ++ said p r ∷ []
said_next ps i p r lt is =
    ap (λ l. each_said l r) (take_more ps i p lt)
    ∙ map-append (λ x. said x r) (take i ps) (get_or ps i p ∷ [])
    ∙ ap (λ x. each_said (take i ps) r ++ said x r ∷ []) (sym is)

-- a list by its first element and the others
pub first_and_others : (ps : List Policy) (p : Policy) → 1 ≤ length ps → p ≡ get_or ps 0 p → p ∷ take (length ps - 1) (drop 1 ps) ≡ ps
first_and_others [] p le is = absurd (omega (arith, le))
first_and_others (x ∷ ps) p le is =
    ap (λ y. y ∷ take (length (x ∷ ps) - 1) ps) is ∙ ap (λ l. x ∷ l) (take_all (length (x ∷ ps) - 1) ps (omega arith))
