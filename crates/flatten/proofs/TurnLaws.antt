-- What stands in the place of a return, and a filter above another.
use Rattle.std.proofs.Common.{◌≡◌, ◌≤◌, ◌+◌, ℕ, zero, suc, Bool, true, false, List, [], ◌∷◌, ◌++◌, length, refl, ap, sym, ◌∙◌, arith, append_assoc, subst, take}
use Rattle.std.specs.Prelude.{◌&&◌, Some, if◌then◌else◌, slice_get}
use Rattle.std.specs.List.{All, Contains, list_all}
use Rattle.std.proofs.lemmas.List.Elements.{All-contains, All-push}
use Rattle.bpf_insn.specs.declared.code.Operation.TheVariants.{Jump, ReturnK, SetA, SetX}
use Rattle.bpf_insn.specs.declared.instruction.Insn.{Insn}
use Rattle.bpf_insn.specs.Machine.{start}
use Rattle.bpf_insn.proofs.CodeLaws.{operation_of-code_of}
use Rattle.flatten.specs.declared.turns.Turn.{Turn}
use Rattle.flatten.specs.declared.turns.Turn.TheVariants.{Answers, Passes}
use Rattle.flatten.specs.declared.places.Turned.{Turned}
use Rattle.flatten.specs.Unflat.{is_plain, is_plain_by, is_return}
use Rattle.flatten.specs.inner.Turns.{AreTurns, ArePlain, Fits, IsMore, IsTurn, block, both, given, gives, insn}
use Rattle.flatten.specs.inner.Turns.{jump_over, mapped, mapped_insn, return_of}
use Rattle.flatten.proofs.RunLaws.{behind, blocks, first_plain, more, one_answer, rest_plain}

-- ---- plain instructions

pub both_true : (a b : Bool) → a ≡ true → b ≡ true → (a && b) ≡ true
both_true a b e f = ap (λ x. x && b) e ∙ f

pub plain_append : (p q : List Insn) → ArePlain p → ArePlain q → ArePlain (p ++ q)
plain_append [] q h g = g
plain_append (i ∷ p) q h g =
    both_true (is_plain i) (list_all is_plain (p ++ q)) (first_plain i p h) (plain_append p q (rest_plain i p h) g)

pub return_plain : (k : ℕ) → is_plain (return_of k) ≡ true
return_plain k = ap is_plain_by (operation_of-code_of ReturnK)

pub jump_plain : (k : ℕ) → is_plain (jump_over k) ≡ true
jump_plain k = ap is_plain_by (operation_of-code_of Jump)

mapped_plain : (word : ℕ) (p : List Insn) → ArePlain p → ArePlain (mapped word p)
mapped_plain word [] h = refl
mapped_plain word (i ∷ p) h =
    both_true (is_plain (mapped_insn word i)) (list_all is_plain (mapped word p)) (by_test (is_return i)) (mapped_plain word p (rest_plain i p h)) where
      by_test : (b : Bool) → is_plain (if b then return_of (both word i.k) else i) ≡ true
      by_test true = return_plain (both word i.k)
      by_test false = first_plain i p h

block_plain : (word : ℕ) (p : List Insn) → ArePlain p → ArePlain (block word p)
block_plain word p h =
    let a : is_plain (insn 0x00 0 0 0) ≡ true = ap is_plain_by (operation_of-code_of SetA) in
    let x : is_plain (insn 0x01 0 0 0) ≡ true = ap is_plain_by (operation_of-code_of SetX) in
    both_true (is_plain (insn 0x00 0 0 0)) (list_all is_plain (insn 0x01 0 0 0 ∷ mapped word p)) a
    (both_true (is_plain (insn 0x01 0 0 0)) (list_all is_plain (mapped word p)) x (mapped_plain word p h))

pub added_block : (older area new : List Insn) (word : ℕ) → ArePlain older → ArePlain area → new ≡ area ++ block word older → length new ≤ 4096
    → IsMore area new
added_block older area new word h g e small = record {
  added = block word older;
  is = e;
  plain = subst ArePlain (sym e) (plain_append area (block word older) g (block_plain word older h));
  small = small;
}

pub none_added : (area : List Insn) → ArePlain area → length area ≤ 4096 → IsMore area area
none_added area h small = record { added = []; is = sym (append_nil area); plain = h; small = small } where
  append_nil : (p : List Insn) → p ++ [] ≡ p
  append_nil [] = refl
  append_nil (i ∷ p) = ap (λ q. i ∷ q) (append_nil p)

-- ---- turns

pub passes : (older area new more_ : List Insn) (word at : ℕ) → ArePlain older → at ≡ length area → at ≤ 4096 → new ≡ area ++ block word older
    → IsTurn older (new ++ more_) word (Passes at)
passes older area new more_ word at plain here small e = (
  small,
  λ r s v empty h.
      let own = block word older in
      let parts : new ++ more_ ≡ area ++ (own ++ more_) = ap (λ p. p ++ more_) e ∙ append_assoc area own more_ in
      ap (λ p. given p at s r) parts
      ∙ behind area (own ++ more_) at 0 s r (omega (arith, here))
      ∙ more own more_ 0 s r (both word v) (blocks word r older s v plain empty h),
)

pub answers : (older area : List Insn) (word c : ℕ) → ArePlain older → list_all (gives word c) older ≡ true → IsTurn older area word (Answers c)
answers older area word c plain all = λ r v h. one_answer word c r older 0 start v plain all h

-- what holds of a turn goes on to hold when more is added
pub turns_more : (older area new : List Insn) (turns : List Turned) → IsMore area new → AreTurns older area turns → AreTurns older new turns
turns_more older area new turns h g = λ more_.
    let parts : new ++ more_ ≡ area ++ (h.added ++ more_) = ap (λ p. p ++ more_) h.is ∙ append_assoc area h.added more_ in
    subst (λ (p : List Insn). All (λ t. IsTurn older p t.word t.turn) turns) (sym parts) (g (h.added ++ more_))

pub known_turn : (older area : List Insn) (turns : List Turned) (word : ℕ) (turn : Turn) → AreTurns older area turns
    → Contains turns (record { word = word; turn = turn }) → (more_ : List Insn) → IsTurn older (area ++ more_) word turn
known_turn older area turns word turn h g = λ more_.
    All-contains (λ (t : Turned). IsTurn older (area ++ more_) t.word t.turn) turns (record { word = word; turn = turn }) (h more_) g

pub fits : (older area : List Insn) (word : ℕ) (turn : Turn) → IsTurn older area word turn → Fits turn
fits older area word (Answers c) h = tt
fits older area word (Passes at) h = h.0

-- a word with its turn is added
pub turn_pushed : (older area new : List Insn) (turns pushed : List Turned) (word : ℕ) (turn : Turn) → IsMore area new → AreTurns older area turns
    → ((more_ : List Insn) → IsTurn older (new ++ more_) word turn) → pushed ≡ turns ++ record { word = word; turn = turn } ∷ []
    → AreTurns older new pushed
turn_pushed older area new turns pushed word turn h g one e = λ more_.
    let P : Turned → Type 0 = λ t. IsTurn older (new ++ more_) t.word t.turn in
    let last : Turned = record { word = word; turn = turn } in
    subst (λ (l : List Turned). All P l) (sym e) (All-push P turns last (turns_more older area new turns h g more_) (one more_))

-- the instructions up to one more
pub take_found : (p : List Insn) (n k : ℕ) (i : Insn) → slice_get p n ≡ Some i → k ≡ n + 1 → take k p ≡ take n p ++ i ∷ []
take_found [] n k i found e = cc
take_found (x ∷ p) n zero i found e = absurd (omega (arith, e))
take_found (x ∷ p) zero (suc k) i found e =
    let same : x ≡ i = cc in
    let none : k ≡ 0 = omega (arith, e) in
    ap (λ m. x ∷ take m p) none ∙ ap (λ y. y ∷ []) same
take_found (x ∷ p) (suc n) (suc k) i found e = ap (λ l. x ∷ l) (take_found p n k i found (omega (arith, e)))

pub plain_more : (p : List Insn) (n : ℕ) (i : Insn) → slice_get p n ≡ Some i → is_plain i ≡ true → ArePlain (take n p) → ArePlain (take (n + 1) p)
plain_more p n i found h g =
    subst ArePlain (sym (take_found p n (n + 1) i found refl)) (plain_append (take n p) (i ∷ []) g (both_true (is_plain i) true h refl))
