-- A filter above another.
use Rattle.std.proofs.Common.{◌≡◌, ◌+◌, ℕ, zero, suc, Bool, true, false, List, [], ◌∷◌, ◌++◌, length, refl, ap, sym, ◌∙◌, arith, append_assoc, subst, drop, get_or, length-drop, ◌<◌, ◌-◌}
use Rattle.std.specs.Prelude.{Some}
use Rattle.std.specs.List.{list_all}
use Rattle.std.proofs.lemmas.List.{drop_more}
use Rattle.std.proofs.lemmas.List.Elements.{All-nil}
use Rattle.bpf_insn.specs.declared.instruction.Insn.{Insn}
use Rattle.bpf_insn.specs.Machine.{Ends, Goes, Registers, Step, Stuck, start, step}
use Rattle.flatten.specs.declared.turns.Turn.{Turn}
use Rattle.flatten.specs.declared.turns.Turn.TheVariants.{Answers, Passes}
use Rattle.flatten.specs.declared.places.Turned.{Turned}
use Rattle.flatten.specs.Unflat.{is_plain, is_return}
use Rattle.flatten.specs.inner.Turns.{AreTurned, AreTurns, ArePlain, IsAbove, IsMore, IsTurn, IsTurned, IsTurnedBy, both, given, insn_of}
use Rattle.flatten.proofs.RunLaws.{Quiet, Seen, behind, first_plain, from_step, goes_on, jumps, rest_plain, returns, seen}
use Rattle.flatten.proofs.TurnLaws.{both_true, jump_plain, plain_append, return_plain}

-- a return, and what stands in its place
pub turned_at : (older area : List Insn) (left : ℕ) (i o : Insn) (turn : Turn) → is_return i ≡ true → IsTurn older area i.k turn
    → o ≡ insn_of turn left → IsTurned older area left i o
turned_at older area left i o turn e is at = subst (λ b. IsTurnedBy b older area left i o) (sym e) (turn, is, at)

-- as many instructions as before
pub same_length : (older area p q : List Insn) → AreTurned older area p q → length q ≡ length p
same_length older area [] [] h = refl
same_length older area [] (o ∷ q) h = absurd h
same_length older area (i ∷ p) [] h = absurd h
same_length older area (i ∷ p) (o ∷ q) h = ap suc (same_length older area p q h.1)

-- what stands in the place of a plain instruction is plain
turned_plain : (b : Bool) (older area : List Insn) (left : ℕ) (i o : Insn) → IsTurnedBy b older area left i o → is_plain i ≡ true → is_plain o ≡ true
turned_plain true older area left i o (Answers c, is, e) h = ap is_plain e ∙ return_plain c
turned_plain true older area left i o (Passes at, is, e) h = ap is_plain e ∙ jump_plain (left + at)
turned_plain false older area left i o e h = ap is_plain e ∙ h

pub all_plain : (older area p q : List Insn) → AreTurned older area p q → ArePlain p → ArePlain q
all_plain older area [] [] h g = refl
all_plain older area [] (o ∷ q) h g = absurd h
all_plain older area (i ∷ p) [] h g = absurd h
all_plain older area (i ∷ p) (o ∷ q) h g =
    both_true (is_plain o) (list_all is_plain q) (turned_plain (is_return i) older area (length p) i o h.0 (first_plain i p g))
    (all_plain older area p q h.1 (rest_plain i p g))

-- the verdict that counts is given where the newer filter gives one
module _ (older area : List Insn) (r : List ℕ) (v : ℕ) (below : given older 0 start r ≡ Some v) where
  Follows : List Insn → List Insn → Type 0
  Follows p q =
      (pc : ℕ) (s : Registers) (w : ℕ) → s.scratch ≡ start.scratch → given p pc s r ≡ Some w → given (q ++ area) pc s r ≡ Some (both w v)

  quiet_on : (done : Step) (p q : List Insn) (s : Registers) (w : ℕ) → s.scratch ≡ start.scratch
      → ((pc : ℕ) (t : Registers) → t.scratch ≡ start.scratch → given p pc t r ≡ Some w → given (q ++ area) pc t r ≡ Some (both w v))
      → Quiet done s → from_step done p r ≡ Some w → from_step done (q ++ area) r ≡ Some (both w v)
  quiet_on (Ends k) p q s w empty on quiet h = absurd quiet
  quiet_on (Goes skip t) p q s w empty on quiet h =
      goes_on (q ++ area) skip t r ∙ on skip t (quiet ∙ empty) (sym (goes_on p skip t r) ∙ h)
  quiet_on Stuck p q s w empty on quiet h = cc

  by_turn : (turn : Turn) (p q : List Insn) (k : ℕ) (s : Registers) → length q ≡ length p → s.scratch ≡ start.scratch
      → IsTurn older area k turn → from_step (step r (insn_of turn (length p)) s) (q ++ area) r ≡ Some (both k v)
  by_turn (Answers c) p q k s size empty is =
      ap (λ done. from_step done (q ++ area) r) (returns c s r) ∙ ap Some (sym (is r v below))
  by_turn (Passes at) p q k s size empty is =
      let there : length p + at ≡ length q + at = ap (λ n. n + at) (sym size) in
      ap (λ done. from_step done (q ++ area) r) (jumps (length p + at) s r)
      ∙ goes_on (q ++ area) (length p + at) s r
      ∙ behind q area (length p + at) at s r there
      ∙ is.1 r s v empty below

  first_turned : (b : Bool) (i o : Insn) (p q : List Insn) (s : Registers) (w : ℕ) → length q ≡ length p → s.scratch ≡ start.scratch
      → ((pc : ℕ) (t : Registers) → t.scratch ≡ start.scratch → given p pc t r ≡ Some w → given (q ++ area) pc t r ≡ Some (both w v))
      → IsTurnedBy b older area (length p) i o → Seen b (step r i s) i s → from_step (step r i s) p r ≡ Some w
      → from_step (step r o s) (q ++ area) r ≡ Some (both w v)
  first_turned true i o p q s w size empty on (turn, is, e) seen h =
      let same : Some i.k ≡ Some w = ap (λ done. from_step done p r) (sym seen) ∙ h in
      let k : i.k ≡ w = cc in
      ap (λ x. from_step (step r x s) (q ++ area) r) e ∙ by_turn turn p q i.k s size empty is ∙ ap (λ n. Some (both n v)) k
  first_turned false i o p q s w size empty on e seen h =
      ap (λ x. from_step (step r x s) (q ++ area) r) e ∙ quiet_on (step r i s) p q s w empty on seen h

  follows : (p q : List Insn) → ArePlain p → AreTurned older area p q → (pc : ℕ) (s : Registers) (w : ℕ) → s.scratch ≡ start.scratch
      → given p pc s r ≡ Some w → given (q ++ area) pc s r ≡ Some (both w v)
  follows [] q plain h pc s w empty g = cc
  follows (i ∷ p) [] plain h pc s w empty g = absurd h
  follows (i ∷ p) (o ∷ q) plain h (suc pc) s w empty g = follows p q (rest_plain i p plain) h.1 pc s w empty g
  follows (i ∷ p) (o ∷ q) plain h zero s w empty g =
      first_turned (is_return i) i o p q s w (same_length older area p q h.1) empty
      (λ pc t e f. follows p q (rest_plain i p plain) h.1 pc t w e f) h.0 (seen i r s (first_plain i p plain)) g

pub is_above : (newer older area q program : List Insn) → ArePlain newer → AreTurned older area newer q → program ≡ q ++ area
    → IsAbove newer older program
is_above newer older area q program plain h e = λ r w v g f.
    ap (λ p. given p 0 start r) e ∙ follows older area r v f newer q plain h 0 start w refl g

pub above_plain : (newer older area q program : List Insn) → ArePlain newer → AreTurned older area newer q → ArePlain area → program ≡ q ++ area
    → ArePlain program
above_plain newer older area q program plain h g e = subst ArePlain (sym e) (plain_append q area (all_plain older area newer q h plain) g)

-- ---- the instructions in turn

-- those so far, and what may stand in the places of the others, whatever is added to the area
pub SoFar : List Insn → List Insn → List Insn → List Insn → List Insn → Type 0
SoFar older area newer left q =
    (more_ rest : List Insn) → AreTurned older (area ++ more_) left rest → AreTurned older (area ++ more_) newer (q ++ rest)

pub begins : (older area newer q : List Insn) → q ≡ [] → SoFar older area newer newer q
unfolding SoFar
begins older area newer q e = λ more_ rest h. subst (λ l. AreTurned older (area ++ more_) newer (l ++ rest)) (sym e) h

pub goes_further : (older area new newer p left q pushed : List Insn) (i o : Insn) → IsMore area new → p ≡ i ∷ left
    → ((more_ : List Insn) → IsTurned older (new ++ more_) (length left) i o) → pushed ≡ q ++ o ∷ [] → SoFar older area newer p q
    → SoFar older new newer left pushed
unfolding SoFar
goes_further older area new newer p left q pushed i o h begins one e so = λ more_ rest turned.
    let parts : new ++ more_ ≡ area ++ (h.added ++ more_) = ap (λ l. l ++ more_) h.is ∙ append_assoc area h.added more_ in
    let both_ : AreTurned older (new ++ more_) (i ∷ left) (o ∷ rest) = (one more_, turned) in
    let here : AreTurned older (area ++ (h.added ++ more_)) p (o ∷ rest) =
    subst (λ l. AreTurned older (area ++ (h.added ++ more_)) l (o ∷ rest)) (sym begins)
    (subst (λ l. AreTurned older l (i ∷ left) (o ∷ rest)) parts both_) in
    let all : AreTurned older (new ++ more_) newer (q ++ o ∷ rest) =
    subst (λ l. AreTurned older l newer (q ++ o ∷ rest)) (sym parts) (so (h.added ++ more_) (o ∷ rest) here) in
    let joined : pushed ++ rest ≡ q ++ o ∷ rest = ap (λ l. l ++ rest) e ∙ append_assoc q (o ∷ []) rest in
    subst (λ l. AreTurned older (new ++ more_) newer l) (sym joined) all

append_nil : (p : List Insn) → p ++ [] ≡ p
append_nil [] = refl
append_nil (i ∷ p) = ap (λ q. i ∷ q) (append_nil p)

pub ends : (older area newer left q : List Insn) → left ≡ [] → SoFar older area newer left q → AreTurned older area newer q
unfolding SoFar
ends older area newer left q none so =
    let nothing : AreTurned older (area ++ []) left [] = subst (λ l. AreTurned older (area ++ []) l []) (sym none) tt in
    subst (λ l. AreTurned older l newer q) (append_nil area)
    (subst (λ l. AreTurned older (area ++ []) newer l) (append_nil q) (so [] [] nothing))

-- what was added in two steps
pub more_twice : (a b c : List Insn) → IsMore a b → IsMore b c → IsMore a c
more_twice a b c h g = record {
  added = h.added ++ g.added;
  is = g.is ∙ ap (λ l. l ++ g.added) h.is ∙ append_assoc a h.added g.added;
  plain = g.plain;
  small = g.small;
}

pub nothing_added : (area : List Insn) → area ≡ [] → IsMore [] area
nothing_added area e = subst (IsMore []) (sym e) (record { added = []; is = refl; plain = refl; small = omega arith })

pub no_turns : (older area : List Insn) (turns : List Turned) → turns ≡ [] → AreTurns older area turns
no_turns older area turns e = subst (AreTurns older area) (sym e) (λ more_. All-nil (λ (t : Turned). IsTurn older (area ++ more_) t.word t.turn))

-- the same at a place of the newer filter
pub goes_at : (older area new newer q pushed : List Insn) (place : ℕ) (d o : Insn) → IsMore area new → place < length newer
    → ((more_ : List Insn) → IsTurned older (new ++ more_) (length newer - 1 - place) (get_or newer place d) o) → pushed ≡ q ++ o ∷ []
    → SoFar older area newer (drop place newer) q → SoFar older new newer (drop (place + 1) newer) pushed
goes_at older area new newer q pushed place d o h lt one e so =
    let size : length newer - 1 - place ≡ length (drop (place + 1) newer) = omega (arith, length-drop (place + 1) newer, lt) in
    goes_further older area new newer (drop place newer) (drop (place + 1) newer) q pushed (get_or newer place d) o h (drop_more newer place d lt)
    (λ more_. subst (λ n. IsTurned older (new ++ more_) n (get_or newer place d) o) size (one more_)) e so
