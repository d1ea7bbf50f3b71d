-- The calls that are noted for an outline.
use Rattle.std.proofs.Common.{◌≡◌, ℕ, List, [], ◌∷◌, length, sym, ◌∙◌, subst}
use Rattle.std.specs.Prelude.{Some, slice_get, slice_index}
use Rattle.std.specs.List.{All, Any, Contains}
use Rattle.std.proofs.lemmas.List.Elements.{All-cons, All-contains, All-head, All-nil, All-push, All-tail, All-weaker}
use Rattle.machines.specs.declared.arch.Arch.{Arch}
use Rattle.machines.specs.Arch.{token_of}
use Rattle.machines.specs.Numbers.{HasCall}
use Rattle.profile.specs.Policy.{IsClear, Policy}
use Rattle.profile.specs.Said.{said}
use Rattle.rule_compile.specs.declared.asked.Open.{Open}
use Rattle.rule_compile.specs.declared.asked.Placed.{Placed}
use Rattle.rule_compile.specs.declared.blocks.Blocks.{Blocks}
use Rattle.rule_compile.specs.declared.outline.Asked.{Asked}
use Rattle.rule_compile.specs.declared.outline.Asked.TheVariants.{InParts, Nothing}
use Rattle.rule_compile.specs.declared.outline.Block.{Block}
use Rattle.rule_compile.specs.declared.outline.Call.{Call}
use Rattle.rule_compile.specs.declared.outline.Part.{Part}
use Rattle.rule_compile.specs.declared.ranges.Leaf.{Leaf}
use Rattle.rule_compile.specs.declared.ranges.Leaf.TheVariants as leaf
use Rattle.rule_compile.specs.Decides.{Decides}
use Rattle.rule_compile.specs.Outline.{IsAskedOf, IsCallOf, IsOfCall, StandInTurn}
use Rattle.rule_compile.specs.Rules.{IsClearAt}
use Rattle.rule_compile.specs.inner.Left.{SomeHeld}
use Rattle.rule_compile.specs.inner.Noted.{AreEarly, AreCalls, ArePartsOf, AsksOf, IsKnownCall, NotesNumber, no_call, one_call}
use Rattle.rule_compile.specs.inner.Numbers.{IsFor}
use Rattle.rule_compile.specs.inner.Runs.{IsBefore}
use Rattle.rule_compile.specs.inner.Stands.{AreAmong, AreBlocks, AreThose, DecidesRules, HasMore, IsFound}
use Rattle.rule_compile.proofs.BlocksLaws.{stands_still}
use Rattle.rule_compile.proofs.DecidesLaws.{before_more, decides_more}
use Rattle.rule_compile.proofs.HeldLaws.{held_of_record}
use Rattle.rule_compile.proofs.LeadsLaws.{verdict_decided}
use Rattle.rule_compile.proofs.SaysLaws.{clear_on, native_own, said_is}
use Rattle.rule_compile.proofs.ThoseLaws.{by_those, held_matches}
use Rattle.rule_compile.proofs.TurnLaws.{in_turn, stands_both}

-- ---- parts

pub stand_in_turn : (blocks : List Block) → AreBlocks blocks → (os : List Open) (other : Leaf) (parts : List Part) (whole : Leaf)
    → IsBefore (length blocks) other → ArePartsOf blocks os other parts whole → StandInTurn blocks other parts whole
stand_in_turn blocks are os other [] whole before is = is
stand_in_turn blocks are os other (part ∷ parts) whole before is =
    let found : IsFound blocks part.rules.items other part.leaf = is.0 in (
      stands_both blocks are part.leaf part.rules.items other before found.stands,
      stand_in_turn blocks are os part.leaf parts whole found.before is.2,
    )

parts_before : (blocks : List Block) (os : List Open) (other : Leaf) (parts : List Part) (whole : Leaf)
    → ArePartsOf blocks os other parts whole → All (λ (part : Part). IsBefore (length blocks) part.leaf) parts
parts_before blocks os other [] whole is = All-nil (λ (part : Part). IsBefore (length blocks) part.leaf)
parts_before blocks os other (part ∷ parts) whole is =
    let found : IsFound blocks part.rules.items other part.leaf = is.0 in
    All-cons (λ (part : Part). IsBefore (length blocks) part.leaf) part parts found.before (parts_before blocks os part.leaf parts whole is.2)

-- what holds of each part whose rules are among the questions
parts_all : (P : Part → Type 0) (blocks : List Block) (os : List Open) (other : Leaf) (parts : List Part) (whole : Leaf)
    → ((part : Part) → AreAmong part.rules.items os → P part) → ArePartsOf blocks os other parts whole → All P parts
parts_all P blocks os other [] whole each is = All-nil P
parts_all P blocks os other (part ∷ parts) whole each is =
    All-cons P part parts (each part is.1) (parts_all P blocks os part.leaf parts whole each is.2)

-- ---- a call of a number

module _ (p : Policy) (clear : IsClear p.rules) (m : Arch) (number : ℕ) (is_own : Any (HasCall (token_of m) number) p.machines)
    (own : List Placed) (those : AreThose p.rules (token_of m) number own) (blocks : List Block) (call : Call)
    (token_is : call.token ≡ token_of m) (number_is : call.number ≡ number) where
  token_at : (r : List ℕ) → IsOfCall call r → slice_index r 1 ≡ token_of m
  token_at r of_call = of_call.token ∙ token_is

  number_at : (r : List ℕ) → IsOfCall call r → slice_index r 0 ≡ number
  number_at r of_call = of_call.number ∙ number_is

  call_decides : DecidesRules blocks own p.default_word call.leaf → (r : List ℕ) → IsOfCall call r → Decides blocks r (said p r) call.leaf
  call_decides decides r of_call =
      let token = token_at r of_call in
      let at = number_at r of_call in
      let is_r = of_call.is_record in
      let native = native_own p m r token (subst (λ n. Any (HasCall (token_of m) n) p.machines) (sym at) is_own) in
      by_those p.rules (token_of m) number p.default_word own those r token at blocks call.leaf is_r decides (clear_on p r clear is_r)
      (said p r) (said_is p r clear is_r native)

  held_clear : (r : List ℕ) → IsOfCall call r → (v w : ℕ) → SomeHeld own r v → SomeHeld own r w → v ≡ w
  held_clear r of_call v w held_v held_w =
      let token = token_at r of_call in
      let at = number_at r of_call in
      let one = held_matches p.rules (token_of m) number p.default_word own those r token at v held_v in
      let other = held_matches p.rules (token_of m) number p.default_word own those r token at w held_w in
      sym one.3 ∙ clear_on p r clear of_call.is_record one.0 other.0 one.1 other.1 one.2 other.2 ∙ other.3

  call_asks : AreBlocks blocks → DecidesRules blocks own p.default_word call.leaf → (asked : Asked)
      → AsksOf blocks own p.default_word call.leaf asked → IsAskedOf p blocks call asked
  call_asks are_blocks decides (Nothing place) (placed, has, at, held) =
      let there = All-contains (λ (placed : Placed). slice_get p.rules placed.place ≡ Some placed.rule.now) own placed those.places has in
      let of_those = All-contains (λ (placed : Placed). Contains p.rules placed.rule.now × IsFor (token_of m) number placed.rule.now) own
      placed those.those has in (
        placed.rule.now,
        subst (λ n. slice_get p.rules n ≡ Some placed.rule.now) at there,
        λ r of_call.
            record {
              machine = token_at r of_call ∙ sym of_those.1.0;
              number = number_at r of_call ∙ sym of_those.1.1;
              conditions = (held_of_record placed r (token_at r of_call ∙ sym of_those.1.0)).0 (held r of_call.is_record);
            },
      )
  call_asks are_blocks decides (InParts parts) (os, are, says) =
      let default = leaf.Verdict p.default_word in
      let clear : (r : List ℕ) → IsOfCall call r → All (λ (part : Part). IsClearAt part.rules.items r) parts.items = λ r of_call.
      parts_all (λ part. IsClearAt part.rules.items r) blocks os default parts.items call.leaf
      (λ part among v w met_v met_w.
      held_clear r of_call v w (says r of_call.is_record v (among r v met_v)) (says r of_call.is_record w (among r w met_w))) are in
      record {
        stand = stand_in_turn blocks are_blocks os default parts.items call.leaf tt are;
        clear = clear;
        come = λ r of_call.
            in_turn blocks are_blocks r of_call.is_record os default parts.items call.leaf (λ w. w ≡ p.default_word) (said p r) tt
            (λ w d. sym (verdict_decided d)) (clear r of_call) are (call_decides decides r of_call);
      }

  call_before : (asked : Asked) → AsksOf blocks own p.default_word call.leaf asked → AreEarly (length blocks) asked
  call_before (Nothing place) asks = tt
  call_before (InParts parts) asks = parts_before blocks asks.0 (leaf.Verdict p.default_word) parts.items call.leaf asks.1

  pub call_known : AreBlocks blocks → DecidesRules blocks own p.default_word call.leaf → AsksOf blocks own p.default_word call.leaf call.asked
      → IsKnownCall p blocks call
  call_known are_blocks decides asks = record {
    is = record { decides = call_decides decides; asked = call_asks are_blocks decides call.asked asks };
    parts = call_before call.asked asks;
  }

-- ---- more blocks

module _ (p : Policy) (old new : List Block) (g : HasMore old new) (blocks : AreBlocks new) where
  turn_more : (other : Leaf) (parts : List Part) (whole : Leaf) → IsBefore (length old) other
      → All (λ (part : Part). IsBefore (length old) part.leaf) parts → StandInTurn old other parts whole → StandInTurn new other parts whole
  turn_more other [] whole before all is = is
  turn_more other (part ∷ parts) whole before all is = (
    stands_still old new g blocks part.leaf part.rules.items other (All-head (λ (part : Part). IsBefore (length old) part.leaf) part parts all)
        before is.0,
    turn_more part.leaf parts whole (All-head (λ (part : Part). IsBefore (length old) part.leaf) part parts all)
        (All-tail (λ (part : Part). IsBefore (length old) part.leaf) part parts all) is.1,
  )

  asked_more : (call : Call) (asked : Asked) → AreEarly (length old) asked → IsAskedOf p old call asked → IsAskedOf p new call asked
  asked_more call (Nothing place) before is = is
  asked_more call (InParts parts) before is = record {
    stand = turn_more (leaf.Verdict p.default_word) parts.items call.leaf tt before is.stand;
    clear = is.clear;
    come = is.come;
  }

  early_more : (asked : Asked) → AreEarly (length old) asked → AreEarly (length new) asked
  early_more (Nothing place) before = tt
  early_more (InParts parts) before =
      All-weaker (λ (part : Part). IsBefore (length old) part.leaf) (λ (part : Part). IsBefore (length new) part.leaf)
      (λ part is. before_more old new g part.leaf is) parts.items before

  known_call_more : (call : Call) → IsKnownCall p old call → IsKnownCall p new call
  known_call_more call known = record {
    is = record {
      decides = λ r of_call. decides_more old new g (known.is.decides r of_call);
      asked = asked_more call call.asked known.parts known.is.asked;
    };
    parts = early_more call.asked known.parts;
  }

  pub calls_more : (calls : List Call) → All (IsKnownCall p old) calls → All (IsKnownCall p new) calls
  calls_more calls all = All-weaker (IsKnownCall p old) (IsKnownCall p new) known_call_more calls all

-- ---- what was noted

pub calls_noted : (p : Policy) (clear : IsClear p.rules) (m : Arch) (number : ℕ) (a b : Blocks) → Any (HasCall (token_of m) number) p.machines
    → HasMore a.blocks.items b.blocks.items → AreBlocks b.blocks.items → NotesNumber a b p.rules (token_of m) number p.default_word
    → AreCalls p a → AreCalls p b
calls_noted p clear m number a b is_own g blocks (no_call is) all =
    subst (All (IsKnownCall p b.blocks.items)) (sym is) (calls_more p a.blocks.items b.blocks.items g blocks a.calls.items all)
calls_noted p clear m number a b is_own g blocks (one_call own those noted) all =
    let bs = b.blocks.items in
    let known = call_known p clear m number is_own own those bs noted.call noted.token_is noted.number_is blocks noted.decides noted.asks in
    subst (All (IsKnownCall p bs)) (sym noted.is)
    (All-push (IsKnownCall p bs) a.calls.items noted.call (calls_more p a.blocks.items bs g blocks a.calls.items all) known)

pub calls_are : (p : Policy) (blocks : List Block) (calls : List Call) → All (IsKnownCall p blocks) calls → All (IsCallOf p blocks) calls
calls_are p blocks calls all = All-weaker (IsKnownCall p blocks) (IsCallOf p blocks) (λ call known. known.is) calls all
