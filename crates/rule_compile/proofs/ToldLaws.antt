-- The ranges of a machine's numbers, as they are added, for every profile.
use Rattle.std.proofs.Common.{◌≡◌, ℕ, ◌+◌, ◌-◌, ◌<◌, ◌≤◌, List, [], ◌∷◌, ◌++◌, length, refl, sym, ◌∙◌, subst}
use Rattle.std.proofs.Common.{arith, max, inl, inr}
use Rattle.std.specs.Prelude.{slice_index}
use Rattle.std.specs.List.{All, Any}
use Rattle.std.proofs.lemmas.List.Elements.{All-append, All-cons, All-head, All-nil, All-weaker}
use Rattle.std.proofs.lemmas.Bool.{cases_lt}
use Rattle.call_record.specs.Words.{IsRecord}
use Rattle.machines.specs.declared.arch.Arch.{Arch}
use Rattle.machines.specs.Arch.{token_of}
use Rattle.machines.specs.Numbers.{HasCall, IsWithin, foreign_numbers}
use Rattle.profile.specs.declared.rules.Rule.{Rule}
use Rattle.profile.specs.Policy.{IsClear, Policy}
use Rattle.profile.specs.Rule.{Matches}
use Rattle.profile.specs.Said.{said}
use Rattle.rule_compile.specs.declared.outline.Block.{Block}
use Rattle.rule_compile.specs.declared.ranges.Leaf.{Leaf}
use Rattle.rule_compile.specs.declared.ranges.Leaf.TheVariants.{Verdict}
use Rattle.rule_compile.specs.declared.ranges.Range.{Range}
use Rattle.rule_compile.specs.Decides.{Decides, Tiles, by_verdict}
use Rattle.rule_compile.specs.inner.Numbers.{AreOwn, IsExtended, IsFor, IsListed, IsNext, NoneFor, more, nothing, wider}
use Rattle.rule_compile.specs.inner.Runs.{IsBefore}
use Rattle.rule_compile.specs.inner.Stands.{DecidesCalls, DecidesNumber, HasMore}
use Rattle.rule_compile.specs.inner.Told.{ToldSoFar}
use Rattle.rule_compile.proofs.DecidesLaws.{before_more, decides_more}
use Rattle.rule_compile.proofs.FindLaws.{all_left, all_right}
use Rattle.rule_compile.proofs.RangeLaws.{tiles_back, tiles_extended}
use Rattle.rule_compile.proofs.SaysLaws.{clear_on, foreign_other, native_own, said_by, said_foreign, said_is}

-- ---- one range more

module _ (old new : List Range) (from end : ℕ) (leaf : Leaf) where
  made : ℕ → Range
  made first = record { first = first; last = end - 1; leaf = leaf }

  pub all_extended : (P : Range → Type 0) → All P old → ((first : ℕ) → P (record { first = first; last = end - 1; leaf = leaf }))
      → IsExtended old from end leaf new → All P new
  all_extended P all own (nothing le is) = subst (All P) (sym is) all
  all_extended P all own (more lt is) =
      subst (All P) (sym is) (All-append P old (record { first = from; last = end - 1; leaf = leaf } ∷ []) all
      (All-cons P (record { first = from; last = end - 1; leaf = leaf }) [] (own from) (All-nil P)))
  all_extended P all own (wider lt front x was alike is) =
      let y : Range = record { first = x.first; last = end - 1; leaf = leaf } in
      subst (All P) (sym is) (All-append P front (y ∷ []) (all_left P front (x ∷ []) (subst (All P) was all)) (All-cons P y [] (own x.first)
      (All-nil P)))

  module _ (p : Policy) (t : ℕ) (blocks : List Block) where
    abbrev Q : Range → Type 0
    Q = DecidesCalls p t blocks

    pub told_extended : Tiles 0 old from → All (DecidesCalls p t blocks) old → IsExtended old from end leaf new
        → ((r : List ℕ) → IsRecord r → slice_index r 1 ≡ t → from ≤ slice_index r 0 → slice_index r 0 < end → Decides blocks r (said p r) leaf)
        → All (DecidesCalls p t blocks) new
    told_extended tiles all (nothing le is) told = subst (All Q) (sym is) all
    told_extended tiles all (more lt is) told =
        let x : Range = record { first = from; last = end - 1; leaf = leaf } in
        let one : Q x = λ r is_r token within. told r is_r token within.0 (omega (arith, lt, within.1)) in
        subst (All Q) (sym is) (All-append Q old (x ∷ []) all (All-cons Q x [] one (All-nil Q)))
    told_extended tiles all (wider lt front x was alike is) told =
        let y : Range = record { first = x.first; last = end - 1; leaf = leaf } in
        let back = tiles_back front 0 from x (subst (λ xs. Tiles 0 xs from) was tiles) in
        let parts : All Q (front ++ x ∷ []) = subst (All Q) was all in
        let own : Q x = All-head Q x [] (all_right Q front (x ∷ []) parts) in
        let one : Q y = λ r is_r token within. elim (cases_lt (slice_index r 0) from) [
          | inl before ↦ subst (Decides blocks r (said p r)) alike (own r is_r token (within.0, omega (arith, before, back.2)))
          | inr after ↦ told r is_r token after (omega (arith, lt, within.1))
        ] in
        subst (All Q) (sym is) (All-append Q front (y ∷ []) (all_left Q front (x ∷ []) parts) (All-cons Q y [] one (All-nil Q)))

-- ---- more blocks

pub told_more : (p : Policy) (m : Arch) (old new : List Block) (upto : ℕ) (ranges : List Range) → HasMore old new
    → ToldSoFar p m old upto ranges → ToldSoFar p m new upto ranges
told_more p m old new upto ranges grown told = record {
  tiles = told.tiles;
  before = All-weaker (λ (x : Range). IsBefore (length old) x.leaf) (λ (x : Range). IsBefore (length new) x.leaf)
      (λ x is. before_more old new grown x.leaf is) ranges told.before;
  decides = λ listed. All-weaker (DecidesCalls p (token_of m) old) (DecidesCalls p (token_of m) new)
      (λ x is r is_r token within. decides_more old new grown (is r is_r token within)) ranges (told.decides listed);
}

pub told_none : (p : Policy) (m : Arch) (blocks : List Block) → ToldSoFar p m blocks 0 []
told_none p m blocks = record {
  tiles = refl;
  before = All-nil (λ (x : Range). IsBefore (length blocks) x.leaf);
  decides = λ listed. All-nil (DecidesCalls p (token_of m) blocks);
}

-- ---- numbers without rules, and the next one that has some

pub next_is : (p : Policy) (m : Arch) (t from end next : ℕ) (rules : List Rule) → t ≡ token_of m → rules ≡ p.rules
    → IsNext rules t from end next → IsNext p.rules (token_of m) from end next
next_is p m t from end next rules token is next_one =
    subst (λ n. IsNext p.rules n from end next) token (subst (λ rs. IsNext rs t from end next) is next_one)

module _ (p : Policy) (m : Arch) (blocks : List Block) (clear : IsClear p.rules) (from end next : ℕ) (old mid : List Range) (before : from < end)
    (own : AreOwn p m from end) (told : ToldSoFar p m blocks from old) (is_next : IsNext p.rules (token_of m) from end next)
    (first : IsExtended old from next (Verdict p.default_word) mid) where
  unruled : (r : List ℕ) → slice_index r 1 ≡ token_of m → NoneFor (token_of m) (slice_index r 0) p.rules → All (λ rule. Matches rule r → ⊥) p.rules
  unruled r token none = All-weaker (λ rule. IsFor (token_of m) (slice_index r 0) rule → ⊥) (λ rule. Matches rule r → ⊥)
      (λ rule not is. not (sym is.machine ∙ token, sym is.number)) p.rules none

  default_told : IsListed p m → (r : List ℕ) → IsRecord r → slice_index r 1 ≡ token_of m → from ≤ slice_index r 0 → slice_index r 0 < next
      → Decides blocks r (said p r) (Verdict p.default_word)
  default_told listed r is_r token low high =
      let native = native_own p m r token (own (slice_index r 0) low (omega (arith, high, is_next.most)) listed) in
      let none = unruled r token (is_next.none (slice_index r 0) low high) in
      subst (λ v. Decides blocks r v (Verdict p.default_word)) (sym (said_by p r clear is_r native p.default_word (inr (none, refl)))) by_verdict

  pub told_first : ToldSoFar p m blocks (max from next) mid
  told_first = record {
    tiles = tiles_extended old mid from next (Verdict p.default_word) told.tiles first;
    before = all_extended old mid from next (Verdict p.default_word) (λ (x : Range). IsBefore (length blocks) x.leaf) told.before (λ n. tt) first;
    decides = λ listed.
        told_extended old mid from next (Verdict p.default_word) p (token_of m) blocks told.tiles (told.decides listed) first (default_told listed);
  }

  module _ (grown : List Block) (more_blocks : HasMore blocks grown) (leaf : Leaf) (new : List Range) (inside : next < end)
      (is_before : IsBefore (length grown) leaf) (decided : DecidesNumber p.rules (token_of m) next p.default_word grown leaf)
      (one : IsExtended mid (max from next) (next + 1) leaf new) where
    at_next : IsListed p m → (r : List ℕ) → IsRecord r → slice_index r 1 ≡ token_of m → max from next ≤ slice_index r 0 → slice_index r 0 < next + 1
        → Decides grown r (said p r) leaf
    at_next listed r is_r token low high =
        let is : slice_index r 0 ≡ next = omega (arith, low, high, is_next.least) in
        let number_own = subst (λ n. Any (HasCall (token_of m) n) p.machines) (sym is) (own next is_next.least inside listed) in
        let native = native_own p m r token number_own in
        decided r is_r token is (clear_on p r clear is_r) (said p r) (said_is p r clear is_r native)

    pub told_next : ToldSoFar p m grown (max (max from next) (next + 1)) new
    told_next =
        let so_far = told_more p m blocks grown (max from next) mid more_blocks told_first in
        record {
          tiles = tiles_extended mid new (max from next) (next + 1) leaf so_far.tiles one;
          before = all_extended mid new (max from next) (next + 1) leaf (λ (x : Range). IsBefore (length grown) x.leaf) so_far.before
              (λ n. is_before) one;
          decides = λ listed.
              told_extended mid new (max from next) (next + 1) leaf p (token_of m) grown so_far.tiles (so_far.decides listed) one (at_next listed);
        }

-- ---- foreign numbers

pub told_foreign : (p : Policy) (m : Arch) (blocks : List Block) (clear : IsClear p.rules) (from end : ℕ) (old new : List Range)
    → ((u : ℕ) → from ≤ u → u < end → Any (IsWithin u) (foreign_numbers p.machines m)) → ToldSoFar p m blocks from old → IsExtended old from end (Verdict 0) new
    → ToldSoFar p m blocks (max from end) new
told_foreign p m blocks clear from end old new others told last = record {
  tiles = tiles_extended old new from end (Verdict 0) told.tiles last;
  before = all_extended old new from end (Verdict 0) (λ (x : Range). IsBefore (length blocks) x.leaf) told.before (λ n. tt) last;
  decides = λ listed.
      told_extended old new from end (Verdict 0) p (token_of m) blocks told.tiles (told.decides listed) last
      (λ r is_r token low high.
      subst (λ v. Decides blocks r v (Verdict 0))
      (sym (said_foreign p r clear is_r (foreign_other p m r listed token (others (slice_index r 0) low high)))) by_verdict);
}
