use Rattle.std.proofs.Common.{◌≡◌, ◌≢◌, ◌↔◌, ◌∙◌, ◌++◌, ◌∷◌, [], ℕ, List, ap, length, rules, subst, sym, vec_len}
use Rattle.call_record.specs.Words.{IsRecord}
use Rattle.rule_compile.specs.declared.ranges.Leaf.TheVariants as leaf
use Rattle.rule_compile.specs.Rules.{SomeMet}
use Rattle.rule_compile.specs.inner.Left.{AreLeft, AreRules, SaysHeld, SomeHeld}
use Rattle.rule_compile.specs.inner.Runs.{IsBefore}
use Rattle.rule_compile.specs.declared.outline.Asked.TheVariants.{InParts, Nothing}
use Rattle.rule_compile.specs.inner.Noted.{ArePartsOf, AsksOf, IsMetAt}
use Rattle.rule_compile.specs.inner.Stands.{DecidesRules, IsFound}
use Rattle.rule_compile.proofs.BlocksLaws.{sound_same}
use Rattle.rule_compile.proofs.StandsLaws.{met_decides, open_decides}
use Rattle.rule_compile.proofs.blocks.Blocks.leaf_of.Goals as goal

pub returns-in_ok-add_call-in-Met-clause-sound : goal.returns-in_ok-add_call-in-Met-clause-sound
returns-in_ok-add_call-in-Met-clause-sound c =
    sound_same c.args.self.now c.add_call.new.self c.in_ok-add_call-in-Met.ensures.blocks c.in_ok-add_call-in-Met.ensures.known
    c.requires.sound

pub returns-in_ok-add_call-in-Met-clause-decides : goal.returns-in_ok-add_call-in-Met-clause-decides
returns-in_ok-add_call-in-Met-clause-decides c =
    let held : (r : List ℕ) → IsRecord r → SomeHeld c.args.rules.now r c.in-Met.word =
    λ r rec. subst (SaysHeld c.args.rules.now c.args.default r) c.in-Met.is (c.in_ok-rule.ensures.says r rec) in
    met_decides c.add_call.new.self.blocks.items c.args.rules.now c.args.default c.in-Met.word held

pub asked-requires-clause-rules : goal.asked-requires-clause-rules
asked-requires-clause-rules c =
    let left : AreRules c.in-Open.open.items = subst AreLeft c.in-Open.is c.in_ok-rule.ensures.left in
    subst AreRules (sym c.deref.ensures.value) left

pub returns-in_ok-add_call-in-Open-clause-sound : goal.returns-in_ok-add_call-in-Open-clause-sound
returns-in_ok-add_call-in-Open-clause-sound c =
    sound_same c.asked.new.self c.add_call-in-Open.new.self c.in_ok-add_call-in-Open.ensures.blocks
    c.in_ok-add_call-in-Open.ensures.known c.in_ok-leaf-in-Open.ensures.sound

pub returns-in_ok-add_call-in-Open-clause-before : goal.returns-in_ok-add_call-in-Open-clause-before
returns-in_ok-add_call-in-Open-clause-before c =
    let long : vec_len c.add_call-in-Open.new.self.blocks ≡ length c.add_call-in-Open.new.self.blocks.items = search rules in
    let found = c.in_ok-leaf-in-Open.ensures.found in
    subst (λ n. IsBefore n c.in_ok-leaf-in-Open.leaf) (sym (long ∙ ap (λ xs. length xs) c.in_ok-add_call-in-Open.ensures.blocks)) found.before

pub returns-in_ok-add_call-in-Open-clause-decides : goal.returns-in_ok-add_call-in-Open-clause-decides
returns-in_ok-add_call-in-Open-clause-decides c =
    let os = c.in-Open.open.items in
    let says : (r : List ℕ) → IsRecord r → (w : ℕ) → SomeMet os r w ↔ (SomeHeld c.args.rules.now r w × (w ≢ c.args.default)) =
    λ r rec. subst (SaysHeld c.args.rules.now c.args.default r) c.in-Open.is (c.in_ok-rule.ensures.says r rec) in
    let found : IsFound c.asked.new.self.blocks.items os (leaf.Verdict c.args.default) c.in_ok-leaf-in-Open.leaf =
    subst (λ xs. IsFound c.asked.new.self.blocks.items xs (leaf.Verdict c.args.default) c.in_ok-leaf-in-Open.leaf) c.deref.ensures.value
    c.in_ok-leaf-in-Open.ensures.found in
    open_decides c.add_call-in-Open.new.self.blocks.items c.args.rules.now c.args.default os c.in_ok-leaf-in-Open.leaf says
    (subst (λ bs. IsFound bs os (leaf.Verdict c.args.default) c.in_ok-leaf-in-Open.leaf) (sym c.in_ok-add_call-in-Open.ensures.blocks) found)

pub returns-in_ok-add_call-in-Met-clause-notes : goal.returns-in_ok-add_call-in-Met-clause-notes
returns-in_ok-add_call-in-Met-clause-notes c =
    let rules = c.args.rules.now in
    let bs = c.add_call.new.self.blocks.items in
    let next = c.in_ok-add_call-in-Met.ensures.calls in
    let word = c.in-Met.word in
    let decides = returns-in_ok-add_call-in-Met-clause-decides c in
    let asks : AsksOf bs rules c.args.default (leaf.Verdict word) (Nothing c.in-Met.rule) =
    subst (IsMetAt rules) c.in-Met.is c.in_ok-rule.ensures.met in
    record {
      call = next.call;
      is = next.is;
      token_is = next.token_is;
      number_is = next.number_is;
      decides = subst (DecidesRules bs rules c.args.default) (sym next.leaf_is) decides;
      asks = subst (AsksOf bs rules c.args.default next.call.leaf) (sym next.asked_is)
          (subst (λ l. AsksOf bs rules c.args.default l (Nothing c.in-Met.rule)) (sym next.leaf_is) asks);
    }

pub returns-in_ok-add_call-in-Open-clause-notes : goal.returns-in_ok-add_call-in-Open-clause-notes
returns-in_ok-add_call-in-Open-clause-notes c =
    let rules = c.args.rules.now in
    let os = c.in-Open.open.items in
    let bs = c.add_call-in-Open.new.self.blocks.items in
    let to = c.in_ok-leaf-in-Open.leaf in
    let parts = c.in_ok-leaf-in-Open.parts in
    let next = c.in_ok-add_call-in-Open.ensures.calls in
    let decides = returns-in_ok-add_call-in-Open-clause-decides c in
    let are : ArePartsOf c.asked.new.self.blocks.items os (leaf.Verdict c.args.default) parts.items to =
    subst (λ xs. ArePartsOf c.asked.new.self.blocks.items xs (leaf.Verdict c.args.default) parts.items to) c.deref.ensures.value
    c.in_ok-leaf-in-Open.ensures.parts in
    let says : (r : List ℕ) → IsRecord r → (w : ℕ) → SomeMet os r w ↔ (SomeHeld rules r w × (w ≢ c.args.default)) =
    λ r rec. subst (SaysHeld rules c.args.default r) c.in-Open.is (c.in_ok-rule.ensures.says r rec) in
    let asks : AsksOf bs rules c.args.default to (InParts parts) = (
      os,
      subst (λ bs. ArePartsOf bs os (leaf.Verdict c.args.default) parts.items to) (sym c.in_ok-add_call-in-Open.ensures.blocks) are,
      λ r rec w met. ((says r rec w).0 met).0,
    ) in
    record {
      call = next.call;
      is = next.is ∙ ap (λ xs. xs ++ next.call ∷ []) c.in_ok-leaf-in-Open.ensures.calls;
      token_is = next.token_is;
      number_is = next.number_is;
      decides = subst (DecidesRules bs rules c.args.default) (sym next.leaf_is) decides;
      asks = subst (AsksOf bs rules c.args.default next.call.leaf) (sym next.asked_is)
          (subst (λ l. AsksOf bs rules c.args.default l (InParts parts)) (sym next.leaf_is) asks);
    }
