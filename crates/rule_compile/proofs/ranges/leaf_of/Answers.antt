use Rattle.std.proofs.Common.{List, ℕ, subst, sym}
use Rattle.rule_compile.specs.declared.asked.Placed.{Placed}
use Rattle.rule_compile.specs.inner.Noted.{NotesCall, NotesNumber, one_call}
use Rattle.rule_compile.specs.inner.Stands.{DecidesNumber, DecidesRules, IsLeafOf}
use Rattle.rule_compile.proofs.TellsLaws.{on_ok}
use Rattle.rule_compile.proofs.ThoseLaws.{decides_those, decides_verdict, if_ok, leaf_for, leaf_says}
use Rattle.rule_compile.proofs.ranges.leaf_of.Goals as goal

pub returns-in-Some-clause-decides : goal.returns-in-Some-clause-decides
returns-in-Some-clause-decides c =
    let rs = c.args.profile.now.rules in
    let default = c.args.profile.now.default_word in
    let own = c.in_ok-own.own.items in
    let blocks = c.args.blocks.now.blocks.items in
    let is : IsLeafOf own default c.in-Some.leaf =
    subst (λ (w : ℕ). IsLeafOf own w c.in-Some.leaf) c.default_word-default.ensures
    (subst (λ (xs : List Placed). IsLeafOf xs c.default_word-default.result c.in-Some.leaf) c.deref.ensures.value c.in-Some.ensures.leaf) in
    let told = leaf_says rs c.args.token c.args.number default own c.in_ok-own.ensures c.in-Some.leaf is in
    subst (DecidesNumber rs c.args.token c.args.number default blocks) (sym told.1)
    (decides_verdict rs c.args.token c.args.number default told.0 blocks told.2)

pub returns-in-Some-clause-verdict : goal.returns-in-Some-clause-verdict
returns-in-Some-clause-verdict c = λ unconditional.
    let rs = c.args.profile.now.rules in
    let default = c.args.profile.now.default_word in
    let own = c.in_ok-own.own.items in
    let is : IsLeafOf own default c.in-Some.leaf =
    subst (λ (w : ℕ). IsLeafOf own w c.in-Some.leaf) c.default_word-default.ensures
    (subst (λ (xs : List Placed). IsLeafOf xs c.default_word-default.result c.in-Some.leaf) c.deref.ensures.value c.in-Some.ensures.leaf) in
    leaf_for rs c.args.token c.args.number default own c.in_ok-own.ensures c.in-Some.leaf is

pub returns-clause-decides : goal.returns-clause-decides
returns-clause-decides c =
    let rs = c.args.profile.now.rules in
    let default = c.args.profile.now.default_word in
    let own = c.in_ok-own.own.items in
    let blocks = c.leaf_of.new.self.blocks.items in
    if_ok c.leaf_of.result (DecidesRules blocks c.deref-in-None.result.now c.default_word-default.result)
    (DecidesNumber rs c.args.token c.args.number default blocks) c.leaf_of.ensures.decides
    (λ leaf decides. decides_those rs c.args.token c.args.number default own blocks leaf c.in_ok-own.ensures
    (subst (λ (w : ℕ). DecidesRules blocks own w leaf) c.default_word-default.ensures
    (subst (λ (xs : List Placed). DecidesRules blocks xs c.default_word-default.result leaf) c.deref-in-None.ensures.value decides)))

pub returns-clause-notes : goal.returns-clause-notes
returns-clause-notes c =
    let rs = c.args.profile.now.rules in
    let t = c.args.token in
    let nr = c.args.number in
    let default = c.args.profile.now.default_word in
    let own = c.in_ok-own.own.items in
    let a = c.args.blocks.now in
    let b = c.leaf_of.new.self in
    on_ok c.leaf_of.result (NotesCall a b c.deref-in-None.result.now t nr c.default_word-default.result)
    (NotesNumber a b rs t nr default) c.leaf_of.ensures.notes
    (λ noted. one_call own c.in_ok-own.ensures
    (subst (λ (w : ℕ). NotesCall a b own t nr w) c.default_word-default.ensures
    (subst (λ (xs : List Placed). NotesCall a b xs t nr c.default_word-default.result) c.deref-in-None.ensures.value noted)))
