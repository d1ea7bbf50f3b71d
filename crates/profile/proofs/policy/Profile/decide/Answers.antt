use Rattle.std.proofs.Common.{◌≡◌, ℕ, ◌<◌, List, length, get_or, true, false, sym, ap, subst, arith}
use Rattle.std.specs.List.{All}
use Rattle.call_record.specs.Record.{words}
use Rattle.call_record.specs.Words.{word}
use Rattle.call_record.proofs.RecordLemmas.{words-is_record}
use Rattle.profile.specs.declared.rules.Rule.{Rule}
use Rattle.profile.specs.Rule.{Matches}
use Rattle.profile.specs.Policy.{Policy, Says, IsNative, IsClear, IsProfile}
use Rattle.profile.specs.Latest.{IsLatest}
use Rattle.profile.specs.inner.Places.{IsIndexOf}
use Rattle.profile.proofs.Saying.{says_match, says_default}
use Rattle.profile.proofs.Walks.{IsOf, IsNext, begins, next_within, comes_to, passes, goes_down, all_fail}
use Rattle.profile.proofs.policy.Profile.decide.Goals as goal

-- a record is matched by rules for its call alone
match_is_of : (r : List ℕ) → IsOf (λ x. Matches x r) (word r 1) (word r 0)
match_is_of r x m = record { machine = sym m.machine; number = sym m.number }

pub loop-next-init : goal.loop-next-init
loop-next-init c =
    let p = c.args.self.now in
    let r = words c.args.call.now in
    let rules-are : c.self.inside.rules.items ≡ p.rules = ap (λ (q : Policy). q.rules) c.self.view_is in
    let index : IsIndexOf p.rules c.self.inside.index =
    subst (λ (xs : List Rule). IsIndexOf xs c.self.inside.index) rules-are c.self.invariant.1 in
    begins (λ (x : Rule). Matches x r) p.rules c.args.call.now.arch c.args.call.now.nr (length p.rules) c.latest-next.result
    (subst (IsLatest p.rules c.args.call.now.arch c.args.call.now.nr (length p.rules)) (sym c.latest-next.ensures)
    (index.latest c.args.call.now.arch c.args.call.now.nr))

pub index-rule-requires : goal.index-rule-requires
index-rule-requires c =
    let p = c.args.self.now in
    let rules-are : c.self.inside.rules.items ≡ p.rules = ap (λ (q : Policy). q.rules) c.self.view_is in
    let within : c.in-Some.place < length p.rules =
    next_within _ _ _ _ _ c.loop-next.next c.in-Some.place c.in-Some.is c.loop-next.invariant in
    omega (arith, within, ap length rules-are, c.self.inside.rules.ok.0)

pub earlier-next-requires : goal.earlier-next-requires
earlier-next-requires c =
    let p = c.args.self.now in
    let rules-are : c.self.inside.rules.items ≡ p.rules = ap (λ (q : Policy). q.rules) c.self.view_is in
    let within : c.in-Some.place < length p.rules =
    next_within _ _ _ _ _ c.loop-next.next c.in-Some.place c.in-Some.is c.loop-next.invariant in
    let as_many = c.self.invariant.1.as_many in
    omega (arith, within, ap length rules-are, as_many)

pub loop-next-preserved : goal.loop-next-preserved
loop-next-preserved c =
    let p = c.args.self.now in
    let call = c.args.call.now in
    let r = words call in
    let rule = c.index-rule.result.now in
    let rules-are : c.self.inside.rules.items ≡ p.rules = ap (λ (q : Policy). q.rules) c.self.view_is in
    let index : IsIndexOf p.rules c.self.inside.index =
    subst (λ (xs : List Rule). IsIndexOf xs c.self.inside.index) rules-are c.self.invariant.1 in
    let at : rule ≡ get_or p.rules c.in-Some.place rule =
    subst (λ (xs : List Rule). rule ≡ get_or xs c.in-Some.place rule) rules-are c.index-rule.ensures in
    let turn : IsNext (λ (x : Rule). Matches x r) p.rules call.arch call.nr (length p.rules) c.in-Some.place rule =
    comes_to _ _ _ _ _ c.loop-next.next c.in-Some.place rule c.in-Some.is c.loop-next.invariant at in
    let fails : ¬ Matches rule r = λ m.
    let hit : c.matches.result ≡ true = c.matches.ensures.1 m in
    let missed : c.matches.result ≡ false = c.if-matches.false in
    cc in
    passes (λ (x : Rule). Matches x r) p.rules c.self.inside.index call.arch call.nr (length p.rules) c.in-Some.place rule
    c.earlier-next.result index (match_is_of r) turn fails c.earlier-next.ensures

pub loop-next-smaller : goal.loop-next-smaller
loop-next-smaller c =
    let p = c.args.self.now in
    let call = c.args.call.now in
    let r = words call in
    let rule = c.index-rule.result.now in
    let rules-are : c.self.inside.rules.items ≡ p.rules = ap (λ (q : Policy). q.rules) c.self.view_is in
    let index : IsIndexOf p.rules c.self.inside.index =
    subst (λ (xs : List Rule). IsIndexOf xs c.self.inside.index) rules-are c.self.invariant.1 in
    let at : rule ≡ get_or p.rules c.in-Some.place rule =
    subst (λ (xs : List Rule). rule ≡ get_or xs c.in-Some.place rule) rules-are c.index-rule.ensures in
    let turn : IsNext (λ (x : Rule). Matches x r) p.rules call.arch call.nr (length p.rules) c.in-Some.place rule =
    comes_to _ _ _ _ _ c.loop-next.next c.in-Some.place rule c.in-Some.is c.loop-next.invariant at in
    goes_down (λ (x : Rule). Matches x r) p.rules c.self.inside.index call.arch call.nr (length p.rules) c.in-Some.place rule
    c.loop-next.next c.earlier-next.result index turn c.in-Some.is c.earlier-next.ensures

pub returns : goal.returns
returns c =
    let p = c.args.self.now in
    let r = words c.args.call.now in
    let native : IsNative p r = c.is_native.ensures.0 c.if-not-is_native.false in
    let default : p.default_word ≡ c.self.inside.default_word = sym (ap (λ (q : Policy). q.default_word) c.self.view_is) in
    let none : All (λ (x : Rule). ¬ Matches x r) p.rules =
    all_fail (λ (x : Rule). Matches x r) p.rules c.args.call.now.arch c.args.call.now.nr c.loop-next.next (match_is_of r)
    c.loop-next.invariant c.in_default.is in
    subst (Says p r) default (says_default p r native none)

pub returns-then-matches : goal.returns-then-matches
returns-then-matches c =
    let p = c.args.self.now in
    let call = c.args.call.now in
    let r = words call in
    let rule = c.index-rule.result.now in
    let rules-are : c.self.inside.rules.items ≡ p.rules = ap (λ (q : Policy). q.rules) c.self.view_is in
    let native : IsNative p r = c.is_native.ensures.0 c.if-not-is_native.false in
    let clear : IsClear p.rules = (subst IsProfile c.self.view_is c.self.invariant.0).clear in
    says_match p r c.in-Some.place rule clear (words-is_record call) native
    (next_within _ _ _ _ _ c.loop-next.next c.in-Some.place c.in-Some.is c.loop-next.invariant)
    (subst (λ (xs : List Rule). rule ≡ get_or xs c.in-Some.place rule) rules-are c.index-rule.ensures)
    (c.matches.ensures.0 c.if-matches.true)
