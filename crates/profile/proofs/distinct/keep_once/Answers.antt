use Rattle.std.proofs.Common.{◌≡◌, ℕ, ◌+◌, length, take, drop, List, [], ◌∷◌, ◌++◌, sym, ◌∙◌, ap, subst, arith, true, false}
use Rattle.std.specs.List.{Contains}
use Rattle.std.proofs.lemmas.List.{length_push, take_all, length-take-le}
use Rattle.std.proofs.lemmas.Iterator.Consumers.{YieldsList-turn, YieldsList-end}
use Rattle.profile.specs.declared.rules.Rule.{Rule}
use Rattle.profile.specs.Policy.{most_rules}
use Rattle.profile.specs.Build.{AreTooMany}
use Rattle.profile.specs.inner.Places.{IsIndexOf}
use Rattle.profile.proofs.KeptLaws.{keeps_none, keeps_first, keeps_again, keeps_same, too_many}
use Rattle.profile.proofs.Turns.{IsTurn, turn_of, road_of, length-enumerate}
use Rattle.profile.proofs.distinct.keep_once.Goals as goal

pub loop-place-init : goal.loop-place-init
loop-place-init c = record {
  kept =
      keeps_same [] [] [] c.new-rules.result.items [] c.new-places.result.items (λ _. []) c.new-rules.ensures.items
      c.new-places.ensures.items keeps_none;
  index = subst (λ (xs : List Rule). IsIndexOf xs c.new-index.result) (sym c.new-rules.ensures.items) c.new-index.ensures;
  few = omega (arith, ap length c.new-rules.ensures.items);
}

pub contains-requires : goal.contains-requires
contains-requires c =
    subst (λ (xs : List Rule). IsIndexOf xs c.loop-place.index) (sym c.deref.ensures.value) c.loop-place.invariant.index

pub loop-place-preserved-then-contains : goal.loop-place-preserved-then-contains
loop-place-preserved-then-contains c =
    let given = c.args.given.items in
    let been = c.loop-place.yielded in
    let rules = c.loop-place.rules.items in
    let places = c.loop-place.places.items in
    let rule = c.in-Some.rule in
    let road = road_of given c.into_iter.result c.enumerate-place-items.result c.into_iter-place-iterator.result c.into_iter.ensures.rest
    (c.into_iter.ensures.len ∙ c.args.given.ok.0) c.enumerate-place-items.ensures.source c.enumerate-place-items.ensures.count
    c.into_iter-place-iterator.ensures.into_iter_gives in
    let turn : IsTurn given been c.in-Some.place rule = turn_of given been c.in-Some.place rule
    (YieldsList-turn road been c.loop-place.place-iterator c.loop-place.yielded_by c.next.result c.next.new.self (c.in-Some.place, rule)
    c.in-Some.is c.next.ensures.steps) in
    let has : Contains rules rule =
    subst (λ (xs : List Rule). Contains xs rule) c.deref.ensures.value (c.contains.ensures.0 c.if-contains.true) in
    record {
      kept =
          keeps_same _ _ _ _ _ _ turn.next (λ _. rules) (λ _. places)
          (keeps_again (take (length been) given) rules places rule c.loop-place.invariant.kept has);
      index = c.loop-place.invariant.index;
      few = c.loop-place.invariant.few;
    }

pub returns-then-len-eq-MAX_RULES-clause-err : goal.returns-then-len-eq-MAX_RULES-clause-err
returns-then-len-eq-MAX_RULES-clause-err c =
    let given = c.args.given.items in
    let been = c.loop-place.yielded in
    let rules = c.loop-place.rules.items in
    let rule = c.in-Some.rule in
    let road = road_of given c.into_iter.result c.enumerate-place-items.result c.into_iter-place-iterator.result c.into_iter.ensures.rest
    (c.into_iter.ensures.len ∙ c.args.given.ok.0) c.enumerate-place-items.ensures.source c.enumerate-place-items.ensures.count
    c.into_iter-place-iterator.ensures.into_iter_gives in
    let turn : IsTurn given been c.in-Some.place rule = turn_of given been c.in-Some.place rule
    (YieldsList-turn road been c.loop-place.place-iterator c.loop-place.yielded_by c.next.result c.next.new.self (c.in-Some.place, rule)
    c.in-Some.is c.next.ensures.steps) in
    let new : ¬ Contains rules rule = λ has.
    let found : c.contains.result ≡ true =
    c.contains.ensures.1 (subst (λ (xs : List Rule). Contains xs rule) (sym c.deref.ensures.value) has) in
    let missed : c.contains.result ≡ false = c.if-contains.false in
    cc in
    let full : length rules ≡ most_rules = sym c.loop-place.rules.ok.0 ∙ sym c.len.ensures ∙ c.if-len-eq-MAX_RULES.true in
    subst AreTooMany (sym turn.split)
    (too_many (take (length been) given) rules (drop (length been + 1) given) rule c.loop-place.invariant.kept.once new full)

pub loop-place-preserved : goal.loop-place-preserved
loop-place-preserved c =
    let given = c.args.given.items in
    let been = c.loop-place.yielded in
    let rules = c.loop-place.rules.items in
    let places = c.loop-place.places.items in
    let rule = c.in-Some.rule in
    let before : List Rule = take (length been) given in
    let road = road_of given c.into_iter.result c.enumerate-place-items.result c.into_iter-place-iterator.result c.into_iter.ensures.rest
    (c.into_iter.ensures.len ∙ c.args.given.ok.0) c.enumerate-place-items.ensures.source c.enumerate-place-items.ensures.count
    c.into_iter-place-iterator.ensures.into_iter_gives in
    let turn : IsTurn given been c.in-Some.place rule = turn_of given been c.in-Some.place rule
    (YieldsList-turn road been c.loop-place.place-iterator c.loop-place.yielded_by c.next.result c.next.new.self (c.in-Some.place, rule)
    c.in-Some.is c.next.ensures.steps) in
    let new : ¬ Contains rules rule = λ has.
    let found : c.contains.result ≡ true =
    c.contains.ensures.1 (subst (λ (xs : List Rule). Contains xs rule) (sym c.deref.ensures.value) has) in
    let missed : c.contains.result ≡ false = c.if-contains.false in
    cc in
    let at : c.in-Some.place ≡ length before = turn.place_is ∙ sym (length-take-le (length been) given (omega (arith, turn.within))) in
    let rules-are : c.push-in-loop-place.new.self.items ≡ rules ++ rule ∷ [] = c.in_ok-push-2.ensures.items in
    let places-are : c.push-in-loop-place-2.new.self.items ≡ places ++ length before ∷ [] =
    c.in_ok-push-3.ensures.items ∙ ap (λ (k : ℕ). places ++ k ∷ []) at in
    record {
      kept =
          keeps_same _ _ _ _ _ _ turn.next rules-are places-are (keeps_first before rules places rule c.loop-place.invariant.kept new);
      index =
          subst (λ (xs : List Rule). IsIndexOf xs c.push.new.self) (sym rules-are)
          (c.in_ok-push.ensures rules c.loop-place.invariant.index);
      few =
          omega (
            arith,
            ap length rules-are,
            length_push rules rule,
            c.loop-place.rules.ok.0,
            c.len.ensures,
            c.if-len-eq-MAX_RULES.false,
            c.loop-place.invariant.few,
          );
    }

pub returns-clause-ok : goal.returns-clause-ok
returns-clause-ok c =
    let given = c.args.given.items in
    let road = road_of given c.into_iter.result c.enumerate-place-items.result c.into_iter-place-iterator.result c.into_iter.ensures.rest
    (c.into_iter.ensures.len ∙ c.args.given.ok.0) c.enumerate-place-items.ensures.source c.enumerate-place-items.ensures.count
    c.into_iter-place-iterator.ensures.into_iter_gives in
    let end = YieldsList-end road c.loop-place.yielded c.loop-place.place-iterator c.loop-place.yielded_by c.next.result c.next.new.self
    c.in-None.is c.next.ensures.steps in
    let all : take (length c.loop-place.yielded) given ≡ given = take_all _ given (omega (arith, end.1, length-enumerate 0 given)) in
    keeps_same _ _ _ _ _ _ (sym all) (λ _. c.loop-place.rules.items) (λ _. c.loop-place.places.items) c.loop-place.invariant.kept

pub returns-clause-few : goal.returns-clause-few
returns-clause-few c = c.loop-place.invariant.few
