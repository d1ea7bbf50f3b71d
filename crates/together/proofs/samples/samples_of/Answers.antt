use Rattle.std.proofs.Common.{◌≡◌, ◌+◌, ◌*◌, ◌<◌, ◌++◌, inl, length, List, ℕ, [], ◌∷◌, sym, ◌∙◌, ap, subst, arith}
use Rattle.together.specs.OnCall.{AreSamples, AreWays, widened}
use Rattle.together.specs.OnCall.AreWays.{none}
use Rattle.together.proofs.SampleLaws.{begin, length_widened, more_ways, widen}
use Rattle.together.proofs.samples.samples_of.Goals as goal

pub loop-index-init : goal.loop-index-init
loop-index-init c = record {
  are =
      begin c.args.profiles.now c.args.joined.now c.args.call.now c.push.new.self.items
      (c.in_ok-push.ensures.items ∙ ap (λ xs. xs ++ (0 ∷ 0 ∷ 0 ∷ 0 ∷ 0 ∷ 0 ∷ []) ∷ []) c.new-list.ensures.items);
  ways = subst (λ k. AreWays c.args.profiles.now c.args.joined.now c.args.call.now 0 k)
      (sym (ap length (c.in_ok-push.ensures.items ∙ ap (λ xs. xs ++ (0 ∷ 0 ∷ 0 ∷ 0 ∷ 0 ∷ 0 ∷ []) ∷ []) c.new-list.ensures.items))) none;
}

pub loop-index-preserved : goal.loop-index-preserved
loop-index-preserved c =
    let n = c.loop-index.index in
    let lt : n < 6 = omega arith in
    let old : List (List ℕ) = c.loop-index.list.items in
    let values : List ℕ = c.in_ok-values.values.items in
    let more : AreSamples c.args.profiles.now c.args.joined.now c.args.call.now (n + 1) (widened n values old) =
    widen c.args.profiles.now c.args.joined.now c.args.call.now n c.bits_of.result c.deref.result.now values old lt c.bits_of.ensures.is
    (c.deref.ensures.value ∙ c.in_ok-conds.ensures) c.in_ok-values.ensures.ok c.loop-index.invariant.are in
    let is : c.in_ok-list.list.items ≡ widened n values old =
    c.in_ok-list.ensures
    ∙ ap (λ vs. widened n vs c.deref-in-loop-index.result.now) c.deref-in-loop-index-2.ensures.value
    ∙ ap (widened n values) c.deref-in-loop-index.ensures.value in
    let ways : AreWays c.args.profiles.now c.args.joined.now c.args.call.now (n + 1) (length old * length values) =
    more_ways c.args.profiles.now c.args.joined.now c.args.call.now n (length old) c.bits_of.result c.deref.result.now values c.bits_of.ensures.is
    (c.deref.ensures.value ∙ c.in_ok-conds.ensures) c.in_ok-values.ensures.ok c.loop-index.invariant.ways in
    record {
      are = subst (AreSamples c.args.profiles.now c.args.joined.now c.args.call.now (n + 1)) (sym is) more;
      ways =
          subst (AreWays c.args.profiles.now c.args.joined.now c.args.call.now (n + 1)) (sym (ap length is ∙ length_widened n values old)) ways;
    }

pub returns-then-saturating_mul-gt-MOST_COMBINATIONS-clause-err : goal.returns-then-saturating_mul-gt-MOST_COMBINATIONS-clause-err
returns-then-saturating_mul-gt-MOST_COMBINATIONS-clause-err c =
    let n = c.loop-index.index in
    let old : List (List ℕ) = c.loop-index.list.items in
    let values : List ℕ = c.in_ok-values.values.items in
    let ways : AreWays c.args.profiles.now c.args.joined.now c.args.call.now (n + 1) (length old * length values) =
    more_ways c.args.profiles.now c.args.joined.now c.args.call.now n (length old) c.bits_of.result c.deref.result.now values c.bits_of.ensures.is
    (c.deref.ensures.value ∙ c.in_ok-conds.ensures) c.in_ok-values.ensures.ok c.loop-index.invariant.ways in
    let own : c.len.result ≡ length old = omega arith in
    let more : c.len-in-loop-index.result ≡ length values = omega arith in
    let product : c.len.result * c.len-in-loop-index.result ≡ length old * length values =
    ap (λ k. k * c.len-in-loop-index.result) own ∙ ap (λ k. length old * k) more in
    inl (n + 1, length old * length values, ways, omega (arith, c.saturating_mul.ensures))
