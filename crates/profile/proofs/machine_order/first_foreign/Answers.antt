use Rattle.std.proofs.Common.{◌≡◌, true, false, Some, List, sym, ◌∙◌, ap, subst}
use Rattle.std.specs.List.{All, Contains}
use Rattle.std.proofs.lemmas.List.{take_all}
use Rattle.std.proofs.lemmas.List.Elements.{All-more}
use Rattle.std.proofs.lemmas.Option.{slice_get-get_or}
use Rattle.profile.specs.declared.rules.Rule.{Rule}
use Rattle.profile.proofs.machine_order.first_foreign.Goals as goal

pub returns-then-not-lists-clause-some : goal.returns-then-not-lists-clause-some
returns-then-not-lists-clause-some c = record {
  rule = c.index-rules-place.result;
  at =
      slice_get-get_or c.args.rules.now c.loop-place.place c.index-rules-place.result c.loop-place-test.true
      ∙ ap Some (sym c.index-rules-place.is);
  foreign = λ has.
      let listed : c.lists.result ≡ true = c.lists.ensures.1 has in
      let missing : c.lists.result ≡ false = c.if-not-lists.true in
      cc;
  least = c.loop-place.invariant;
}

pub loop-place-preserved : goal.loop-place-preserved
loop-place-preserved c =
    let P : Rule → Type 0 = λ rule. Contains c.args.archs.now rule.arch in
    All-more P c.args.rules.now c.loop-place.place c.index-rules-place.result c.loop-place-test.true c.loop-place.invariant
    (subst P c.index-rules-place.is (c.lists.ensures.0 c.if-not-lists.false))

pub returns-clause-none : goal.returns-clause-none
returns-clause-none c =
    let P : List Rule → Type 0 = All (λ (rule : Rule). Contains c.args.archs.now rule.arch) in
    subst P (take_all c.loop-place.place c.args.rules.now c.loop-place-test.false) c.loop-place.invariant
