use Rattle.std.proofs.Common.{◌≡◌, ◌<◌, length, Some, true, false, refl, sym, ◌∙◌, ap, subst, arith}
use Rattle.std.specs.Prelude.{slice_get}
use Rattle.std.proofs.lemmas.Option.{same_Some, slice_get-get_or}
use Rattle.machines.specs.Arch.{token_of}
use Rattle.profile.specs.declared.rules.Rule.{Rule}
use Rattle.profile.specs.Rule.{Clash}
use Rattle.profile.specs.Latest.{IsLatest}
use Rattle.profile.proofs.Walks.{IsOf, IsNext, begins, next_within, comes_to, passes, goes_down, ends}
use Rattle.profile.proofs.clashes.clashes_before.Goals as goal

-- rules that clash are for one call
clash_is_of : (rule : Rule) → IsOf (λ x. Clash x rule) (token_of rule.arch) rule.nr
clash_is_of rule x (unlike, (r, is_r, of-x, of-rule)) = record {
  machine = sym of-x.machine ∙ of-rule.machine;
  number = sym of-x.number ∙ of-rule.number;
}

pub earlier-next-requires : goal.earlier-next-requires
earlier-next-requires c = omega (arith, c.requires.within, c.requires.index_is.as_many)

pub loop-next-init : goal.loop-next-init
loop-next-init c =
    let rules = c.args.rules.now in
    let rule = c.index-rules-second.result in
    let at : slice_get rules c.args.second ≡ Some rule =
    slice_get-get_or rules c.args.second rule c.requires.within ∙ ap Some (sym c.index-rules-second.is) in
    begins (λ (x : Rule). Clash x rule) rules (token_of rule.arch) rule.nr c.args.second c.earlier-next.result
    (subst (IsLatest rules (token_of rule.arch) rule.nr c.args.second) (sym c.earlier-next.ensures)
    (c.requires.index_is.earlier c.args.second rule at))

pub bounds-rules-place : goal.bounds-rules-place
bounds-rules-place c = next_within _ _ _ _ _ c.loop-next.next c.in-Some.place c.in-Some.is c.loop-next.invariant

pub earlier-next-requires-in-Some : goal.earlier-next-requires-in-Some
earlier-next-requires-in-Some c =
    let within : c.in-Some.place < length c.args.rules.now =
    next_within _ _ _ _ _ c.loop-next.next c.in-Some.place c.in-Some.is c.loop-next.invariant in
    omega (arith, within, c.requires.index_is.as_many)

pub loop-next-preserved : goal.loop-next-preserved
loop-next-preserved c =
    let rules = c.args.rules.now in
    let rule = c.index-rules-second.result in
    let turn : IsNext (λ (x : Rule). Clash x rule) rules (token_of rule.arch) rule.nr c.args.second c.in-Some.place c.index-rules-place.result =
    comes_to _ _ _ _ _ c.loop-next.next c.in-Some.place c.index-rules-place.result c.in-Some.is c.loop-next.invariant c.index-rules-place.is in
    let fails : ¬ Clash c.index-rules-place.result rule = λ e.
    let found : c.clash.result ≡ true = c.clash.ensures.1 e in
    let missed : c.clash.result ≡ false = c.if-clash.false in
    cc in
    passes (λ (x : Rule). Clash x rule) rules c.args.index.now (token_of rule.arch) rule.nr c.args.second c.in-Some.place
    c.index-rules-place.result c.earlier-next-in-Some.result c.requires.index_is (clash_is_of rule) turn fails c.earlier-next-in-Some.ensures

pub loop-next-smaller : goal.loop-next-smaller
loop-next-smaller c =
    let rules = c.args.rules.now in
    let rule = c.index-rules-second.result in
    let turn : IsNext (λ (x : Rule). Clash x rule) rules (token_of rule.arch) rule.nr c.args.second c.in-Some.place c.index-rules-place.result =
    comes_to _ _ _ _ _ c.loop-next.next c.in-Some.place c.index-rules-place.result c.in-Some.is c.loop-next.invariant c.index-rules-place.is in
    goes_down (λ (x : Rule). Clash x rule) rules c.args.index.now (token_of rule.arch) rule.nr c.args.second c.in-Some.place
    c.index-rules-place.result c.loop-next.next c.earlier-next-in-Some.result c.requires.index_is turn c.in-Some.is c.earlier-next-in-Some.ensures

pub returns : goal.returns
returns c =
    let rules = c.args.rules.now in
    let rule = c.index-rules-second.result in
    let second : slice_get rules c.args.second ≡ Some rule =
    slice_get-get_or rules c.args.second rule c.requires.within ∙ ap Some (sym c.index-rules-second.is) in (
      λ t. cc,
      λ (i, (lt, a, b, at-i, at-j, clash)).
          absurd
          (ends (λ (x : Rule). Clash x rule) rules (token_of rule.arch) rule.nr c.args.second c.loop-next.next (clash_is_of rule)
          c.loop-next.invariant c.in_default.is i a lt at-i
          (subst (λ (y : Rule). Clash a y) (same_Some b rule (sym at-j ∙ second)) clash)),
    )

pub returns-then-clash : goal.returns-then-clash
returns-then-clash c =
    let rules = c.args.rules.now in
    let rule = c.index-rules-second.result in
    let turn : IsNext (λ (x : Rule). Clash x rule) rules (token_of rule.arch) rule.nr c.args.second c.in-Some.place c.index-rules-place.result =
    comes_to _ _ _ _ _ c.loop-next.next c.in-Some.place c.index-rules-place.result c.in-Some.is c.loop-next.invariant c.index-rules-place.is in
    let second : slice_get rules c.args.second ≡ Some rule =
    slice_get-get_or rules c.args.second rule c.requires.within ∙ ap Some (sym c.index-rules-second.is) in (
      λ _. (
        c.in-Some.place,
        (turn.before, c.index-rules-place.result, rule, turn.at, second, c.clash.ensures.0 c.if-clash.true),
      ),
      λ _. refl,
    )
