use Rattle.std.proofs.Common.{◌≡◌, ℕ, ◌<◌, length, get_or, true, false, refl, sym, ◌∙◌, ap, subst, arith}
use Rattle.std.specs.List.{All}
use Rattle.std.proofs.lemmas.List.{get_or_default}
use Rattle.std.proofs.lemmas.List.Elements.{All-contains}
use Rattle.machines.specs.Arch.{token_of}
use Rattle.profile.specs.declared.rules.Rule.{Rule}
use Rattle.profile.specs.Latest.{IsLatest}
use Rattle.profile.specs.inner.Places.{latest_of}
use Rattle.profile.proofs.Walks.{IsOf, IsNext, begins, next_within, comes_to, passes, goes_down, all_fail}
use Rattle.profile.proofs.distinct.contains.Goals as goal

-- equal rules are for one call
equal_is_of : (rule : Rule) → IsOf (λ x. x ≡ rule) (token_of rule.arch) rule.nr
equal_is_of rule x e = record { machine = ap (λ (y : Rule). token_of y.arch) e; number = ap (λ (y : Rule). y.nr) e }

pub loop-next-init : goal.loop-next-init
loop-next-init c =
    let rules = c.args.rules.now in
    let rule = c.args.rule.now in
    let latest : c.latest-next.result ≡ latest_of c.args.index.now (token_of rule.arch) rule.nr =
    c.latest-next.ensures ∙ ap (λ (t : ℕ). latest_of c.args.index.now t rule.nr) c.token.ensures in
    begins (λ (x : Rule). x ≡ rule) rules (token_of rule.arch) rule.nr (length rules) c.latest-next.result
    (subst (IsLatest rules (token_of rule.arch) rule.nr (length rules)) (sym latest) (c.requires.latest (token_of rule.arch) rule.nr))

pub bounds-rules-place : goal.bounds-rules-place
bounds-rules-place c = next_within _ _ _ _ _ c.loop-next.next c.in-Some.place c.in-Some.is c.loop-next.invariant

pub earlier-next-requires : goal.earlier-next-requires
earlier-next-requires c =
    let within : c.in-Some.place < length c.args.rules.now =
    next_within _ _ _ _ _ c.loop-next.next c.in-Some.place c.in-Some.is c.loop-next.invariant in
    omega (arith, within, c.requires.as_many)

pub loop-next-preserved : goal.loop-next-preserved
loop-next-preserved c =
    let rule = c.args.rule.now in
    let turn : IsNext (λ (x : Rule). x ≡ rule) c.args.rules.now (token_of rule.arch) rule.nr (length c.args.rules.now) c.in-Some.place
    c.index-rules-place.result =
    comes_to _ _ _ _ _ c.loop-next.next c.in-Some.place c.index-rules-place.result c.in-Some.is c.loop-next.invariant c.index-rules-place.is in
    let fails : ¬ (c.index-rules-place.result ≡ rule) = λ e.
    let found : c.same.result ≡ true = c.same.ensures.1 e in
    let missed : c.same.result ≡ false = c.if-same.false in
    cc in
    passes (λ (x : Rule). x ≡ rule) c.args.rules.now c.args.index.now (token_of rule.arch) rule.nr (length c.args.rules.now) c.in-Some.place
    c.index-rules-place.result c.earlier-next.result c.requires (equal_is_of rule) turn fails c.earlier-next.ensures

pub loop-next-smaller : goal.loop-next-smaller
loop-next-smaller c =
    let rule = c.args.rule.now in
    let turn : IsNext (λ (x : Rule). x ≡ rule) c.args.rules.now (token_of rule.arch) rule.nr (length c.args.rules.now) c.in-Some.place
    c.index-rules-place.result =
    comes_to _ _ _ _ _ c.loop-next.next c.in-Some.place c.index-rules-place.result c.in-Some.is c.loop-next.invariant c.index-rules-place.is in
    goes_down (λ (x : Rule). x ≡ rule) c.args.rules.now c.args.index.now (token_of rule.arch) rule.nr (length c.args.rules.now) c.in-Some.place
    c.index-rules-place.result c.loop-next.next c.earlier-next.result c.requires turn c.in-Some.is c.earlier-next.ensures

pub returns : goal.returns
returns c =
    let rules = c.args.rules.now in
    let rule = c.args.rule.now in
    let none : All (λ (x : Rule). ¬ (x ≡ rule)) rules =
    all_fail (λ (x : Rule). x ≡ rule) rules (token_of rule.arch) rule.nr c.loop-next.next (equal_is_of rule) c.loop-next.invariant
    c.in_default.is in (
      λ t. cc,
      λ has. absurd (All-contains (λ (x : Rule). ¬ (x ≡ rule)) rules rule none has refl),
    )

pub returns-then-same : goal.returns-then-same
returns-then-same c =
    let rules = c.args.rules.now in
    let rule = c.args.rule.now in
    let within : c.in-Some.place < length rules =
    next_within _ _ _ _ _ c.loop-next.next c.in-Some.place c.in-Some.is c.loop-next.invariant in
    let at : get_or rules c.in-Some.place rule ≡ c.index-rules-place.result =
    get_or_default rules c.in-Some.place rule c.index-rules-place.result within ∙ sym c.index-rules-place.is in
    (λ _. (c.in-Some.place, within, at ∙ c.same.ensures.0 c.if-same.true), λ _. refl)
