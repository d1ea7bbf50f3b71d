use Rattle.std.proofs.Common.{◌≡◌, ℕ, ◌<◌, List, length, true, false, sym, ◌∙◌, subst, arith}
use Rattle.std.specs.Prelude.{slice_index_or, Any}
use Rattle.std.proofs.lemmas.List.{get_or_default}
use Rattle.machines.specs.declared.numbers.Numbers.{Numbers}
use Rattle.cert_check.proofs.SoFar.{one_more_at}
use Rattle.certify.specs.inner.Leaf.{BeginsWithin}
use Rattle.certify.proofs.calls.middle.Goals as goal

any_here : (P : Numbers → Type 0) (xs : List Numbers) (k : ℕ) (d : Numbers) → k < length xs → P (slice_index_or xs k d) → Any P xs
any_here P xs k d inside p = (k, slice_index_or xs k d, inside, get_or_default xs k (slice_index_or xs k d) d inside, p)

pub loop-numbers-preserved : goal.loop-numbers-preserved
loop-numbers-preserved c =
    one_more_at (λ numbers. BeginsWithin c.args.low c.args.high numbers → ⊥) c.args.foreign.now c.loop-numbers.numbers-index _
    c.loop-numbers-test.true c.loop-numbers.invariant
    (λ is. let e : false ≡ true = sym c.if-begins_within.false ∙ c.begins_within.ensures.1 is in cc)

pub returns-then-begins_within-clause-foreign : goal.returns-then-begins_within-clause-foreign
returns-then-begins_within-clause-foreign c = λ _.
    let begins = c.begins_within.ensures.0 c.if-begins_within.true in
    any_here (λ numbers. BeginsWithin c.args.low c.args.high numbers × (_ ≡ numbers.first)) c.args.foreign.now
    c.loop-numbers.numbers-index _ c.loop-numbers-test.true (begins, omega (arith, begins.0))

pub returns-then-begins_within-clause-half : goal.returns-then-begins_within-clause-half
returns-then-begins_within-clause-half c = λ none.
    absurd (none (any_here (BeginsWithin c.args.low c.args.high) c.args.foreign.now c.loop-numbers.numbers-index _
    c.loop-numbers-test.true (c.begins_within.ensures.0 c.if-begins_within.true)))

pub returns-clause-foreign : goal.returns-clause-foreign
returns-clause-foreign c = λ (k, x, lt, at, begins).
    absurd (c.loop-numbers.invariant k x (omega (arith, lt, c.loop-numbers-test.false))
    (subst (BeginsWithin c.args.low c.args.high) (sym at) begins))
