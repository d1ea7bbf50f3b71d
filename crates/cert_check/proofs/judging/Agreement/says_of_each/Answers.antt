use Rattle.std.proofs.Common.{◌≡◌, ℕ, ◌<◌, List, length, true, false, refl, sym, subst, arith}
use Rattle.std.specs.Prelude.{slice_index_or, Any}
use Rattle.std.proofs.lemmas.List.{get_or_default}
use Rattle.machines.specs.declared.arch.Arch.{Arch}
use Rattle.cert_check.specs.Several.{SaysOfRange}
use Rattle.cert_check.specs.inner.Asked.{known_of}
use Rattle.cert_check.proofs.SoFar.{one_more_at}
use Rattle.cert_check.proofs.judging.Agreement.says_of_each.Goals as goal

any_here : (P : Arch → Type 0) (xs : List Arch) (k : ℕ) (d : Arch) → k < length xs → P (slice_index_or xs k d) → Any P xs
any_here P xs k d inside p = (k, slice_index_or xs k d, inside, get_or_default xs k (slice_index_or xs k d) d inside, p)

pub returns-then-says_of_range : goal.returns-then-says_of_range
returns-then-says_of_range g c =
    let a = c.args.self.now in
    let P : Arch → Type 0 = SaysOfRange a.profile.now (known_of a) a.word in (
      λ _. subst (Any P) c.machines-arch-items.ensures.machines
          (any_here P c.machines-arch-items.result.now c.loop-arch.arch-index _ c.loop-arch-test.true (c.if-says_of_range.ensures.0 refl)),
      λ _. refl,
    )

pub loop-arch-preserved : goal.loop-arch-preserved
loop-arch-preserved g c =
    let a = c.args.self.now in
    one_more_at (λ arch. SaysOfRange a.profile.now (known_of a) a.word arch → ⊥) c.machines-arch-items.result.now c.loop-arch.arch-index _
    c.loop-arch-test.true c.loop-arch.invariant (λ is. let e : false ≡ true = c.if-says_of_range.ensures.1 is in cc)

pub returns : goal.returns
returns g c =
    let a = c.args.self.now in
    let P : Arch → Type 0 = SaysOfRange a.profile.now (known_of a) a.word in (
      λ t. absurd (let e : false ≡ true = t in cc),
      λ some. let here = subst (Any P) (sym c.machines-arch-items.ensures.machines) some in
          absurd (c.loop-arch.invariant here.0 here.1 (omega (arith, here.2, c.loop-arch-test.false)) (subst P (sym here.3) here.4)),
    )
