use Rattle.std.proofs.Common.{◌≡◌, ℕ, ◌<◌, List, length, true, false, refl, sym, subst, arith}
use Rattle.std.specs.Prelude.{slice_index_or, Any}
use Rattle.std.proofs.lemmas.List.{get_or_default}
use Rattle.machines.specs.declared.arch.Arch.{Arch}
use Rattle.machines.specs.Arch.{token_of}
use Rattle.cert_state.specs.declared.literal.Lit.TheVariants.{Bits}
use Rattle.cert_state.specs.Literals.{all_bits}
use Rattle.cert_state.specs.Entailment.{Entails}
use Rattle.cert_check.proofs.SoFar.{one_more_at}
use Rattle.cert_check.proofs.agree.is_listed.Goals as goal

any_here : (P : Arch → Type 0) (xs : List Arch) (k : ℕ) (d : Arch) → k < length xs → P (slice_index_or xs k d) → Any P xs
any_here P xs k d inside p = (k, slice_index_or xs k d, inside, get_or_default xs k (slice_index_or xs k d) d inside, p)

pub loop-arch-preserved : goal.loop-arch-preserved
loop-arch-preserved g c =
    let known = g.S.State.known c.args.facts.now.state.now in
    one_more_at (λ arch. Entails known (Bits 1 all_bits (token_of arch)) → ⊥) c.args.machines.now c.loop-arch.arch-index _
    c.loop-arch-test.true c.loop-arch.invariant (λ is. let e : false ≡ true = c.if-is_of.ensures.1 is in cc)

pub returns-then-is_of : goal.returns-then-is_of
returns-then-is_of g c =
    let known = g.S.State.known c.args.facts.now.state.now in (
      λ _. any_here (λ arch. Entails known (Bits 1 all_bits (token_of arch))) c.args.machines.now c.loop-arch.arch-index _
          c.loop-arch-test.true (c.if-is_of.ensures.0 refl),
      λ _. refl,
    )

pub returns : goal.returns
returns g c =
    let known = g.S.State.known c.args.facts.now.state.now in (
      λ t. absurd (let e : false ≡ true = t in cc),
      λ (k, x, lt, at, is). absurd (c.loop-arch.invariant k x (omega (arith, lt, c.loop-arch-test.false))
          (subst (λ arch. Entails known (Bits 1 all_bits (token_of arch))) (sym at) is)),
    )
