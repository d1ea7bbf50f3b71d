use Rattle.std.proofs.Common.{rules, ◌<◌, ◌≤◌, ◌^◌, ⊎_elim, arith}
use Rattle.std.specs.Prelude.{IfOk, Result, Ok, Err}
use Rattle.cert_state.proofs.BitLaws.{and_all}
use Rattle.certify.proofs.told.told_word.Goals as goal

-- what can not be given has any fact
never : {A E : Type 0} (result : Result A E) (P : Type 0) (Q R : A → Type 0) → IfOk result (λ u. P × Q u) → (P → ⊥) → IfOk result R
never (Ok u) P Q R is not = absurd (not is.0)
never (Err e) P Q R is not = tt

pub returns-then-low-high : goal.returns-then-low-high
returns-then-low-high c =
    never c.or_number.result _ _ _ c.or_number.ensures
    (λ is. ⊎_elim (λ (past : 16 ≤ c.args.word). omega (arith, past, c.requires)) (λ none. omega (arith, none)) (c.below.ensures.none is))

pub returns : goal.returns
returns c =
    let low = c.unwrap_or-low.result.0 in
    let small : low < 2 ^ 32 = search rules in
    never c.or_number-2.result _ _ _ c.or_number-2.ensures
    (λ is. ⊎_elim (λ (past : 16 ≤ c.args.word). omega (arith, past, c.requires)) (λ other. other (and_all low small)) (c.bits.ensures.none is))
