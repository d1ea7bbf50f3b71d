use Rattle.std.proofs.Common.{◌++◌, [], ◌∷◌, refl, sym, subst, arith}
use Rattle.std.specs.Prelude.{Contains, Option, option_to_list}
use Rattle.std.proofs.lemmas.List.Elements.{Contains-append_left, Contains-append_right}
use Rattle.cert_state.specs.declared.literal.Lit.{Lit}
use Rattle.cert_check.proofs.entailed.in_turn.Goals as goal

pub returns-in-Some : goal.returns-in-Some
returns-in-Some g c = (
  Contains-append_left (g.S.State.known c.args.known.now.state.now) (option_to_list c.args.known.now.more) c.args.literal.now c.in-Some.ensures.0,
  c.in-Some.ensures.1,
)

pub returns-then-is_fact : goal.returns-then-is_fact
returns-then-is_fact g c =
    let known = g.S.State.known c.args.known.now.state.now in
    let l = c.args.literal.now in
    let one : Contains (l ∷ []) l = (0, omega arith, refl) in (
      subst (λ (o : Option Lit). Contains (known ++ option_to_list o) l) (sym (c.if-is_fact.ensures.0 refl))
          (Contains-append_right known (l ∷ []) l one),
      c.requires,
    )
