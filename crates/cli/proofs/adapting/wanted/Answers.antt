use Rattle.std.proofs.Common.{List, ℕ, ap, arith, map, subst, sym, ◌∙◌, ◌≡◌}
use Rattle.std.specs.Prelude.{filter}
use Rattle.engines.specs.Words.{AskFor}
use Rattle.cli.proofs.WantedLaws.{how_many, is_other, now_of}
use Rattle.cli.proofs.adapting.wanted.Goals as goal

pub returns-then-saturating_sub-gt1 : goal.returns-then-saturating_sub-gt1
returns-then-saturating_sub-gt1 c = λ w. (
  λ e. cc,
  λ asks. absurd (omega (arith, how_many c.args.words.now c.in_ok-rest.rest.items c.in_ok-rest.ensures, asks.once)),
)

pub returns : goal.returns
returns c =
    let same : map now_of c.deref.result.now ≡ filter is_other (map now_of c.args.words.now) =
    ap (map now_of) c.deref.ensures.value ∙ c.in_ok-rest.ensures in
    λ w. (
      λ is. record {
        once = omega (arith, how_many c.args.words.now c.in_ok-rest.rest.items c.in_ok-rest.ensures);
        others = subst (λ (ws : List (List ℕ)). AskFor ws w) same ((c.wanted_of.ensures w).0 is);
      },
      λ asks. (c.wanted_of.ensures w).1 (subst (λ (ws : List (List ℕ)). AskFor ws w) (sym same) asks.others),
    )
