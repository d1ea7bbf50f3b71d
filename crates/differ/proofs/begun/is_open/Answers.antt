use Rattle.std.proofs.Common.{◌≡◌, true}
use Rattle.std.proofs.lemmas.Bool.{eqb-false}
use Rattle.differ.proofs.BitLaws.{masked_alike, order_alike}
use Rattle.differ.proofs.begun.is_open.Goals as goal

pub returns-then-is_masked : goal.returns-then-is_masked
returns-then-is_masked c = λ no u v hu hv.
    masked_alike _ _ _ c.args.high c.args.rest u v (c.is_masked.ensures.0 c.if-is_masked.true) (eqb-false _ _ no) hu hv

pub returns : goal.returns
returns c = λ no u v hu hv.
    order_alike _ _ _ c.args.high c.args.rest u v (λ e. let t : c.is_masked.result ≡ true = c.is_masked.ensures.1 e in cc) (eqb-false _ _ no) hu hv
