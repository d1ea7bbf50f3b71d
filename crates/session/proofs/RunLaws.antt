-- What has come, by the bundles that a script still has.
use Rattle.std.proofs.Common.{◌≡◌, ℕ, List, sym, subst}
use Rattle.std.specs.Prelude.{Option, None}
use Rattle.std.specs.Option.{option_to_list}
use Rattle.std.specs.Io.KnownBytes.{Consumes}
use Rattle.session.specs.declared.bundles.Bundles.{Bundles}
use Rattle.session.specs.inner.Lines.{HasCome, Standing}
use Rattle.session.proofs.ComeLaws.{came_no_more}

module _ (here bundles : Bundles) (same : here ≡ bundles) (s : Standing) (left before held h : Option (List ℕ))
    (come : HasCome bundles s left before held h) where
  pub came_here : HasCome here s left before held h
  came_here = subst (λ (b : Bundles). HasCome b s left before held h) (sym same) come

  -- there is no next byte
  pub came_all : (after : Option (List ℕ)) (byte : Option ℕ) → byte ≡ None → Consumes before after (option_to_list byte)
      → HasCome here s left after held h
  came_all after byte none taken =
      came_no_more here s left before held h came_here after (subst (λ (b : Option ℕ). Consumes before after (option_to_list b)) none taken)
