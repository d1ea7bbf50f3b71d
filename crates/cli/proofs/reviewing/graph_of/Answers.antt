use Rattle.std.proofs.Common.{ℕ, List, ap, inl, inr, refl, subst, sym, ◌∙◌}
use Rattle.byte_order.specs.Turned.{read_as}
use Rattle.show.specs.Shown.{IsDrawn}
use Rattle.cli.proofs.ReviewLaws.{if_ok}
use Rattle.cli.proofs.reviewing.graph_of.Goals as goal

pub returns-then-not-is_done : goal.returns-then-not-is_done
returns-then-not-is_done c = record {
  file = c.in_ok-file.file;
  exported = c.in_ok-file.ensures;
  drawn = inl (sym c.is_done.ensures ∙ c.if-not-is_done.true, refl);
}

pub returns : goal.returns
returns c =
    let same = c.deref-2.ensures.value ∙ (rw c.native.ensures at c.in_ok-filter.ensures) ∙ ap (read_as c.args.document.now.native) c.deref.ensures.value in
    if_ok c.drawn.result _ _
    (λ graph h. record {
      file = c.in_ok-file.file;
      exported = c.in_ok-file.ensures;
      drawn = inr (sym c.is_done.ensures ∙ c.if-not-is_done.false, subst (λ (filter : List ℕ). IsDrawn filter graph) same h);
    })
    c.drawn.ensures
