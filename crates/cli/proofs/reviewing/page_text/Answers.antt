use Rattle.std.proofs.Common.{inl, inr, refl, sym, ◌∙◌}
use Rattle.cli.proofs.ReviewLaws.{if_ok}
use Rattle.cli.proofs.reviewing.page_text.Goals as goal

pub returns-then-not-is_done : goal.returns-then-not-is_done
returns-then-not-is_done c = record {
  review = c.in_ok-review.review;
  is_reviewed = c.in_ok-review.ensures;
  page = inl (sym c.is_done.ensures ∙ c.if-not-is_done.true, refl);
}

pub returns : goal.returns
returns c =
    if_ok c.page_of.result _ _
    (λ told h. record {
      review = c.in_ok-review.review;
      is_reviewed = c.in_ok-review.ensures;
      page = inr (sym c.is_done.ensures ∙ c.if-not-is_done.false, h);
    })
    c.page_of.ensures
