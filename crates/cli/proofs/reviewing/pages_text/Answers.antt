use Rattle.std.proofs.Common.{inl, inr, refl, sym, ◌∙◌}
use Rattle.cli.proofs.ReviewLaws.{if_ok}
use Rattle.cli.proofs.reviewing.pages_text.Goals as goal

pub returns-then-not-is_done : goal.returns-then-not-is_done
returns-then-not-is_done c = λ one_machine. record {
  first = c.in_ok-first.first;
  is_first = c.in_ok-first.ensures;
  second = c.in_ok-second.second;
  is_second = rw one_machine at c.in_ok-second.ensures;
  page = inl (sym c.is_done.ensures ∙ c.if-not-is_done.true, refl);
}

pub returns-then-not-is_done-2 : goal.returns-then-not-is_done-2
returns-then-not-is_done-2 c = λ one_machine. record {
  first = c.in_ok-first.first;
  is_first = c.in_ok-first.ensures;
  second = c.in_ok-second.second;
  is_second = rw one_machine at c.in_ok-second.ensures;
  page = inr (sym c.is_done.ensures ∙ c.if-not-is_done.false, inl (sym c.is_done-2.ensures ∙ c.if-not-is_done-2.true, refl));
}

pub returns : goal.returns
returns c = λ one_machine.
    if_ok c.page_of_both.result _ _
    (λ told h. record {
      first = c.in_ok-first.first;
      is_first = c.in_ok-first.ensures;
      second = c.in_ok-second.second;
      is_second = rw one_machine at c.in_ok-second.ensures;
      page = inr (sym c.is_done.ensures ∙ c.if-not-is_done.false, inr (sym c.is_done-2.ensures ∙ c.if-not-is_done-2.false, h));
    })
    (c.page_of_both.ensures one_machine)
