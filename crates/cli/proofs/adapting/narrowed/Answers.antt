use Rattle.std.proofs.Common.{◌∙◌, inl, inr, refl, sym}
use Rattle.cli.proofs.DoubtLaws.{told_as_doubtful}
use Rattle.cli.proofs.adapting.narrowed.Goals as goal

pub returns-then-not-is_done : goal.returns-then-not-is_done
returns-then-not-is_done c = λ choice is. record {
  made = c.args.made.told;
  is_made = is;
  is_narrowed = inr (sym c.is_done.ensures ∙ c.if-not-is_done.true, refl);
}

pub returns : goal.returns
returns c = λ choice is. record {
  made = c.args.made.told;
  is_made = is;
  is_narrowed = inl (
    sym c.is_done.ensures ∙ c.if-not-is_done.false,
    told_as_doubtful c.args.native c.args.made.told.bytes.items c.in_ok-narrower.field-0.told c.as_doubtful.result c.as_doubtful.ensures.bytes
        c.as_doubtful.ensures.done (rw c.new-document.ensures.bytes at (rw c.new-document.ensures.native at c.in_ok-narrower.ensures)),
  );
}
