use Rattle.review.proofs.told.text_for.Goals as goal

pub returns-clause-tells : goal.returns-clause-tells
returns-clause-tells c =
    let read = c.in_ok-read.read.now in
    let means = c.in_ok-read.ensures.ok in
    record {
      policy = read.profile;
      rules = read.by_entry.rules.items;
      ends = read.by_entry.ends.items;
      read = record { t = means.0; is_text = means.1; means = means.2; are = c.in_ok-read.ensures.rules };
      tells = c.in_ok-text.ensures;
    }
