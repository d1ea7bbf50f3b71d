use Rattle.explain.proofs.audited.any.explanation.Goals as goal

pub returns-clause-explains : goal.returns-clause-explains
returns-clause-explains c =
    let means = c.in_ok-read.ensures.ok in
    record {
      policy = c.in_ok-read.read.now.profile;
      rules = c.in_ok-read.read.now.by_entry.rules.items;
      ends = c.in_ok-read.read.now.by_entry.ends.items;
      read = record { t = means.0; is_text = means.1; means = means.2; are = c.in_ok-read.ensures.rules };
      told = rw c.native.ensures at (rw c.family.ensures at c.in_ok-text.ensures);
    }
