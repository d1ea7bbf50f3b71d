use Rattle.cert_state.proofs.gathered.are_exact.Goals as goal

pub returns-then-free : goal.returns-then-free
returns-then-free g c = λ _ m d has. absurd (c.requires c.if-free.true m d has)
