use Rattle.certify.proofs.told.told_or_cut.Goals as goal

-- a profile without conditions that is not settled is cut before

pub returns-in-Some-cut_of_mask-clause-plain : goal.returns-in-Some-cut_of_mask-clause-plain
returns-in-Some-cut_of_mask-clause-plain c = λ word nodes is. absurd (c.in_default.ensures word nodes is)

pub returns-in-Some-cut_of_point-clause-plain : goal.returns-in-Some-cut_of_point-clause-plain
returns-in-Some-cut_of_point-clause-plain c = λ word nodes is. absurd (c.in_default.ensures word nodes is)

pub returns-clause-plain : goal.returns-clause-plain
returns-clause-plain c = λ word nodes is. absurd (c.in_default.ensures word nodes is)

pub returns-clause-never : goal.returns-clause-never
returns-clause-never c = λ word nodes is. absurd (c.in_default.ensures word nodes is)
