use Rattle.std.proofs.Common.{List, ℕ, refl, subst, ◌∙◌}
use Rattle.section.specs.Unlike.{IsLarge}
use Rattle.section.proofs.TakenLaws.{is_large}
use Rattle.section.proofs.taken.take_whole.Goals as goal

pub returns-then-is_large : goal.returns-then-is_large
returns-then-is_large c =
    is_large c.args.native c.args.bytes.items _ c.requires c.new-then-is_large-2.ensures.native
    (subst (λ (b : List ℕ). IsLarge b) c.deref.ensures.value (c.is_large.ensures.large c.if-is_large.true))
    refl (c.new-then-is_large-2.ensures.bytes ∙ c.new-then-is_large.ensures.items) c.new.ensures.items
