use Rattle.std.proofs.Common.{ℕ, ◌<◌, ◌^◌, inl, inr, bit_or, subst}
use Rattle.std.proofs.lemmas.Bool.{cases_Bool}
use Rattle.std.proofs.lemmas.Nat.{or_lt}
use Rattle.profile.specs.Operator.{mask_of}
use Rattle.profile.proofs.Sides.{found, not_near}
use Rattle.profile.proofs.meets.meet.Goals as goal

pub returns : goal.returns
returns c =
    let a = c.args.a.now in
    let b = c.args.b.now in
    let narrow = c.args.narrow in
    let lt : bit_or (mask_of a.op a.value) (mask_of b.op b.value) < 2 ^ 64 =
    subst (λ (m : ℕ). bit_or (mask_of a.op a.value) m < 2 ^ 64) c.mask-2.ensures
    (subst (λ (m : ℕ). bit_or m c.mask-2.result < 2 ^ 64) c.mask.ensures
    (or_lt 64 c.mask.result c.mask-2.result c.mask.type_inv c.mask-2.type_inv)) in (
      c.meet_near-2.ensures.found,
      λ common.
          elim (found narrow a b lt common) [
            | inl least ↦ absurd (c.meet_at_an_end.ensures.least c.if-meet_at_an_end.false least)
            | inr (inl greatest) ↦ absurd (c.meet_at_an_end.ensures.greatest c.if-meet_at_an_end.false greatest)
            | inr (inr (inl left)) ↦ absurd
                (not_near narrow a b a.value left (c.meet_near.ensures.here c.if-meet_near.false) (c.meet_near.ensures.after c.if-meet_near.false))
            | inr (inr (inr right)) ↦ elim (cases_Bool c.meet_near-2.result) [
              | inl is ↦ is
              | inr missed ↦ absurd
                  (not_near narrow a b b.value right (c.meet_near-2.ensures.here missed) (c.meet_near-2.ensures.after missed))
            ]
          ],
    )
