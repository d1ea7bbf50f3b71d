use Rattle.std.proofs.Common.{◌≡◌, ◌≢◌, ℕ, ◌<◌, ◌≤◌, bit_and, sym}
use Rattle.profile.specs.Condition.{Meets}
use Rattle.profile.specs.declared.conditions.Op.TheVariants.{Ne, Lt, Le, Eq, Ge, Gt, MaskedEq}
use Rattle.std.specs.Prelude.{max}
use Rattle.widths.specs.Counts.{most_by}
use Rattle.widths.specs.Parts.{ArePatterns}
use Rattle.widths.proofs.LowBitLaws.{if_ok, of_op}
use Rattle.widths.proofs.narrowing.asked.patterns.Goals as goal

pub returns-in-Ne : goal.returns-in-Ne
returns-in-Ne c =
    if_ok (λ l. ArePatterns c.args.bits (max 1 c.args.bits) (λ w. w ≢ c.args.cond.now.value) l.items) (λ l. ArePatterns c.args.bits (most_by c.args.bits c.args.cond.now.op) (Meets c.args.cond.now) l.items)
    (λ l are. of_op c.args.bits c.args.cond.now Ne l.items c.in-Ne.is are) c.unlike.result c.unlike.ensures

pub returns-in-Lt : goal.returns-in-Lt
returns-in-Lt c =
    if_ok (λ l. ArePatterns c.args.bits (max 1 c.args.bits) (λ w. w < c.args.cond.now.value) l.items) (λ l. ArePatterns c.args.bits (most_by c.args.bits c.args.cond.now.op) (Meets c.args.cond.now) l.items)
    (λ l are. of_op c.args.bits c.args.cond.now Lt l.items c.in-Lt.is are) c.lesser.result c.lesser.ensures

pub returns-in-Le : goal.returns-in-Le
returns-in-Le c =
    if_ok (λ l. ArePatterns c.args.bits (max 1 c.args.bits) (λ w. w ≤ c.args.cond.now.value) l.items) (λ l. ArePatterns c.args.bits (most_by c.args.bits c.args.cond.now.op) (Meets c.args.cond.now) l.items)
    (λ l are. of_op c.args.bits c.args.cond.now Le l.items c.in-Le.is are) c.at_most.result c.at_most.ensures

pub returns-in-Eq : goal.returns-in-Eq
returns-in-Eq c =
    if_ok (λ l. ArePatterns c.args.bits 1 (λ w. w ≡ c.args.cond.now.value) l.items) (λ l. ArePatterns c.args.bits (most_by c.args.bits c.args.cond.now.op) (Meets c.args.cond.now) l.items)
    (λ l are. of_op c.args.bits c.args.cond.now Eq l.items c.in-Eq.is are) c.equal.result c.equal.ensures

pub returns-in-Ge : goal.returns-in-Ge
returns-in-Ge c =
    if_ok (λ l. ArePatterns c.args.bits (max 1 c.args.bits) (λ w. c.args.cond.now.value ≤ w) l.items) (λ l. ArePatterns c.args.bits (most_by c.args.bits c.args.cond.now.op) (Meets c.args.cond.now) l.items)
    (λ l are. of_op c.args.bits c.args.cond.now Ge l.items c.in-Ge.is are) c.at_least.result c.at_least.ensures

pub returns-in-Gt : goal.returns-in-Gt
returns-in-Gt c =
    if_ok (λ l. ArePatterns c.args.bits (max 1 c.args.bits) (λ w. c.args.cond.now.value < w) l.items) (λ l. ArePatterns c.args.bits (most_by c.args.bits c.args.cond.now.op) (Meets c.args.cond.now) l.items)
    (λ l are. of_op c.args.bits c.args.cond.now Gt l.items c.in-Gt.is are) c.greater.result c.greater.ensures

pub returns-in-MaskedEq : goal.returns-in-MaskedEq
returns-in-MaskedEq c =
    if_ok (λ l. ArePatterns c.args.bits 1 (λ w. bit_and w c.args.cond.now.value ≡ c.args.cond.now.datum) l.items) (λ l. ArePatterns c.args.bits (most_by c.args.bits c.args.cond.now.op) (Meets c.args.cond.now) l.items)
    (λ l are. of_op c.args.bits c.args.cond.now MaskedEq l.items c.in-MaskedEq.is are) c.masked.result c.masked.ensures
