-- The plan of a profile.
use Rattle.std.proofs.Common.{◌≡◌, ◌↔◌, ◌<◌, ◌≤◌, List, [], ◌∷◌, inl, inr, length, refl, subst, sym, arith, ◌-◌, get_or, take, drop}
use Rattle.std.specs.List.{All}
use Rattle.std.specs.Prelude.{Err, IfOk, IsErrOf, Ok, Result}
use Rattle.std.proofs.lemmas.Bool.{cases_lt}
use Rattle.std.proofs.lemmas.List.Elements.{All-head, All-tail}
use Rattle.std.proofs.lemmas.Option.{slice_get-get_or, slice_get_within}
use Rattle.bpf_insn.specs.Bytes.{insns_of, max_insns}
use Rattle.bpf_insn.specs.declared.instruction.Insn.{Insn}
use Rattle.machines.specs.declared.arch.Arch.{Arch}
use Rattle.profile.specs.Policy.{Policy}
use Rattle.rule_compile.specs.declared.fault.CompileError.{CompileError}
use Rattle.rule_compile.specs.declared.fault.CompileError.TheVariants.{TooLong}
use Rattle.rule_compile.specs.declared.filter.Made.{Made}
use Rattle.rule_compile.specs.declared.outline.Outline.{Outline}
use Rattle.rule_compile.specs.declared.ranges.Leaf.TheVariants as leaf
use Rattle.rule_compile.specs.Outline.{IsCallOf, IsOutlineOf}
use Rattle.rule_compile.specs.Plan.{IsPlanOf}
use Rattle.rule_compile.specs.Right.{IsRightFilter}
use Rattle.rule_compile.specs.inner.Numbers.{IsListed}
use Rattle.rule_compile.specs.inner.Stands.{AreBlocks, BlocksStand}
use Rattle.rule_compile.proofs.DecidesLaws.{before_le}
use Rattle.rule_compile.proofs.FindLaws.{list_parts}
use Rattle.rule_compile.proofs.TurnLaws.{one_verdict, stands_both}

-- the first of listed machines is listed
pub listed_first : (p : Policy) (a : Arch) (archs : List Arch) → All (IsListed p) (a ∷ archs) → IsListed p a
listed_first p a archs all = All-head (IsListed p) a archs all

-- the first element, and the others
pub head_parts : {X : Type 0} (xs : List X) (d : X) → 1 ≤ length xs → xs ≡ get_or xs 0 d ∷ take (length xs - 1) (drop 1 xs)
head_parts [] d some = absurd (omega (arith, some))
head_parts (y ∷ ys) d some = list_parts (y ∷ ys) y some refl

-- what is listed, but for the first
pub others_listed : (p : Policy) (archs : List Arch) → 1 ≤ length archs → All (IsListed p) archs
    → All (IsListed p) (take (length archs - 1) (drop 1 archs))
others_listed p [] some all = absurd (omega (arith, some))
others_listed p (a ∷ archs) some all =
    All-tail (IsListed p) a (take (length (a ∷ archs) - 1) (drop 1 (a ∷ archs)))
    (subst (All (IsListed p)) (head_parts (a ∷ archs) a some) all)

-- ---- the outline

pub outline_is : (policy : Policy) (outline : Outline) → AreBlocks outline.blocks.items → BlocksStand outline.blocks.items
    → All (IsCallOf policy outline.blocks.items) outline.calls.items → IsOutlineOf policy outline
outline_is policy outline are stand calls =
    let blocks = outline.blocks.items in
    record {
      blocks = λ place block at.
          let before = before_le place (length blocks) (omega (arith, slice_get_within blocks place block at)) block.other (are place block at).goes_on in
          stands_both blocks are (leaf.Block place) block.rules.items block.other before (stand place block at);
      ranges = λ k d inside. (are k (get_or blocks k d) (slice_get-get_or blocks k d inside)).tiles;
      one = λ place inside. one_verdict blocks are (leaf.Block place) inside;
      calls = calls;
    }

-- ---- from a plan to a filter

module _ (policy : Policy) (p : List Insn) (plan : IsPlanOf policy p) where
  plan_is_right : length p ≤ max_insns → IsRightFilter policy p
  plan_is_right limit = record {
    accepted = record { some = plan.some; limit = limit; no_cause = plan.no_cause };
    gives = plan.gives;
  }

  -- what is made of it is right
  pub made_is_right : (r : Result Made CompileError) → IsErrOf r TooLong ↔ (max_insns < length p)
      → IfOk r (λ made. insns_of made.bytes.items ≡ p) → IfOk r (λ made. IsRightFilter policy (insns_of made.bytes.items))
  made_is_right (Ok made) long read =
      let limit : length p ≤ max_insns = elim (cases_lt max_insns (length p)) [
        | inl longer ↦ let no = long.1 longer in cc
        | inr not_longer ↦ not_longer
      ] in
      subst (IsRightFilter policy) (sym read) (plan_is_right limit)
  made_is_right (Err e) long read = tt
