use Rattle.std.proofs.Common.{◌≡◌, ℕ, List, IfOk, subst, Vec, Global}
use Rattle.std.specs.Prelude.{Result, Ok, Err}
use Rattle.machines.specs.declared.arch.Family.TheVariants.{Whole}
use Rattle.section.specs.declared.kinds.Kind.{Kind}
use Rattle.section.specs.Texts.{IsKind, IsTakenAs, bundle_of}
use Rattle.section.proofs.reading.bundle_of.Goals as goal

taken : {E : Type 0} (kind : Kind) (bytes seen : List ℕ) → IsKind seen kind → seen ≡ bytes → (r : Result (Vec ℕ Global) E)
    → IfOk r (λ text. text.items ≡ bundle_of kind bytes) → IfOk r (λ text. IsTakenAs Whole bytes text.items)
taken kind bytes seen is same (Ok text) h = (kind, subst (λ l. IsKind l kind) same is, h)
taken kind bytes seen is same (Err e) h = tt

pub returns : goal.returns
returns c =
    taken c.in_ok-kind.kind c.args.bytes.items c.deref.result.now c.in_ok-kind.ensures c.deref.ensures.value c.taken_as.result c.taken_as.ensures
