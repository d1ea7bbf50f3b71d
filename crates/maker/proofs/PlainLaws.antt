-- A bundle that means a plain profile is not refused for what is made of it.
use Rattle.std.proofs.Common.{◌≡◌, ◌↔◌, ◌<◌, ◌≤◌, ℕ, inl, inr, Bool, List, length, refl, sym, subst}
use Rattle.std.specs.Prelude.{◌≢◌, Option, None, Result, Ok, Err, IfErr, IfOk, IsErrOf}
use Rattle.std.specs.Result.{IsErrAnd}
use Rattle.bpf_insn.specs.declared.instruction.Insn.{Insn}
use Rattle.bpf_insn.specs.Bytes.{insns_of, max_insns, view_fault}
use Rattle.machines.specs.declared.arch.Arch.{Arch}
use Rattle.profile.specs.Policy.{IsClear, Policy}
use Rattle.profile_json.proofs.unbroken.Unbroken.{meaning_is_one, meaning_is_unbroken}
use Rattle.rule_compile.specs.declared.fault.CompileError.{CompileError}
use Rattle.rule_compile.specs.declared.fault.CompileError.TheVariants as compiler
use Rattle.rule_compile.specs.Right.{IsRightFilter}
use Rattle.rule_compile.specs.declared.filter.Made.{Made}
use Rattle.rule_compile.specs.Plan.{IsPlanOf, IsPlannedTooLong}
use Rattle.rule_compile.proofs.PlanLaws.{made_is_right}
use Rattle.rule_compile.specs.Shape.{IsCallFilter, IsPlain}
use Rattle.rule_compile.specs.Steady.{IsSteady, Nothing}
use Rattle.kernel_check.specs.Accepted.{IsAccepted}
use Rattle.cert_check.specs.Right.{IsRight}
use Rattle.cert_check.specs.Valid.{IsValidCertificate}
use Rattle.cert_check.proofs.ValidLaws.{kept}
use Rattle.certify.specs.declared.error.CertifyError.{CertifyError}
use Rattle.certify.specs.declared.error.CertifyError.TheVariants as maker
use Rattle.certify.specs.Error.{IsOfSize}
use Rattle.maker.proofs.CompiledLaws.{compiled}
use Rattle.texts.specs.Failures.{Failures}
use Rattle.texts.specs.declared.streams.fault.WriteFault.{WriteFault}
use Rattle.maker.specs.declared.export.form.Form.{Form}
use Rattle.maker.specs.declared.make_error.MakeError.{MakeError}
use Rattle.maker.specs.declared.make_error.MakeError.TheVariants.{Profile, Compile, Certify, Check, OutOfMemory}
use Rattle.maker.specs.Exported.{Exports, ExportsFilter, IsToldAs, IsMakeError}
use Rattle.maker.specs.Finding.{IsBundle}
use Rattle.maker.specs.Plain.{IsNotPlain, IsPlainBundle}
use Rattle.maker.specs.inner.Proposed.{IsMade, IsUnbroken}
use Rattle.maker.proofs.FindingLaws.{no_fault, one_policy}

-- ---- steps

-- a step that lacks memory is told so
pub told_memory : {E T : Type 0} (step : E → MakeError) (memory e : E) (r : Result T MakeError) → IsErrAnd r (IsToldAs step memory e)
    → e ≡ memory → IfErr r (λ u. u ≡ OutOfMemory)
told_memory step memory e (Ok x) told is = tt
told_memory step memory e (Err u) (inl h) is = h.1
told_memory step memory e (Err u) (inr h) is = absurd (h.0 is)

-- a bundle of which a step gives nothing is not plain, if memory is not what it lacks
is_not_plain : {E : Type 0} (memory e : E) (native : Arch) (bundle : List ℕ) (policy : Policy) → e ≢ memory
    → (IsPlain policy → e ≡ memory) → IsBundle native bundle policy → IsNotPlain native bundle
is_not_plain memory e native bundle policy other never is = (policy, is, λ plain. other (never plain))

not_compiled : (policy : Policy) (e : CompileError) (u : MakeError) → (IsPlain policy → e ≡ compiler.OutOfMemory)
    → (e ≡ compiler.TooLong → IsPlannedTooLong policy) → IsToldAs Compile compiler.OutOfMemory e u
    → (native : Arch) (bundle : List ℕ) → IsBundle native bundle policy → u ≢ OutOfMemory
    → IsMakeError native bundle u
not_compiled policy e u never planned (inl h) native bundle is other = absurd (other h.1)
not_compiled policy e u never planned (inr h) native bundle is other =
    subst (IsMakeError native bundle) (sym h.1)
    (too_long e h.0, (is_not_plain compiler.OutOfMemory e native bundle policy h.0 never is, (policy, is, planned (too_long e h.0)))) where
      too_long : (e : CompileError) → e ≢ compiler.OutOfMemory → e ≡ compiler.TooLong
      too_long compiler.TooLong other = refl
      too_long compiler.OutOfMemory other = absurd (other refl)

-- of the profile that a bundle means, the maker of certificates tells of sizes alone
abbrev pub IsSized : Policy → CertifyError → Type 0
IsSized policy e = IsClear policy.rules → IsOfSize e

not_certified : (policy : Policy) (e : CertifyError) (u : MakeError) → (IsPlain policy → e ≡ maker.OutOfMemory) → IsSized policy e
    → IsToldAs Certify maker.OutOfMemory e u → (native : Arch) (bundle : List ℕ) → IsBundle native bundle policy → u ≢ OutOfMemory
    → IsMakeError native bundle u
not_certified policy e u never sized (inl h) native bundle is other = absurd (other h.1)
not_certified policy e u never sized (inr h) native bundle is other =
    subst (IsMakeError native bundle) (sym h.1)
    (too_large (sized is.2.calls.clear), is_not_plain maker.OutOfMemory e native bundle policy h.0 never is) where
      too_large : IsOfSize e → e ≡ maker.TooLarge
      too_large (inl large) = large
      too_large (inr memory) = absurd (h.0 memory)

-- what is told of a step that stops
module _ {T : Type 0} (policy : Policy) (r : Result T MakeError) where
  pub told_compile : (e : CompileError) → IsErrAnd r (IsToldAs Compile compiler.OutOfMemory e)
      → (IsPlain policy → e ≡ compiler.OutOfMemory) → (e ≡ compiler.TooLong → IsPlannedTooLong policy)
      → (native : Arch) (bundle : List ℕ) → IsBundle native bundle policy
      → IfErr r (λ u. u ≢ OutOfMemory → IsMakeError native bundle u)
  told_compile e told never planned native bundle is = at r told where
    at : (r : Result T MakeError) → IsErrAnd r (IsToldAs Compile compiler.OutOfMemory e)
        → IfErr r (λ u. u ≢ OutOfMemory → IsMakeError native bundle u)
    at (Ok x) told = tt
    at (Err u) told = not_compiled policy e u never planned told native bundle is

  pub told_certify : (e : CertifyError) → IsErrAnd r (IsToldAs Certify maker.OutOfMemory e)
      → (IsPlain policy → e ≡ maker.OutOfMemory) → IsSized policy e → (native : Arch) (bundle : List ℕ) → IsBundle native bundle policy
      → IfErr r (λ u. u ≢ OutOfMemory → IsMakeError native bundle u)
  told_certify e told never sized native bundle is = at r told where
    at : (r : Result T MakeError) → IsErrAnd r (IsToldAs Certify maker.OutOfMemory e)
        → IfErr r (λ u. u ≢ OutOfMemory → IsMakeError native bundle u)
    at (Ok x) told = tt
    at (Err u) told = not_certified policy e u never sized told native bundle is

-- ---- what is made of a plain profile

module _ (policy : Policy) (p : List Insn) (filter : List ℕ) (same : p ≡ insns_of filter)
    (shape : IsPlain policy → IsCallFilter policy (insns_of filter)) where
  pub seen : IsPlain policy → IsCallFilter policy p
  seen is = subst (IsCallFilter policy) (sym same) (shape is)

  pub certifies : (e : CertifyError) → (IsPlain policy → IsCallFilter policy p → e ≡ maker.OutOfMemory) → IsPlain policy
      → e ≡ maker.OutOfMemory
  certifies e never is = never is (seen is)

  -- a right filter that compares steadily has a certificate, but for want of memory and the limits of the format
  pub sizes : (e : CertifyError) → IsRightFilter policy (insns_of filter) → IsSteady (insns_of filter) 0 Nothing
      → (IsRight policy p → IsSteady p 0 Nothing → IsOfSize e) → IsSized policy e
  sizes e right steady sure clear =
      let told : IsRight policy (insns_of filter) → IsSteady (insns_of filter) 0 Nothing → IsOfSize e =
      subst (λ (q : List Insn). IsRight policy q → IsSteady q 0 Nothing → IsOfSize e) same sure in
      told (compiled policy (insns_of filter) clear right) steady

-- a certificate that keeps each rule leaves none broken
pub unbroken : (policy : Policy) (p : List Insn) (filter cert : List ℕ) → p ≡ insns_of filter → view_fault filter ≡ None
    → IsAccepted (insns_of filter)
    → IsValidCertificate policy p cert → IsUnbroken policy filter cert
unbroken policy p filter cert same whole taken valid =
    kept policy filter cert whole taken (subst (λ (q : List Insn). IsValidCertificate policy q cert) same valid)

-- and so are they as they were lent
pub unbroken_lent : (policy : Policy) (filter lent cert written : List ℕ) → lent ≡ filter → written ≡ cert → IsUnbroken policy filter cert
    → IsUnbroken policy lent written
unbroken_lent policy filter lent cert written f c kept =
    subst (λ (x : List ℕ). IsUnbroken policy x written) (sym f) (subst (IsUnbroken policy filter) (sym c) kept)

-- an error that tells of memory alone says nothing of the bundle
pub only_memory : {T : Type 0} (r : Result T MakeError) → IfErr r (λ u. u ≡ OutOfMemory) → (native : Arch) (bundle : List ℕ)
    → IfErr r (λ u. u ≢ OutOfMemory → IsMakeError native bundle u)
only_memory (Ok x) is native bundle = tt
only_memory (Err u) is native bundle = λ other. absurd (other is)

-- the compiler's filter of what was planned
module _ (policy : Policy) (p : List Insn) (plan : IsPlanOf policy p) where
  pub made : (r : Result Made CompileError) → IsErrOf r compiler.TooLong ↔ (max_insns < length p)
      → IfOk r (λ made. insns_of made.bytes.items ≡ p) → (1 ≤ length p → IfOk r (λ made. view_fault made.bytes.items ≡ None))
      → IfOk r (λ made. IsMade policy made.bytes.items)
  made (Ok m) long read program = record {
    program = program plan.some;
    right = made_is_right policy p plan (Ok m) long read;
    steady = subst (λ (q : List Insn). IsSteady q 0 Nothing) (sym read) plan.steady;
  }
  made (Err e) long read program = tt

-- ---- plain bundles

pub same_policy : (native : Arch) (bundle : List ℕ) (p q : Policy) → IsBundle native bundle p → IsBundle native bundle q → p ≡ q
same_policy = one_policy meaning_is_one

-- each profile that such a bundle means is plain
is_plain : (native : Arch) (bundle : List ℕ) (q : Policy) → IsPlainBundle native bundle → IsBundle native bundle q → IsPlain q
is_plain native bundle q (p, is, plain) other = subst IsPlain (same_policy native bundle p q is other) plain

-- none is refused
pub not_refused : (native : Arch) (bundle : List ℕ) (u : MakeError) → IsPlainBundle native bundle → IsMakeError native bundle u → ⊥
not_refused native bundle (Profile e) (p, is, plain) h = no_fault meaning_is_unbroken meaning_is_one native bundle p e is h.0 h.1
not_refused native bundle (Compile e) is h = h.1.0.2 (is_plain native bundle h.1.0.0 is h.1.0.1)
not_refused native bundle (Certify e) is h = h.1.2 (is_plain native bundle h.1.0 is h.1.1)
not_refused native bundle (Check e) is h = h
not_refused native bundle OutOfMemory is h = h

pub filter_is_written : {S : Type 0} (held : S → Option (List ℕ)) (failures : S → Failures) (old new : S) (native : Arch) (bundle : List ℕ)
    (form : Form) (result : Result Bool WriteFault) → Exports held failures old new native bundle form result
    → IsPlainBundle native bundle → ExportsFilter held failures old new native bundle form result
filter_is_written held failures old new native bundle form result (inl h) is = inl h
filter_is_written held failures old new native bundle form result (inr (inl h)) is = absurd (not_refused native bundle h.make_error is h.is)
filter_is_written held failures old new native bundle form result (inr (inr h)) is = inr h
