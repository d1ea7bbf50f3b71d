-- What export writes, by what its parts do.
use Rattle.std.proofs.Common.{◌≡◌, ◌%◌, ℕ, inl, inr, arith, Bool, true, List, length, refl, ap, sym, subst, ◌∙◌}
use Rattle.std.proofs.lemmas.Bool.Decides.{nat_tests}
use Rattle.std.specs.Prelude.{Option, None, Result, Ok, Err, IfOk, ◌≢◌}
use Rattle.bpf_insn.specs.Bytes.{insns_of, spelling, view_fault}
use Rattle.bpf_insn.specs.declared.fault.ViewError.TheVariants.{NotMultipleOf8}
use Rattle.machines.specs.declared.arch.Arch.{Arch}
use Rattle.cert_check.specs.declared.checked.Checked.{Checked}
use Rattle.cert_check.specs.declared.fault.CheckError.{CheckError}
use Rattle.cert_check.specs.declared.fault.CheckError.TheVariants.{View}
use Rattle.cert_check.specs.Certified.{Kept}
use Rattle.cert_check.specs.Right.{IsRight}
use Rattle.kernel_check.specs.Accepted.{IsAccepted}
use Rattle.cert_check.specs.Checked.{cert_of, profile_of, program_of}
use Rattle.texts.specs.Failures.{Failures}
use Rattle.maker.specs.declared.export.form.Form.{Form}
use Rattle.maker.specs.declared.export.form.Form.TheVariants.{Raw}
use Rattle.maker.specs.Forms.{bytes_in}
use Rattle.texts.specs.Sink.{WritesMade}
use Rattle.texts.specs.declared.streams.fault.WriteFault.{WriteFault}
use Rattle.texts.specs.declared.streams.fault.WriteFault.TheVariants.{Write, OutOfMemory}
use Rattle.maker.specs.declared.make_error.MakeError.{MakeError}
use Rattle.maker.specs.declared.make_error.MakeError.TheVariants as make_error
use Rattle.profile.specs.Policy.{Policy}
use Rattle.maker.specs.Finding.{IsBundle, IsYes}
use Rattle.maker.specs.Exported.{Exports, IsCheckedOf, IsMakeError, Refuses, WritesFilter}

-- the bytes of a program are eight for each instruction
pub in_eights : (bytes : List ℕ) → view_fault bytes ≡ None → length bytes % 8 ≡ 0
in_eights bytes h = grind (arith, nat_tests)

-- what the checker said yes to goes out in its forms
pub is_checked : (native : Arch) (bundle : List ℕ) (policy : Policy) (filter cert : List ℕ) (c : Checked) → IsBundle native bundle policy
    → profile_of c ≡ policy → program_of c ≡ insns_of filter → cert_of c ≡ cert
    → (view_fault filter ≡ None → spelling (insns_of filter) ≡ filter) → IsYes policy filter cert → IsCheckedOf native bundle c
is_checked native bundle policy filter cert c means profile program certificate spelled kept =
    let bytes : bytes_in Raw c ≡ filter = ap spelling program ∙ spelled (kept.kept (View NotMultipleOf8)) in record {
      means = subst (IsBundle native bundle) (sym profile) means;
      read = ap insns_of bytes ∙ sym program;
      yes = subst (λ (p : Policy). IsYes p (bytes_in Raw c) (cert_of c)) (sym profile)
          (subst (λ (f : List ℕ). IsYes policy f (cert_of c)) (sym bytes) (subst (IsYes policy filter) (sym certificate) kept));
    }

-- and of an answer of the checker, where it is yes
pub is_checked_if_yes : (native : Arch) (bundle : List ℕ) (policy : Policy) (filter cert : List ℕ) (r : Result Checked CheckError)
    → IsBundle native bundle policy → (view_fault filter ≡ None → spelling (insns_of filter) ≡ filter)
    → IfOk r (λ c. profile_of c ≡ policy) → IfOk r (λ c. program_of c ≡ insns_of filter) → IfOk r (λ c. cert_of c ≡ cert)
    → IfOk r (λ c. IsAccepted (insns_of filter)) → IfOk r (λ c. IsRight policy (insns_of filter))
    → IfOk r (λ c. (e : CheckError) → Kept policy filter cert e) → IfOk r (IsCheckedOf native bundle)
is_checked_if_yes native bundle policy filter cert (Ok c) means spelled profile program certificate accepted right kept =
    is_checked native bundle policy filter cert c means profile program certificate spelled
    (record { accepted = accepted; right = right; kept = kept })
is_checked_if_yes native bundle policy filter cert (Err e) means spelled profile program certificate accepted right kept = tt

module _ {S : Type 0} (held : S → Option (List ℕ)) (failures : S → Failures) (old new : S) where
  -- a fault of writing, whatever was to be told
  pub as_failed : (T : Type 0) (bytes : List ℕ) (fault : WriteFault) → WritesMade {S = S} {T = T} held failures old new bytes (Err fault)
      → WritesMade {S = S} {T = Bool} held failures old new bytes (Err fault)
  as_failed T bytes (Write out) h = h
  as_failed T bytes OutOfMemory h = h

  module _ (native : Arch) (bundle : List ℕ) (form : Form) where
    pub filter_written : (checked : Checked) → IsCheckedOf native bundle checked
        → WritesMade {S = S} {T = Bool} held failures old new (bytes_in form checked) (Ok true)
        → Exports held failures old new native bundle form (Ok true)
    filter_written checked is written = inl (record { checked = checked; is = is; written = written; told = refl })

    pub filter_failed : (T : Type 0) (checked : Checked) (fault : WriteFault) (result : Result Bool WriteFault)
        → IsCheckedOf native bundle checked
        → WritesMade {S = S} {T = T} held failures old new (bytes_in form checked) (Err fault) → result ≡ Err fault
        → Exports held failures old new native bundle form result
    filter_failed T checked fault result is written e =
        let here : WritesFilter held failures old new native bundle form (Err fault) =
        record { checked = checked; is = is; written = as_failed T (bytes_in form checked) fault written; told = tt } in
        inl (subst (λ (r : Result Bool WriteFault). WritesFilter held failures old new native bundle form r) (sym e) here)

    pub refused : (u : MakeError) (result : Result Bool WriteFault) → (u ≢ make_error.OutOfMemory → IsMakeError native bundle u)
        → Refuses held failures old new u result → Exports held failures old new native bundle form result
    refused u result why (inl h) = inr (inl (record { make_error = u; is = why h.0; written = h.1; told = h.2 }))
    refused u result why (inr h) = inr (inr h)
