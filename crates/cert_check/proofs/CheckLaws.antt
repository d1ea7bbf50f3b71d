-- What the whole check tells: of the certificate's bytes, and of its nodes.
use Rattle.std.proofs.Common.{◌≡◌, ◌≢◌, ℕ, ◌≤◌, List, length, refl, inl, inr, arith, ap, sym, ◌∙◌}
use Rattle.std.specs.Prelude.{None, Option, Some}
use Rattle.std.specs.Option.{option_map}
use Rattle.std.proofs.lemmas.List.{length-map}
use Rattle.bpf_insn.specs.Bytes.{insns_of, view_fault}
use Rattle.kernel_check.specs.Accepted.{IsAccepted}
use Rattle.kernel_check.proofs.RunLaws.{runs}
use Rattle.profile.specs.Policy.{Policy, IsClear}
use Rattle.profile.specs.Said.{said as said_of}
use Rattle.profile.proofs.SaidLaws.{each_record_is_said_one_verdict}
use Rattle.bpf_insn.specs.declared.instruction.Insn.{Insn}
use Rattle.bpf_insn.specs.Machine.{verdict_of}
use Rattle.cert_form.specs.declared.fault.FormError.{FormError}
use Rattle.cert_form.specs.declared.fault.FormError.TheVariants as form
use Rattle.cert_form.specs.Nodes.{PlainNode, said}
use Rattle.cert_form.specs.Reading.{version_of}
use Rattle.cert_form.specs.Spelling.{Spells, SpellsSaid}
use Rattle.cert_form.specs.Faults.{Faulty}
use Rattle.cert_check.specs.declared.fault.CheckError.{CheckError}
use Rattle.cert_check.specs.declared.fault.CheckError.TheVariants.{View, Kernel, Form, Root, Edge, Entail, Return, Split, OutOfMemory}
use Rattle.cert_check.specs.Certified.{IsCertificate, IsFirst}
use Rattle.cert_check.specs.Right.{GivesOnly, IsRight}
use Rattle.cert_check.specs.inner.Broken.{IsFound, error_of}
use Rattle.cert_check.proofs.FirstLaws.{first_form}

-- a certificate has at least one node, and not too many
count_said : (version : ℕ) (bytes : List ℕ) (ns : List PlainNode) → SpellsSaid version bytes ns → (1 ≤ length ns) × (length ns ≤ 16384)
count_said version bytes ns s =
    let size : length ns ≡ length s.cs = rw s.same (length-map s.cs (said version s.es)) in (
      omega (arith, size, s.spells.some),
      omega (arith, size, s.spells.few),
    )

pub count_of_nodes : (bytes : List ℕ) (ns : List PlainNode) → Spells bytes ns → (1 ≤ length ns) × (length ns ≤ 16384)
count_of_nodes bytes ns (inl s) = (s.some, s.few)
count_of_nodes bytes ns (inr (version, known, s)) = count_said version bytes ns s

module _ (policy : Policy) (filter cert : List ℕ) where
  module _ (whole : view_fault filter ≡ None) (accepted : IsAccepted (insns_of filter)) (e : FormError) where
    -- an error of the certificate's bytes is no error where these are a certificate
    none_spelled : e ≢ form.OutOfMemory → ((ns : List PlainNode) → Spells cert ns → e ≡ form.OutOfMemory) → IsCertificate cert → ⊥
    none_spelled other only (ns, spells) = other (only ns spells)

  pub form_is_first : view_fault filter ≡ None → IsAccepted (insns_of filter) → (e : FormError) → Faulty e cert
      → ((ns : List PlainNode) → Spells cert ns → e ≡ form.OutOfMemory) → error_of e ≢ OutOfMemory → IsFirst policy filter cert (error_of e)
  form_is_first whole accepted form.OutOfMemory fault only other = absurd (other refl)
  form_is_first whole accepted form.BadMagic fault only other =
      first_form policy filter cert whole accepted form.BadMagic fault (λ same. cc)
      (none_spelled whole accepted form.BadMagic (λ same. cc) only)
  form_is_first whole accepted form.BadVersion fault only other =
      first_form policy filter cert whole accepted form.BadVersion fault (λ same. cc)
      (none_spelled whole accepted form.BadVersion (λ same. cc) only)
  form_is_first whole accepted form.Truncated fault only other =
      first_form policy filter cert whole accepted form.Truncated fault (λ same. cc)
      (none_spelled whole accepted form.Truncated (λ same. cc) only)
  form_is_first whole accepted form.BadNode fault only other =
      first_form policy filter cert whole accepted form.BadNode fault (λ same. cc)
      (none_spelled whole accepted form.BadNode (λ same. cc) only)
  form_is_first whole accepted form.BadCount fault only other =
      first_form policy filter cert whole accepted form.BadCount fault (λ same. cc)
      (none_spelled whole accepted form.BadCount (λ same. cc) only)
  form_is_first whole accepted form.Trailing fault only other =
      first_form policy filter cert whole accepted form.Trailing fault (λ same. cc)
      (none_spelled whole accepted form.Trailing (λ same. cc) only)

-- memory is asked for in form 1 alone
pub form_memory : (cert : List ℕ) (e : FormError) → Faulty e cert → error_of e ≡ OutOfMemory → version_of cert ≡ 1
form_memory cert form.OutOfMemory fault same = fault
form_memory cert form.BadMagic fault same = absurd cc
form_memory cert form.BadVersion fault same = absurd cc
form_memory cert form.Truncated fault same = absurd cc
form_memory cert form.BadNode fault same = absurd cc
form_memory cert form.BadCount fault same = absurd cc
form_memory cert form.Trailing fault same = absurd cc

-- and nowhere at the nodes
pub no_memory : (policy : Policy) (p : List Insn) (ns : List PlainNode) (e : CheckError) → IsFound policy p ns e → e ≢ OutOfMemory
no_memory policy p ns OutOfMemory found same = found.broken
no_memory policy p ns (View d) found same = cc
no_memory policy p ns (Kernel d) found same = cc
no_memory policy p ns (Form d) found same = cc
no_memory policy p ns Root found same = cc
no_memory policy p ns (Edge i) found same = cc
no_memory policy p ns (Split i) found same = cc
no_memory policy p ns (Entail i) found same = cc
no_memory policy p ns (Return i) found same = cc

-- what is right gives no other verdict
pub only_the_profiles : (policy : Policy) (p : List Insn) → IsClear policy.rules → IsRight policy p → GivesOnly policy p
only_the_profiles policy p clear right r rec v given = (each_record_is_said_one_verdict policy r v clear rec).0 ((right r rec v).0 given)

-- and an accepted program that gives no other verdict is right
pub right_of : (policy : Policy) (p : List Insn) → IsClear policy.rules → IsAccepted p → GivesOnly policy p → IsRight policy p
right_of policy p clear accepted only r rec v =
    let one = each_record_is_said_one_verdict policy r v clear rec in
    let word = runs p r accepted rec.length_is in
    let found : verdict_of p r ≡ Some word.0 = ap (λ (o : Option (ℕ × ℕ)). option_map (λ (end : ℕ × ℕ). end.0) o) word.2 in
    let is : word.0 ≡ said_of policy r = only r rec word.0 found in (
      λ gives. one.1 (only r rec v gives),
      λ says. found ∙ ap Some (is ∙ sym (one.0 says)),
    )
