-- What is spelled, in whichever form, has no fault, and its nodes are those that are read.
use Rattle.std.proofs.Common.{◌≡◌, ℕ, List, refl, sym, ◌∙◌, inl, inr, arith}
use Rattle.std.specs.Prelude.{IfErr, Result, Ok, Err}
use Rattle.cert_form.specs.declared.fault.FormError.{FormError}
use Rattle.cert_form.specs.declared.fault.FormError.TheVariants.{BadMagic, BadVersion, Truncated, BadNode, BadCount, Trailing, OutOfMemory}
use Rattle.cert_form.specs.Nodes.{PlainNode}
use Rattle.cert_form.specs.Spelling.{Spells}
use Rattle.cert_form.specs.Reading.{nodes_in}
use Rattle.cert_form.specs.Faults.{Faulty, IsOtherVersion, IsToldFirst, NoneSpelledIsFaulty, OneSpelling}
use Rattle.cert_form.specs.inner.Standing.{IsTopOfFile}
use Rattle.cert_form.proofs.ChainedFaults.{chained_no_fault, chained_nodes}
use Rattle.cert_form.proofs.ListedAgain.{listed_no_fault, listed_nodes}

pub none_faulty : NoneSpelledIsFaulty
none_faulty bytes ns e (inl s) other bad = listed_no_fault bytes ns s e other bad
none_faulty bytes ns e (inr (version, known, s)) other bad = chained_no_fault version bytes s.es s.cs known s.spells e bad

pub nodes_are : (bytes : List ℕ) (ns : List PlainNode) → Spells bytes ns → nodes_in bytes ≡ ns
nodes_are bytes ns (inl s) = listed_nodes bytes ns s
nodes_are bytes ns (inr (version, known, s)) = chained_nodes version bytes s.es s.cs known s.spells ∙ sym s.same

-- a fault that stands, other than want of memory, leaves nothing spelled
pub only_memory : (bytes : List ℕ) (ns : List PlainNode) (e : FormError) → Spells bytes ns → Faulty e bytes → e ≡ OutOfMemory
only_memory bytes ns BadMagic s bad = absurd (none_faulty bytes ns BadMagic s (λ e. cc) bad)
only_memory bytes ns BadVersion s bad = absurd (none_faulty bytes ns BadVersion s (λ e. cc) bad)
only_memory bytes ns Truncated s bad = absurd (none_faulty bytes ns Truncated s (λ e. cc) bad)
only_memory bytes ns BadNode s bad = absurd (none_faulty bytes ns BadNode s (λ e. cc) bad)
only_memory bytes ns BadCount s bad = absurd (none_faulty bytes ns BadCount s (λ e. cc) bad)
only_memory bytes ns Trailing s bad = absurd (none_faulty bytes ns Trailing s (λ e. cc) bad)
only_memory bytes ns OutOfMemory s bad = refl

pub one_spelling : OneSpelling
one_spelling bytes ns ms s t = sym (nodes_are bytes ns s) ∙ nodes_are bytes ms t

-- a file with a head has one of the four versions
pub not_other : {T : Type 0} (r : Result T FormError) (bytes : List ℕ) → IsTopOfFile bytes
    → IfErr r (λ e. IsOtherVersion bytes → IsToldFirst e bytes)
not_other (Ok x) bytes top = tt
not_other (Err e) bytes top = λ other. absurd (omega (arith, top.form, top.known, other.not_1, other.not_2, other.not_3, other.not_4))
