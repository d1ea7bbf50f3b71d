-- The headline, of what the layers below promise.
use Rattle.std.proofs.Common.{◌≡◌, ◌≢◌, ℕ, zero, suc, ◌+◌, ◌<◌, Bool, true, false, List, [], ◌∷◌, ◌++◌, length, arith, refl, ap, sym, subst}
use Rattle.std.proofs.Common.{◌∙◌, append-nil, map, slice_get}
use Rattle.std.specs.Prelude.{Decides, Option, Some, None, if◌then◌else◌}
use Rattle.std.specs.Io.KnownBytes.{Consumes, IsAtEnd}
use Rattle.std.proofs.lemmas.Bool.Decides.{Decides-eqb}
use Rattle.std.proofs.lemmas.Slice.Eq.{slice_eq-Decides}
use Rattle.bpf_insn.specs.declared.instruction.Insn.{Insn}
use Rattle.bpf_insn.specs.Bytes.{insns_of}
use Rattle.bpf_insn.specs.declared.fault.ViewError.TheVariants.{Empty}
use Rattle.machines.specs.declared.arch.Arch.{Arch}
use Rattle.kernel_check.specs.Accepted.{IsAccepted}
use Rattle.kernel_check.specs.declared.fault.Cause.TheVariants.{Code}
use Rattle.profile.specs.Policy.{Policy}
use Rattle.cert_check.specs.declared.checked.Checked.{Checked}
use Rattle.cert_check.specs.Checked.{profile_of, program_of}
use Rattle.cert_check.specs.declared.fault.CheckError.{CheckError}
use Rattle.cert_check.specs.declared.fault.CheckError.TheVariants.{View, Kernel, Form, Root, Edge, Split, Entail, Return}
use Rattle.cert_check.specs.Certified.{IsCertificate, Kept}
use Rattle.cert_check.specs.Right.{IsRight}
use Rattle.cert_check.specs.Rules.{IsValid}
use Rattle.cert_check.proofs.Right.{right as valid_is_right}
use Rattle.cert_form.specs.declared.fault.FormError.TheVariants.{BadMagic}
use Rattle.cert_form.specs.Nodes.{PlainNode}
use Rattle.cert_form.specs.Spelling.{Spells}
use Rattle.processes.specs.First.{by_profile}
use Rattle.processes.specs.Views.{same_text}
use Rattle.lifecycle.specs.Commands.{Command}
use Rattle.lifecycle.specs.Worlds.{First}
use Rattle.lifecycle.specs.Runs.{IsRun}
use Rattle.lifecycle.proofs.FilterLaws.{refused_is_not_carried_out}
use Rattle.lifecycle.proofs.Headline.{same_first}
use Rattle.session.specs.declared.bundles.Bundle.{Bundle}
use Rattle.session.specs.declared.bundles.Bundles.{Bundles}
use Rattle.session.specs.Answer.{answer_of}
use Rattle.session.specs.Commands.{first_called}
use Rattle.session.specs.Laws.{IsScript}
use Rattle.session.specs.Scripts.{HasReadAll}
use Rattle.script.specs.Lines.{Parts}
use Rattle.maker.specs.Exported.{IsCheckedOf}
use Rattle.maker.specs.Finding.{IsBundle}
use Rattle.cli.specs.Headline.{Headline, IsRightFilter, IsRightFor, NameGives}
use Rattle.cli.specs.Running.{InTurn, IsBundleOf, name_of}

-- ---- a right filter

right_for : (native : Arch) (bundle : List ℕ) (policy : Policy) (p : List Insn) → IsBundle native bundle policy → IsAccepted p
    → IsRight policy p
    → IsRightFor native bundle policy p
right_for native bundle policy p means accepted right = record { means = means; accepted = accepted; verdict = right }

-- the nodes of a certificate of which no rule is broken keep each rule
valid_nodes : (policy : Policy) (filter cert : List ℕ) (ns : List PlainNode) → Spells cert ns
    → ((e : CheckError) → Kept policy filter cert e) → IsValid policy (insns_of filter) ns
valid_nodes policy filter cert ns spells kept = record {
  root = kept Root ns spells;
  each = λ i n at. record {
    edge = kept (Edge i) ns spells n at;
    split = kept (Split i) ns spells n at;
    entail = kept (Entail i) ns spells n at;
    return = kept (Return i) ns spells n at;
  };
}

right_of_kept : (native : Arch) (bundle filter cert : List ℕ) (policy : Policy) → IsBundle native bundle policy
    → ((e : CheckError) → Kept policy filter cert e) → IsRightFilter native bundle policy filter
right_of_kept native bundle filter cert policy means kept =
    let accepted : IsAccepted (insns_of filter) = kept (Kernel (record { cause = Code; pc = 0 })) in
    let nodes : IsCertificate cert = kept (Form BadMagic) in
    record {
      whole = kept (View Empty);
      right = right_for native bundle policy (insns_of filter) means accepted
          (valid_is_right policy (insns_of filter) nodes.0 means.2.calls.clear accepted (valid_nodes policy filter cert nodes.0 nodes.1 kept));
    }

-- ---- the filter of a name

of_checked : (native : Arch) (text : List ℕ) (given : Checked) → IsCheckedOf native text given
    → IsRightFor native text (profile_of given) (program_of given)
of_checked native text given is =
    right_for native text (profile_of given) (program_of given) is.means (subst IsAccepted is.read is.yes.accepted)
    (subst (IsRight (profile_of given)) is.read is.yes.right)

same_name : (a b : List ℕ) → Decides (same_text a b) (a ≡ b)
same_name a b = slice_eq-Decides Decides-eqb a b (same_text a b) refl

abbrev seen : Bundle → List ℕ × Checked
seen b = (b.name.now, b.checked)

-- the same as `IsFilterOf` and `NameGives`, where the texts are numbered from i on
record Found (native : Arch) (i : ℕ) (texts : List (List ℕ)) (name : List ℕ) (given : Checked) : Type 0 where
  pub k : ℕ
  pub text : List ℕ
  pub name_is : name ≡ name_of (k + i)
  pub at : slice_get texts k ≡ Some text
  pub right : IsRightFor native text (profile_of given) (program_of given)

abbrev Gives : Arch → ℕ → List (List ℕ) → List ℕ → Option Checked → Type 0
Gives native i texts name (Some given) = Found native i texts name given
Gives native i texts name None = (k : ℕ) → k < length texts → name ≢ name_of (k + i)

-- the first of the texts has another name
later : (native : Arch) (i : ℕ) (t : List ℕ) (ts : List (List ℕ)) (name : List ℕ) (o : Option Checked) → name ≢ name_of i
    → Gives native (i + 1) ts name o → Gives native i (t ∷ ts) name o
later native i t ts name (Some given) other g = record {
  k = suc g.k;
  text = g.text;
  name_is = g.name_is ∙ ap name_of (let same : g.k + (i + 1) ≡ suc g.k + i = omega arith in same);
  at = g.at;
  right = g.right;
}
later native i t ts name None other g = none where
  none : (k : ℕ) → k < length (t ∷ ts) → name ≢ name_of (k + i)
  none zero lt e = other (e ∙ ap name_of (let same : zero + i ≡ i = omega arith in same))
  none (suc k) lt e = g k (omega arith) (e ∙ ap name_of (let same : suc k + i ≡ k + (i + 1) = omega arith in same))

gives : (native : Arch) (i : ℕ) (texts : List (List ℕ)) (bs : List Bundle) (name : List ℕ) → InTurn (IsBundleOf native) i texts bs
    → Gives native i texts name (first_called name (map seen bs))
gives native i [] [] name h = λ k lt. absurd (omega arith)
gives native i [] (b ∷ bs) name h = absurd h
gives native i (t ∷ ts) [] name h = absurd h
gives native i (t ∷ ts) (b ∷ bs) name h =
    by (same_text name b.name.now) refl (gives native (i + 1) ts bs name h.1) where
      by : (same : Bool) → same_text name b.name.now ≡ same → Gives native (i + 1) ts name (first_called name (map seen bs))
          → Gives native i (t ∷ ts) name (if same then Some b.checked else first_called name (map seen bs))
      by true e rest = record {
        k = 0;
        text = t;
        name_is = (same_name name b.name.now).0 e ∙ (h.0.0 ∙ ap name_of (let same : i ≡ 0 + i = omega arith in same));
        at = refl;
        right = of_checked native t b.checked h.0.1;
      }
      by false e rest =
          let other : name ≢ name_of i = λ is.
          let bad : false ≡ true = sym e ∙ (same_name name b.name.now).1 (is ∙ sym h.0.0) in absurd (cc) in
          later native i t ts name (first_called name (map seen bs)) other rest

from_one : (native : Arch) (texts : List (List ℕ)) (name : List ℕ) (o : Option Checked) → Gives native 1 texts name o
    → NameGives native texts name o
from_one native texts name (Some given) g = record { k = g.k; text = g.text; name_is = g.name_is; at = g.at; right = g.right }
from_one native texts name None g = g

-- ---- what was read of a script, and written

whole : (script text : List ℕ) (left : Option (List ℕ)) → Consumes (Some script) left text → IsAtEnd left → text ≡ script
whole script text None taken end = absurd taken
whole script text (Some rest) taken end = sym (taken ∙ (ap (λ (l : List ℕ). text ++ l) end ∙ append-nil text))

script_read : (bundles : Bundles) (script : List ℕ) (left : Option (List ℕ)) (commands : List (Option Command))
    → HasReadAll bundles (Some script) left commands → IsScript bundles script commands
script_read bundles script left commands h = record {
  first = h.lines.first;
  more = h.lines.more;
  parts = subst (λ (t : List ℕ). Parts t h.lines.first h.lines.more) (whole script h.lines.text left h.lines.taken h.end) h.lines.parts;
  each = h.lines.each;
}

-- ---- the headline

pub headline : Headline
headline = record {
  kept = right_of_kept;
  yes = λ native bundle filter cert found. (
    found.0,
    record {
      whole = found.2.kept (View Empty);
      right = right_for native bundle found.0 (insns_of filter) found.1 found.2.accepted found.2.right;
    },
  );
  machine = λ commands old new replies is. subst (λ (F : First). IsRun F commands old replies new) same_first is;
  refused = refused_is_not_carried_out;
  run = λ native texts script before after left h. (
    answer_of by_profile h.answered.0,
    h.answered.2,
    record {
      bundles = h.bundles;
      native_is = h.are.native_is;
      names = λ name. from_one native texts name _ (gives native 1 texts h.bundles.list.now name h.are.each);
      commands = h.answered.0;
      lines = script_read h.bundles script left h.answered.0 h.answered.1;
      replies = refl;
    },
  );
}
