-- What a file is taken as, by its text.
use Rattle.std.proofs.Common.{◌≡◌, ◌≢◌, ℕ, List, [], inl, inr, refl, subst, sym}
use Rattle.std.specs.Prelude.{IfOk, Result, Ok, Err}
use Rattle.machines.specs.declared.arch.Arch.{Arch}
use Rattle.machines.specs.declared.arch.Family.{Family}
use Rattle.machines.specs.declared.arch.Family.TheVariants.{Whole}
use Rattle.machines.specs.Arch.{family_of}
use Rattle.section.specs.Remarks.{IsRemarkOf, line_of}
use Rattle.section.specs.Taken.{IsTaken}
use Rattle.section.specs.Texts.{IsKind, IsPlainKind, IsReadKind, IsTakenAs, bundle_of}
use Rattle.section.specs.Unlike.{AreLinesOf, AreUnlikeOf, IsLarge, IsReadable}
use Rattle.section.specs.declared.kinds.Kind.{Kind}
use Rattle.section.specs.declared.kinds.Kind.TheVariants.{Large, Unlike}
use Rattle.section.specs.declared.taken.Taken.{Taken}

-- a text that is read has the kind that it is read as
pub readable_kind : {E : Type 0} (bytes : List ℕ) (r : Result Kind E) → IsReadable bytes → IfOk r (IsReadKind bytes) → IfOk r (IsKind bytes)
readable_kind bytes (Ok kind) small is = inr (small, is)
readable_kind bytes (Err e) small is = is

module _ (native : Arch) (bytes : List ℕ) (taken : Taken) (whole : family_of native ≡ Whole) (same : taken.document.native ≡ native)
  where
    -- a text of a kind
    of_kind : IsKind bytes taken.kind → taken.document.bytes ≡ bundle_of taken.kind bytes → AreUnlikeOf Whole bytes taken.unlike.items
        → IsTaken native bytes taken
    of_kind is text lines = record {
      native_is = same;
      text = subst (λ (f : Family). IsTakenAs f bytes taken.document.bytes) (sym whole) (taken.kind, is, text);
      line = subst (λ (f : Family). IsRemarkOf f bytes (line_of taken.kind)) (sym whole) (taken.kind, is, refl);
      unlike = subst (λ (f : Family). AreUnlikeOf f bytes taken.unlike.items) (sym whole) lines;
    }

    -- a text that is not read
    pub is_large : IsLarge bytes → taken.kind ≡ Large → taken.document.bytes ≡ bundle_of taken.kind bytes → taken.unlike.items ≡ []
        → IsTaken native bytes taken
    is_large large kind text none = of_kind (inl (large, kind)) text (inl (large, none))

    module _ (small : IsReadable bytes) (lines : AreLinesOf bytes taken.unlike.items) where
      -- a text that all readers take alike
      pub is_alike : taken.unlike.items ≡ [] → IsPlainKind bytes taken.kind → taken.document.bytes ≡ bundle_of taken.kind bytes
          → IsTaken native bytes taken
      is_alike none kind text =
          of_kind (inr (small, inl (subst (λ (l : List ℕ). AreLinesOf bytes l) none lines, kind))) text (inr (small, lines))

      -- a text that they do not
      pub is_unlike : taken.unlike.items ≢ [] → taken.kind ≡ Unlike → taken.document.bytes ≡ bundle_of taken.kind bytes
          → IsTaken native bytes taken
      is_unlike some kind text = of_kind (inr (small, inr ((taken.unlike.items, lines, some), kind))) text (inr (small, lines))
