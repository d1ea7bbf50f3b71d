-- The first rule that is broken, and that none is.
use Rattle.std.proofs.Common.{◌≡◌, ℕ, ◌+◌, ◌*◌, ◌<◌, ◌≤◌, List, sym, ◌∙◌, subst, inl, inr, arith}
use Rattle.std.specs.Prelude.{◌≢◌, slice_get, Some, None}
use Rattle.std.proofs.lemmas.Bool.{cases_lt}
use Rattle.std.proofs.lemmas.Option.{same_Some, none-some}
use Rattle.bpf_insn.specs.declared.fault.ViewError.{ViewError}
use Rattle.bpf_insn.specs.Bytes.{insns_of, view_fault}
use Rattle.kernel_check.specs.declared.fault.Refused.{Refused}
use Rattle.kernel_check.specs.Accepted.{IsAccepted, IsRefusal}
use Rattle.kernel_check.proofs.RefusalLaws.{one as one_refusal}
use Rattle.profile.specs.Policy.{Policy}
use Rattle.cert_form.specs.declared.fault.FormError.{FormError}
use Rattle.cert_form.specs.declared.fault.FormError.TheVariants as form
use Rattle.cert_form.specs.declared.node.Kind.TheVariants as kind
use Rattle.cert_form.specs.Nodes.{PlainNode}
use Rattle.cert_form.specs.Spelling.{Spells}
use Rattle.cert_form.specs.Faults.{Faulty}
use Rattle.cert_check.specs.declared.fault.CheckError.{CheckError}
use Rattle.cert_check.specs.declared.fault.CheckError.TheVariants.{View, Kernel, Form, Root, Edge, Entail, Return, Split, OutOfMemory}
use Rattle.cert_check.specs.Rules.{RootRule, EdgeRule, SplitRule, EntailRule, ReturnRule, Keeps, IsValid}
use Rattle.cert_check.specs.Certified.{IsCertificate, Kept, KeptBefore, IsFirst}
use Rattle.cert_check.specs.inner.Broken.{IsBrokenAt, IsFound, KeepBefore}

module _ (policy : Policy) (filter cert : List ℕ) where
  -- the bytes of the filter are no program
  pub first_view : (e : ViewError) → view_fault filter ≡ Some e → IsFirst policy filter cert (View e)
  first_view e fault = record { broken = λ whole. none-some e (sym whole ∙ fault); earlier = λ d lt. absurd (omega arith); told = fault }

  module _ (whole : view_fault filter ≡ None) where
    -- the kernel does not accept it
    pub first_kernel : (e : Refused) → IsRefusal (insns_of filter) e → IsFirst policy filter cert (Kernel e)
    first_kernel e refused = record {
      broken = λ ok. one_refusal.none (insns_of filter) e ok refused;
      earlier = before;
      told = refused;
    } where
      before : KeptBefore policy filter cert 1
      before (View d) lt = whole
      before OutOfMemory lt = tt
      before _ lt = absurd (omega arith)

    module _ (accepted : IsAccepted (insns_of filter)) where
      -- the bytes are no certificate
      pub first_form : (e : FormError) → Faulty e cert → e ≢ form.OutOfMemory → (IsCertificate cert → ⊥)
          → IsFirst policy filter cert (Form e)
      first_form e fault other none = record { broken = none; earlier = before; told = (fault, other) } where
        before : KeptBefore policy filter cert 2
        before (View d) lt = whole
        before (Kernel d) lt = accepted
        before OutOfMemory lt = tt
        before _ lt = absurd (omega arith)

      module _ (ns : List PlainNode) (spelled : Spells cert ns) (only : (ms : List PlainNode) → Spells cert ms → ns ≡ ms) where
        -- a rule of each node
        of_each : (R : List PlainNode → ℕ → PlainNode → Type 0) (j : ℕ) → ((m : PlainNode) → slice_get ns j ≡ Some m → R ns j m)
            → (ms : List PlainNode) → Spells cert ms → (m : PlainNode) → slice_get ms j ≡ Some m → R ms j m
        of_each R j h ms spells =
            subst (λ xs. (m : PlainNode) → slice_get xs j ≡ Some m → R xs j m) (only ms spells) h

        -- where all is kept
        pub all_kept : IsValid policy (insns_of filter) ns → (e : CheckError) → Kept policy filter cert e
        all_kept valid (View d) = whole
        all_kept valid (Kernel d) = accepted
        all_kept valid (Form d) = (ns, spelled)
        all_kept valid Root = λ ms spells. subst RootRule (only ms spells) valid.root
        all_kept valid (Edge j) = of_each (λ xs k m. EdgeRule (insns_of filter) xs k m) j (λ m at. (valid.each j m at).edge)
        all_kept valid (Split j) = of_each (λ xs k m. SplitRule m.sharp m.kind) j (λ m at. (valid.each j m at).split)
        all_kept valid (Entail j) = of_each (λ xs k m. EntailRule policy (insns_of filter) xs m) j (λ m at. (valid.each j m at).entail)
        all_kept valid (Return j) = of_each (λ xs k m. m.kind ≡ kind.Return
            → ReturnRule policy (insns_of filter) m) j (λ m at. (valid.each j m at).return)
        all_kept valid OutOfMemory = tt

        -- the root is broken
        pub first_root : (RootRule ns → ⊥) → IsFirst policy filter cert Root
        first_root broken = record { broken = λ kept. broken (kept ns spelled); earlier = before; told = tt } where
          before : KeptBefore policy filter cert 3
          before (View d) lt = whole
          before (Kernel d) lt = accepted
          before (Form d) lt = (ns, spelled)
          before OutOfMemory lt = tt
          before _ lt = absurd (omega arith)

        module _ (root : RootRule ns) (i : ℕ) (n : PlainNode) (at : slice_get ns i
            ≡ Some n) (so : KeepBefore policy (insns_of filter) ns i) where
          -- a rule of the nodes up to this one
          up_to : (R : List PlainNode → ℕ → PlainNode → Type 0)
              → ((j : ℕ) (m : PlainNode) → Keeps policy (insns_of filter) ns j m → R ns j m)
              → (j : ℕ) → j ≤ i → (j ≡ i → R ns i n) → (ms : List PlainNode) → Spells cert ms
              → (m : PlainNode) → slice_get ms j ≡ Some m → R ms j m
          up_to R from j le here = of_each R j (λ m stands.
              elim (cases_lt j i) [
                | inl earlier ↦ from j m (so j m earlier stands)
                | inr later ↦
                    let same : i ≡ j = omega arith in
                    let one : n ≡ m = same_Some n m (sym at ∙ subst (λ k. slice_get ns k ≡ Some m) (sym same) stands) in
                    subst (λ k. R ns k m) same (subst (R ns i) one (here (sym same)))
              ])

          edge_up_to : (j : ℕ) → j ≤ i → (j ≡ i → EdgeRule (insns_of filter) ns i n) → Kept policy filter cert (Edge j)
          edge_up_to = up_to (λ xs k m. EdgeRule (insns_of filter) xs k m) (λ j m k. k.edge)

          split_up_to : (j : ℕ) → j ≤ i → (j ≡ i → SplitRule n.sharp n.kind) → Kept policy filter cert (Split j)
          split_up_to = up_to (λ xs k m. SplitRule m.sharp m.kind) (λ j m k. k.split)

          entail_up_to : (j : ℕ) → j ≤ i → (j ≡ i → EntailRule policy (insns_of filter) ns n) → Kept policy filter cert (Entail j)
          entail_up_to = up_to (λ xs k m. EntailRule policy (insns_of filter) xs m) (λ j m k. k.entail)

          return_up_to : (j : ℕ) → j ≤ i → (j ≡ i → n.kind ≡ kind.Return → ReturnRule policy (insns_of filter) n)
              → Kept policy filter cert (Return j)
          return_up_to = up_to (λ xs k m. m.kind ≡ kind.Return → ReturnRule policy (insns_of filter) m) (λ j m k. k.return)

          -- all that is looked for before a turn of node i
          before_turn : (turn : ℕ) → turn ≤ 7 + 4 * i → (4 + 4 * i < turn → EdgeRule (insns_of filter) ns i n)
              → (5 + 4 * i < turn → SplitRule n.sharp n.kind) → (6 + 4 * i < turn → EntailRule policy (insns_of filter) ns n)
              → KeptBefore policy filter cert turn
          before_turn turn most edge split entail (View d) lt = whole
          before_turn turn most edge split entail (Kernel d) lt = accepted
          before_turn turn most edge split entail (Form d) lt = (ns, spelled)
          before_turn turn most edge split entail Root lt = λ ms spells. subst RootRule (only ms spells) root
          before_turn turn most edge split entail OutOfMemory lt = tt
          before_turn turn most edge split entail (Edge j) lt = edge_up_to j (omega arith) (λ same. edge (omega arith))
          before_turn turn most edge split entail (Split j) lt = split_up_to j (omega arith) (λ same. split (omega arith))
          before_turn turn most edge split entail (Entail j) lt = entail_up_to j (omega arith) (λ same. entail (omega arith))
          before_turn turn most edge split entail (Return j) lt = return_up_to j (omega arith) (λ same. absurd (omega arith))

          -- the first rule that this node breaks
          first_at : (e : CheckError) → IsBrokenAt policy (insns_of filter) ns i n e → IsFirst policy filter cert e
          first_at (Edge j) (same, broken) =
              subst (λ k. IsFirst policy filter cert (Edge k)) (sym same) (record {
                broken = λ kept. broken (kept ns spelled n at);
                earlier = before_turn (4 + 4 * i) (omega arith) (λ lt. absurd (omega arith)) (λ lt. absurd (omega arith)) (λ lt. absurd (omega arith));
                told = tt;
              })
          first_at (Split j) (same, edge, broken) =
              subst (λ k. IsFirst policy filter cert (Split k)) (sym same) (record {
                broken = λ kept. broken (kept ns spelled n at);
                earlier = before_turn (5 + 4 * i) (omega arith) (λ _. edge) (λ lt. absurd (omega arith)) (λ lt. absurd (omega arith));
                told = tt;
              })
          first_at (Entail j) (same, edge, split, broken) =
              subst (λ k. IsFirst policy filter cert (Entail k)) (sym same) (record {
                broken = λ kept. broken (kept ns spelled n at);
                earlier = before_turn (6 + 4 * i) (omega arith) (λ _. edge) (λ _. split) (λ lt. absurd (omega arith));
                told = tt;
              })
          first_at (Return j) (same, edge, split, entail, broken) =
              subst (λ k. IsFirst policy filter cert (Return k)) (sym same) (record {
                broken = λ kept. broken (kept ns spelled n at);
                earlier = before_turn (7 + 4 * i) (omega arith) (λ _. edge) (λ _. split) (λ _. entail);
                told = tt;
              })
          first_at (View d) h = absurd h
          first_at (Kernel d) h = absurd h
          first_at (Form d) h = absurd h
          first_at Root h = absurd h
          first_at OutOfMemory h = absurd h

        -- what is found of the nodes is the first rule that is broken
        pub first_found : (e : CheckError) → IsFound policy (insns_of filter) ns e → IsFirst policy filter cert e
        first_found Root h = first_root h
        first_found (View d) h = first_at h.root h.place h.node h.at h.before (View d) h.broken
        first_found (Kernel d) h = first_at h.root h.place h.node h.at h.before (Kernel d) h.broken
        first_found (Form d) h = first_at h.root h.place h.node h.at h.before (Form d) h.broken
        first_found (Edge j) h = first_at h.root h.place h.node h.at h.before (Edge j) h.broken
        first_found (Split j) h = first_at h.root h.place h.node h.at h.before (Split j) h.broken
        first_found (Entail j) h = first_at h.root h.place h.node h.at h.before (Entail j) h.broken
        first_found (Return j) h = first_at h.root h.place h.node h.at h.before (Return j) h.broken
        first_found OutOfMemory h = first_at h.root h.place h.node h.at h.before OutOfMemory h.broken
