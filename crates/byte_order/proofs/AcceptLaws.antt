-- The kernel refuses instructions for what it refuses those for that read the other halves.
use Rattle.std.proofs.Common.{◌≡◌, ℕ, zero, suc, ◌+◌, ◌%◌, ◌≤◌, ◌<◌, ◌⊎◌, inl, inr, List, [], ◌∷◌, length, refl, ap, sym, ◌∙◌, arith, subst}
use Rattle.std.specs.Prelude.{Option, Some, None, map, slice_get, ◌↔◌}
use Rattle.std.proofs.lemmas.Bool.{cases_lt, cases_eq}
use Rattle.std.proofs.lemmas.List.{length-map}
use Rattle.bpf_insn.specs.declared.code.Operation.{Operation}
use Rattle.bpf_insn.specs.declared.code.Operation.TheVariants.{LoadWord, LoadScratch, LoadScratchX, Store, StoreX, SetA, SetX}
use Rattle.bpf_insn.specs.declared.code.Operation.TheVariants.{ReturnK, ReturnA, Jump, Branch, Compute, ShiftLeft, ShiftRight}
use Rattle.bpf_insn.specs.declared.code.Operation.TheVariants.{Negate, CopyToX, CopyToA}
use Rattle.bpf_insn.specs.declared.instruction.Insn.{Insn}
use Rattle.bpf_insn.specs.Causes.{NamesNoWord, ReadsScratch, WritesScratch}
use Rattle.bpf_insn.specs.Code.{operation_of}
use Rattle.kernel_check.specs.Accepted.{CauseAt, HasCause, IsAccepted, IsReturn, LeadsOut}
use Rattle.kernel_check.specs.Paths.{HandsOn, LeadsTo, Unwritten, WritesWord}
use Rattle.kernel_check.specs.declared.fault.Cause.{Cause}
use Rattle.kernel_check.specs.declared.fault.Cause.TheVariants.{Code, Load, Shift, Target, End, Scratch}
use Rattle.byte_order.specs.Turned.{other_half, other_half_by, other_word}
use Rattle.byte_order.proofs.HalfLaws.{operation_same, other_stays, twice_all}

-- ---- one instruction

-- its number is another only if it reads a word of the record
k_same : (o : Option Operation) (x : Insn) → (o ≡ Some LoadWord → ⊥) → (other_half_by o x).k ≡ x.k
k_same None x other = refl
k_same (Some LoadWord) x other = absurd (other refl)
k_same (Some LoadScratch) x other = refl
k_same (Some LoadScratchX) x other = refl
k_same (Some Store) x other = refl
k_same (Some StoreX) x other = refl
k_same (Some SetA) x other = refl
k_same (Some SetX) x other = refl
k_same (Some ReturnK) x other = refl
k_same (Some ReturnA) x other = refl
k_same (Some Jump) x other = refl
k_same (Some (Branch test c)) x other = refl
k_same (Some (Compute f c)) x other = refl
k_same (Some ShiftLeft) x other = refl
k_same (Some ShiftRight) x other = refl
k_same (Some Negate) x other = refl
k_same (Some CopyToX) x other = refl
k_same (Some CopyToA) x other = refl

no_word : (o : Option Operation) (x : Insn) → NamesNoWord o (other_half_by o x).k → NamesNoWord o x.k
no_word None x h = h
no_word (Some LoadWord) x h = elim (cases_lt x.k 64) [
  | inr past ↦ inl past
  | inl within ↦ elim (cases_eq (x.k % 4) 0) [
    | inr skew ↦ inr skew
    | inl e ↦
        let stays = other_stays x.k within e in
        elim h [ inl past ↦ absurd (omega (arith, past, stays.0)) | inr skew ↦ absurd (skew stays.1) ]
  ]
]
no_word (Some LoadScratch) x h = h
no_word (Some LoadScratchX) x h = h
no_word (Some Store) x h = h
no_word (Some StoreX) x h = h
no_word (Some SetA) x h = h
no_word (Some SetX) x h = h
no_word (Some ReturnK) x h = h
no_word (Some ReturnA) x h = h
no_word (Some Jump) x h = h
no_word (Some (Branch test c)) x h = h
no_word (Some (Compute f c)) x h = h
no_word (Some ShiftLeft) x h = h
no_word (Some ShiftRight) x h = h
no_word (Some Negate) x h = h
no_word (Some CopyToX) x h = h
no_word (Some CopyToA) x h = h

leads_out : (o : Option Operation) (n i : ℕ) (x : Insn) → LeadsOut o n i (other_half_by o x) → LeadsOut o n i x
leads_out None n i x h = h
leads_out (Some LoadWord) n i x h = h
leads_out (Some LoadScratch) n i x h = h
leads_out (Some LoadScratchX) n i x h = h
leads_out (Some Store) n i x h = h
leads_out (Some StoreX) n i x h = h
leads_out (Some SetA) n i x h = h
leads_out (Some SetX) n i x h = h
leads_out (Some ReturnK) n i x h = h
leads_out (Some ReturnA) n i x h = h
leads_out (Some Jump) n i x h = h
leads_out (Some (Branch test c)) n i x h = h
leads_out (Some (Compute f c)) n i x h = h
leads_out (Some ShiftLeft) n i x h = h
leads_out (Some ShiftRight) n i x h = h
leads_out (Some Negate) n i x h = h
leads_out (Some CopyToX) n i x h = h
leads_out (Some CopyToA) n i x h = h

leads_to : (o : Option Operation) (i next : ℕ) (x : Insn) → LeadsTo o i (other_half_by o x) next → LeadsTo o i x next
leads_to None i next x h = h
leads_to (Some LoadWord) i next x h = h
leads_to (Some LoadScratch) i next x h = h
leads_to (Some LoadScratchX) i next x h = h
leads_to (Some Store) i next x h = h
leads_to (Some StoreX) i next x h = h
leads_to (Some SetA) i next x h = h
leads_to (Some SetX) i next x h = h
leads_to (Some ReturnK) i next x h = h
leads_to (Some ReturnA) i next x h = h
leads_to (Some Jump) i next x h = h
leads_to (Some (Branch test c)) i next x h = h
leads_to (Some (Compute f c)) i next x h = h
leads_to (Some ShiftLeft) i next x h = h
leads_to (Some ShiftRight) i next x h = h
leads_to (Some Negate) i next x h = h
leads_to (Some CopyToX) i next x h = h
leads_to (Some CopyToA) i next x h = h

module _ (x : Insn) where
  abbrev turned : Insn
  turned = other_half x

  -- what holds of the operation of one holds of that of the other
  back : (P : Option Operation → Type 0) → P (operation_of turned.code) → P (operation_of x.code)
  back P h = subst P (operation_same x) h

  on : (P : Option Operation → Type 0) → P (operation_of x.code) → P (operation_of turned.code)
  on P h = subst P (sym (operation_same x)) h

  same_number : (operation_of x.code ≡ Some LoadWord → ⊥) → turned.k ≡ x.k
  same_number other = k_same (operation_of x.code) x other

  writes_on : (w : ℕ) → WritesWord x w → WritesWord turned w
  writes_on w h =
      (on (λ o. (o ≡ Some Store) ⊎ (o ≡ Some StoreX)) h.0, same_number (no_load h.0) ∙ h.1) where
        no_load : WritesScratch x → operation_of x.code ≡ Some LoadWord → ⊥
        no_load (inl a) b = let c : Some LoadWord ≡ Some Store = sym b ∙ a in cc
        no_load (inr a) b = let c : Some LoadWord ≡ Some StoreX = sym b ∙ a in cc

  hands_back : (w i next : ℕ) → HandsOn turned w i next → HandsOn x w i next
  hands_back w i next h =
      (λ writes. h.0 (writes_on w writes), leads_to (operation_of x.code) i next x (back (λ o. LeadsTo o i turned next) h.1))

-- ---- a program

found : (p : List Insn) (i : ℕ) (y : Insn) → slice_get (map other_half p) i ≡ Some y → (x : Insn) × (slice_get p i ≡ Some x) × (other_half x ≡ y)
found [] i y h = cc
found (x ∷ p) zero y h = (x, refl, cc)
found (x ∷ p) (suc i) y h = found p i y h

unwritten : (p : List Insn) (w i : ℕ) → Unwritten (map other_half p) w i → Unwritten p w i
unwritten p w _ Unwritten.at_first = Unwritten.at_first
unwritten p w _ (Unwritten.handed_on i next y before at hands) =
    let (x, here, is) = found p i y at in
    Unwritten.handed_on i next x (unwritten p w i before) here (hands_back x w i next (subst (λ z. HandsOn z w i next) (sym is) hands))

cause_by : (p : List Insn) (i : ℕ) (c : Cause) (x : Insn) → CauseAt c (map other_half p) i (other_half x) → CauseAt c p i x
cause_by p i Code x h = back x (λ o. o ≡ None) h
cause_by p i Load x h = no_word (operation_of x.code) x (back x (λ o. NamesNoWord o (other_half x).k) h)
cause_by p i Shift x h =
    let shifts = back x (λ o. (o ≡ Some ShiftLeft) ⊎ (o ≡ Some ShiftRight)) h.0 in
    (shifts, subst (λ k. 32 ≤ k) (same_number x (no_load shifts)) h.1) where
      no_load : (operation_of x.code ≡ Some ShiftLeft) ⊎ (operation_of x.code ≡ Some ShiftRight) → operation_of x.code ≡ Some LoadWord → ⊥
      no_load (inl a) b = let c : Some LoadWord ≡ Some ShiftLeft = sym b ∙ a in cc
      no_load (inr a) b = let c : Some LoadWord ≡ Some ShiftRight = sym b ∙ a in cc
cause_by p i Target x h =
    leads_out (operation_of x.code) (length p) i x
    (subst (λ n. LeadsOut (operation_of x.code) n i (other_half x)) (length-map p other_half)
    (back x (λ o. LeadsOut o (length (map other_half p)) i (other_half x)) h))
cause_by p i End x h =
    (h.0 ∙ length-map p other_half, λ returns. h.1 (on x (λ o. (o ≡ Some ReturnK) ⊎ (o ≡ Some ReturnA)) returns))
cause_by p i Scratch x h =
    let reads = back x (λ o. (o ≡ Some LoadScratch) ⊎ (o ≡ Some LoadScratchX)) h.0 in
    (reads, subst (λ k. Unwritten p k i) (same_number x (no_load reads)) (unwritten p (other_half x).k i h.1)) where
      no_load : ReadsScratch x → operation_of x.code ≡ Some LoadWord → ⊥
      no_load (inl a) b = let c : Some LoadWord ≡ Some LoadScratch = sym b ∙ a in cc
      no_load (inr a) b = let c : Some LoadWord ≡ Some LoadScratchX = sym b ∙ a in cc

cause_back : (p : List Insn) (i : ℕ) (c : Cause) → HasCause (map other_half p) i c → HasCause p i c
cause_back p i c (y, at, h) =
    let (x, here, is) = found p i y at in (x, here, cause_by p i c x (subst (CauseAt c (map other_half p) i) (sym is) h))

accepted_on : (p : List Insn) → IsAccepted p → IsAccepted (map other_half p)
accepted_on p is = record {
  some = omega (arith, is.some, length-map p other_half);
  limit = omega (arith, is.limit, length-map p other_half);
  no_cause = λ i c h. is.no_cause i c (cause_back p i c h);
}

pub same_accepted : (p : List Insn) → IsAccepted p ↔ IsAccepted (map other_half p)
same_accepted p = (accepted_on p, λ is. subst IsAccepted (twice_all p) (accepted_on (map other_half p) is))
