-- The listing of more instructions.
use Rattle.std.proofs.Common.{◌≡◌, ℕ, zero, suc, ◌+◌, List, [], ◌∷◌, ◌++◌, take, ap, sym, ◌∙◌, arith, append_assoc}
use Rattle.std.specs.Prelude.{Some, slice_get}
use Rattle.bpf_insn.specs.declared.instruction.Insn.{Insn}
use Rattle.bpf_asm.specs.Listing.{line_of, listing}

-- the listing of one instruction more, the last of which is i
pub listing_more : (p : List Insn) (n : ℕ) (i : Insn) → slice_get p n ≡ Some i
    → listing (take (n + 1) p) ≡ listing (take n p) ++ (line_of i ++ 10 ∷ [])
listing_more [] n i h = cc
listing_more (j ∷ p) zero i h =
    let same : j ≡ i = cc in
    ap (λ x. (line_of x ++ 10 ∷ []) ++ []) same ∙ simp append_assoc
listing_more (j ∷ p) (suc n) i h =
    let next : suc n + 1 ≡ suc (n + 1) = omega arith in
    let front : List ℕ = line_of j ++ 10 ∷ [] in
    rw next (ap (λ t. front ++ t) (listing_more p n i h) ∙ sym (append_assoc front (listing (take n p)) (line_of i ++ 10 ∷ [])))
