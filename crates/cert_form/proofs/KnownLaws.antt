-- Entries that all state literals, as claims.
use Rattle.std.proofs.Common.{◌≡◌, ℕ, suc, Bool, true, false, cond, eqb, List, [], ◌∷◌, ◌++◌, length, reverse, map, refl, ap}
use Rattle.std.proofs.Common.{sym, subst, ◌∙◌}
use Rattle.std.specs.Prelude.{◌≢◌, Option, Some, None, option_map, slice_get}
use Rattle.std.proofs.lemmas.Bool.{ne_eqb}
use Rattle.std.proofs.lemmas.List.{length-map, map-append, reverse-append}
use Rattle.std.proofs.lemmas.Option.{same_Some, none-some, slice_get-map}
use Rattle.cert_state.specs.declared.literal.Lit.{Lit}
use Rattle.cert_form.specs.declared.node.Claim.{Claim}
use Rattle.cert_form.specs.declared.node.Claim.TheVariants.{Knows}
use Rattle.cert_form.specs.declared.node.ChainNode.{ChainNode}
use Rattle.cert_form.specs.Nodes.{PlainNode, on_chain_back, on_chain, literals, literals_in, outs_in, mets_in, said, said_plainly}
use Rattle.cert_form.specs.Spelling.{AreEntries, IsEntry}
use Rattle.cert_form.specs.Writing.{all_known, AreLiteralEntries}

abbrev as_claim : ℕ × Lit → ℕ × Claim
as_claim e = (e.0, Knows e.1)

reverse-map : (es : List (ℕ × Lit)) → reverse (map as_claim es) ≡ map as_claim (reverse es)
reverse-map [] = refl
reverse-map (e ∷ es) =
    reverse-append (as_claim e ∷ []) (map as_claim es)
    ∙ (ap (λ (xs : List (ℕ × Claim)). xs ++ as_claim e ∷ []) (reverse-map es)
    ∙ (sym (map-append as_claim (reverse es) (e ∷ [])) ∙ ap (map as_claim) (sym (reverse-append (e ∷ []) es))))

pub length-known : (es : List (ℕ × Lit)) → length (all_known es) ≡ length es
length-known es = length-map es as_claim

back_known : (es : List (ℕ × Lit)) (n : ℕ) → on_chain_back (map as_claim es) n ≡ map Knows (on_chain_back es n)
back_known [] n = refl
back_known (e ∷ es) n =
    ap (λ k. cond (eqb n (suc k)) (Knows e.1 ∷ on_chain_back (map as_claim es) e.0) (on_chain_back (map as_claim es) n))
    (length-map es as_claim)
    ∙ by_test (eqb n (suc (length es))) (back_known es e.0) (back_known es n) where
      by_test : (b : Bool) → on_chain_back (map as_claim es) e.0 ≡ map Knows (on_chain_back es e.0)
          → on_chain_back (map as_claim es) n ≡ map Knows (on_chain_back es n)
          → cond b (Knows e.1 ∷ on_chain_back (map as_claim es) e.0) (on_chain_back (map as_claim es) n)
          ≡ map Knows (cond b (e.1 ∷ on_chain_back es e.0) (on_chain_back es n))
      by_test true above other = ap (λ cs. Knows e.1 ∷ cs) above
      by_test false above other = other

pub stated_known : (es : List (ℕ × Lit)) (n : ℕ) → on_chain (all_known es) n ≡ map Knows (literals es n)
stated_known es n = ap (λ cs. on_chain_back cs n) (reverse-map es) ∙ back_known (reverse es) n

literals_known : (ls : List Lit) → literals_in (map Knows ls) ≡ ls
literals_known [] = refl
literals_known (l ∷ ls) = ap (λ ms. l ∷ ms) (literals_known ls)

outs_known : (ls : List Lit) → outs_in (map Knows ls) ≡ []
outs_known [] = refl
outs_known (l ∷ ls) = outs_known ls

mets_known : (ls : List Lit) → mets_in (map Knows ls) ≡ []
mets_known [] = refl
mets_known (l ∷ ls) = mets_known ls

pub length_known : (es : List (ℕ × Lit)) (n : ℕ) → length (on_chain (all_known es) n) ≡ length (literals es n)
length_known es n = ap length (stated_known es n) ∙ length-map (literals es n) Knows

same_said : (version : ℕ) → version ≢ 4 → (es : List (ℕ × Lit)) (n : ChainNode) → said version (all_known es) n ≡ said_plainly es n
same_said version other es n =
    let plain : List Claim = map Knows (literals es n.chain) in
    ap (λ cs. with_claims (literals_in cs) (outs_in cs) (mets_in cs) (eqb version 4)) (stated_known es n.chain)
    ∙ (ap (λ ls. with_claims ls (outs_in plain) (mets_in plain) (eqb version 4)) (literals_known (literals es n.chain))
    ∙ (ap (λ os. with_claims (literals es n.chain) os (mets_in plain) (eqb version 4)) (outs_known (literals es n.chain))
    ∙ (ap (λ ms. with_claims (literals es n.chain) [] ms (eqb version 4)) (mets_known (literals es n.chain))
    ∙ ap (λ b. with_claims (literals es n.chain) [] [] b) (ne_eqb version 4 other)))) where
      with_claims : List Lit → List ℕ → List (ℕ × ℕ) → Bool → PlainNode
      with_claims ls os ms b = record { kind = n.kind; pc = n.pc; regs = n.regs; known = ls; out = os; met = ms; sharp = b }

pub all_said : (version : ℕ) → version ≢ 4 → (es : List (ℕ × Lit)) (ns : List ChainNode)
    → map (said version (all_known es)) ns ≡ map (said_plainly es) ns
all_said version other es [] = refl
all_said version other es (n ∷ ns) =
    ap (λ m. m ∷ map (said version (all_known es)) ns) (same_said version other es n)
    ∙ ap (λ ms. said_plainly es n ∷ ms) (all_said version other es ns)

pub entries_known : (version : ℕ) (es : List (ℕ × Lit)) → AreLiteralEntries es → AreEntries version (all_known es)
entries_known version es all j e got = by_place (slice_get es j) refl (sym (slice_get-map as_claim es j) ∙ got) where
  by_place : (o : Option (ℕ × Lit)) → slice_get es j ≡ o → option_map as_claim o ≡ Some e → IsEntry version j e
  by_place None here there = absurd (none-some e there)
  by_place (Some p) here there =
      let one = all j p here in
      subst (IsEntry version j) (same_Some (as_claim p) e there) (record { earlier = one.earlier; claim = one.literal })
